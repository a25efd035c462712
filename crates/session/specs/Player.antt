-- The player: all that moves while a part of a session is played, and what each step makes of it. Assumes nothing.
use Rattle.std.specs.Prelude.{ℕ, zero, suc, ◌+◌, ◌-◌, Bool, false, cond, ◌||◌, List, [], ◌++◌, leb, ltb, length, take, drop}
use Rattle.session_line.specs.declared.Line.{Line}
use Rattle.session_line.specs.declared.Step.{Step}
use Rattle.session_line.specs.Machine.{no_line, has_begun, step_of, room_of}
use Rattle.state.specs.declared.State.{State}
use Rattle.session_reply.specs.Turns.{answer_on}
use Rattle.session.specs.Rooms.{most_text, After, after_line}
use Rattle.session.specs.declared.Played.{Played}

-- the state and the area, the line that has begun and its room, the room for a line's words, the place in the part, and the output with how
-- much of it is written
pub record Player : Type 0 where
  pub state : State
  pub area : List ℕ
  pub line : Line
  pub room : List ℕ
  pub words : List ℕ
  pub at : ℕ
  pub out : List ℕ
  pub length : ℕ

-- the player that has all this
abbrev pub player_with : State → List ℕ → Line → List ℕ → List ℕ → ℕ → List ℕ → ℕ → Player
player_with s area line room words at out written =
    record { state = s; area = area; line = line; room = room; words = words; at = at; out = out; length = written }

-- ---- a line's answer

-- the line that stands in the room: nothing is kept of an overlong one, and the empty line stands for it, which is malformed too
unfoldable pub held_text : Line → List ℕ → List ℕ
held_text line room = cond line.overlong [] (take line.filled room)

-- the line in the room, answered at the front of out; `unsound` stands for the judgement of the state
unfoldable pub after_held : Bool → State → List ℕ → Line → List ℕ → List ℕ → List ℕ → After
after_held unsound s area line room words out =
    after_line (answer_on unsound s area (held_text line room)) s area (held_text line room) words out

-- ---- one line more

-- the next line of a part has ended: its answer goes after what is written
unfoldable pub answered_turn : Bool → Player → Step → List ℕ → Player
answered_turn unsound p step room =
    let x = after_held unsound p.state p.area step.line room p.words (drop p.length p.out) in
    record {
      state = x.state;
      area = x.area;
      line = no_line;
      room = room;
      words = x.words;
      at = step.at;
      out = take p.length p.out ++ x.out;
      length = p.length + x.length;
    }

-- it has not
unfoldable pub open_turn : Player → Step → List ℕ → Player
open_turn p step room =
    record {
      state = p.state;
      area = p.area;
      line = step.line;
      room = room;
      words = p.words;
      at = step.at;
      out = p.out;
      length = p.length;
    }

unfoldable pub turn_of : Bool → List ℕ → Player → Player
turn_of unsound bytes p =
    let step = step_of p.line (drop p.at bytes) p.at p.room in
    let room = room_of p.line (drop p.at bytes) p.room in
    cond step.ended (answered_turn unsound p step room) (open_turn p step room)

-- ---- a part

-- the part is used up, or the output has no room for one more answer
abbrev pub is_done : List ℕ → Player → Bool
is_done bytes p = leb (length bytes) p.at || ltb (length p.out - p.length) most_text

unfoldable pub play_turns : Bool → ℕ → List ℕ → Player → Player
play_turns unsound zero bytes p = p
play_turns unsound (suc turns) bytes p = cond (is_done bytes p) p (play_turns unsound turns bytes (turn_of unsound bytes p))

-- one turn more than bytes are left is always enough
unfoldable pub play_part : Bool → List ℕ → Player → Player
play_part unsound bytes p = play_turns unsound (suc (length bytes - p.at)) bytes p

abbrev pub played_of : Player → Played
played_of p = record { state = p.state; line = p.line; at = p.at; length = p.length }

-- ---- the end of the session: what has begun is the last line

unfoldable pub end_of : State → List ℕ → Line → List ℕ → List ℕ → List ℕ → After
end_of s area line room words out =
    cond (has_begun line) (after_held false s area line room words out) (record { state = s; length = 0; area = area; words = words; out = out })
