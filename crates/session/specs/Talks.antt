-- A session over a slow line: a part call and an end call on one value. Theorem `session_right` says that they write `session_of`, however the
-- session is cut. Assumes nothing.
use Rattle.std.specs.Prelude.{ℕ, zero, suc, Bool, true, false, cond, ◌||◌, List, [], ◌∷◌, ◌++◌, map, leb, ltb, length, take, replicate}
use Rattle.area.specs.Lists.{all_of}
use Rattle.session_frame.specs.Frames.{longest}
use Rattle.session_line.specs.declared.Line.{Line}
use Rattle.session_line.specs.Machine.{no_line}
use Rattle.session_line.specs.Runs.{joined}
use Rattle.state.specs.declared.State.{State}
use Rattle.state.specs.Places.{before_start}
use Rattle.session.specs.Rooms.{most_words, most_text, After}
use Rattle.session.specs.Session.{area_words}
use Rattle.session.specs.Player.{Player, player_with, play_part, end_of}
use Rattle.session.specs.declared.Talk.{Talk}
use Rattle.session.specs.declared.Heard.{Heard}

-- "after it any further part or end is refused 17."
abbrev pub after_the_end : ℕ
after_the_end = 17

-- a room is too short for a line, for its words or for its answer: refused 1, as a short area is, while there is something to play
abbrev pub too_short : ℕ
too_short = 1

abbrev pub short_rooms : ℕ → ℕ → ℕ → Bool
short_rooms room words out = ltb room longest || ltb words most_words || ltb out most_text

-- the state, what has begun of a line, and whether the input has ended
abbrev pub talk_with : State → Line → Bool → Talk
talk_with s line ended = record { state = s; line = line; ended = ended }

-- nothing has come
abbrev pub new_talk : Talk
new_talk = talk_with before_start no_line false

-- a session between two calls: the value, and what its caller keeps for it: the area, the room for a line and the room for its words
pub record Desk : Type 0 where
  pub talk : Talk
  pub area : List ℕ
  pub room : List ℕ
  pub words : List ℕ

abbrev pub desk_with : Talk → List ℕ → List ℕ → List ℕ → Desk
desk_with t area room words = record { talk = t; area = area; room = room; words = words }

-- everything after a call: its answer, the desk, and the output
pub record Call : Type 0 where
  pub refusal : ℕ
  pub at : ℕ
  pub length : ℕ
  pub desk : Desk
  pub out : List ℕ

abbrev pub heard_of : Call → Heard
heard_of x = record { refusal = x.refusal; talk = x.desk.talk; at = x.at; length = x.length }

-- ---- the two calls

-- a refusal changes nothing: no place further, nothing written
unfoldable pub refused_call : ℕ → Desk → ℕ → List ℕ → Call
refused_call n d at out = record { refusal = n; at = at; length = 0; desk = d; out = out }

abbrev pub lacks_room : Desk → List ℕ → Bool
lacks_room d out = short_rooms (length d.room) (length d.words) (length out)

abbrev pub player_at : Desk → ℕ → List ℕ → Player
player_at d at out = player_with d.talk.state d.area d.talk.line d.room d.words at out 0

unfoldable pub played_call : Player → Call
played_call p =
    record { refusal = 0; at = p.at; length = p.length; desk = desk_with (talk_with p.state p.line false) p.area p.room p.words; out = p.out }

-- a part from place `at` on, played until it is used up or the output has no room for one more answer
unfoldable pub part_call : Desk → List ℕ → ℕ → List ℕ → Call
part_call d bytes at out =
    cond d.talk.ended (refused_call after_the_end d at out)
    (cond (lacks_room d out) (refused_call too_short d at out) (played_call (play_part false bytes (player_at d at out))))

unfoldable pub ended_call : List ℕ → After → Call
ended_call room x =
    record { refusal = 0; at = 0; length = x.length; desk = desk_with (talk_with x.state no_line true) x.area room x.words; out = x.out }

-- "A call that ends the input gives the last unterminated line its answer"
unfoldable pub end_call : Desk → List ℕ → Call
end_call d out =
    cond d.talk.ended (refused_call after_the_end d 0 out)
    (cond (lacks_room d out) (refused_call too_short d 0 out)
    (ended_call d.room (end_of d.talk.state d.area d.talk.line d.room d.words out)))

-- ---- a whole session, as its caller goes

-- what was written, one output after the other, and the desk then
pub record Said : Type 0 where
  pub text : List ℕ
  pub desk : Desk

unfoldable pub said_after : List ℕ → Said → Said
said_after text r = record { text = text ++ r.text; desk = r.desk }

-- a part, and the output that is lent with it
pub record Piece : Type 0 where
  pub bytes : List ℕ
  pub out : List ℕ

-- at most `calls` calls for one part: each goes on where the last stopped, and uses the output anew
unfoldable pub say_part : ℕ → Desk → List ℕ → ℕ → List ℕ → Said
say_part zero d bytes at out = record { text = []; desk = d }
say_part (suc calls) d bytes at out =
    let x = part_call d bytes at out in
    said_after (take x.length x.out)
    (cond (leb (length bytes) x.at) (record { text = []; desk = x.desk }) (say_part calls x.desk bytes x.at x.out))

-- one call more than a part has bytes is always enough
unfoldable pub say_parts : Desk → List Piece → Said
say_parts d [] = record { text = []; desk = d }
say_parts d (piece ∷ pieces) =
    let r = say_part (suc (length piece.bytes)) d piece.bytes 0 piece.out in
    said_after r.text (say_parts r.desk pieces)

-- a call, as a value: a part from a place on, or the end, with the output that is lent with it
pub data AnyCall : Type 0 where
  APart : List ℕ → ℕ → List ℕ → AnyCall
  AnEnd : List ℕ → AnyCall

unfoldable pub call_on : Desk → AnyCall → Call
call_on d (APart bytes at out) = part_call d bytes at out
call_on d (AnEnd out) = end_call d out

unfoldable pub say_calls : Desk → List AnyCall → Said
say_calls d [] = record { text = []; desk = d }
say_calls d (call ∷ calls) = let x = call_on d call in said_after (take x.length x.out) (say_calls x.desk calls)

-- the parts, the end, and whatever calls come after it
unfoldable pub say_all : Desk → List Piece → List ℕ → List AnyCall → Said
say_all d pieces out late =
    let r = say_parts d pieces in
    let x = end_call r.desk out in
    said_after r.text (said_after (take x.length x.out) (say_calls x.desk late))

-- from before the first fresh start, with an area of zeros
unfoldable pub play_session : List ℕ → List ℕ → List Piece → List ℕ → List AnyCall → Said
play_session room words pieces out late = say_all (desk_with new_talk (replicate area_words 0) room words) pieces out late

-- every output takes an answer
unfoldable pub take_answers : List Piece → Bool
take_answers pieces = all_of (λ (piece : Piece). leb most_text (length piece.out)) pieces

-- the session that the parts make together
unfoldable pub bytes_in : List Piece → List ℕ
bytes_in pieces = joined (map (λ (piece : Piece). piece.bytes) pieces)
