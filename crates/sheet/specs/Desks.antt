-- The desk on which the sheet is made: its calls, and how a caller goes. Theorem `sheet_right` says that they come to `sheet_of`, however the
-- session and the recorded answers are cut. Assumes nothing.
use Rattle.std.specs.Prelude.{ℕ, ◌-◌, Bool, true, false, not, cond, ◌&&◌, ◌||◌, List, [], eqb, ltb, length, take, drop}
use Rattle.session_frame.specs.declared.Frame.{Frame}
use Rattle.session_frame.specs.Frames.{longest, frame_of}
use Rattle.session_line.specs.declared.Line.{Line}
use Rattle.session_line.specs.declared.Step.{Step}
use Rattle.session_line.specs.Machine.{no_line, has_begun, step_of, room_of}
use Rattle.state.specs.declared.State.{State}
use Rattle.state.specs.Places.{before_start}
use Rattle.session_reply.specs.Replies.{answer_to}
use Rattle.session.specs.Rooms.{most_words, most_text, After, after_line}
use Rattle.sheet.specs.declared.Event.{Event}
use Rattle.sheet.specs.declared.Desk.{Desk}
use Rattle.sheet.specs.declared.Taken.{Taken}
use Rattle.sheet.specs.Events.{event_of}
use Rattle.sheet.specs.Rows.{next, none_listed, listed_after}
use Rattle.sheet.specs.Sheet.{same_bytes}

-- nothing has come
abbrev pub new_desk : Desk
new_desk =
    record {
      state = before_start;
      session = no_line;
      recorded = no_line;
      frames = 0;
      differs = 0;
      waits = false;
      length = 0;
      over = false;
      done = false;
      listed = none_listed;
    }

-- the line that stands in its room: nothing is kept of an overlong one, and the empty line stands for it: of a session it is malformed too, and
-- no answer is empty
unfoldable pub held_text : Line → List ℕ → List ℕ
held_text line room = cond line.overlong [] (take line.filled room)

-- ---- a line of the session

-- all that its answer leaves
abbrev pub line_after : Desk → List ℕ → List ℕ → List ℕ → List ℕ → After
line_after d area line words out = after_line (answer_to d.state area line) d.state area line words out

-- the desk after the next frame: its event followed; its answer waits for its recorded line, or differs at once if there are no more
unfoldable pub followed_desk : Desk → State → Event → ℕ → Desk
followed_desk d s e n =
    let k = next d.frames in
    record {
      state = s;
      session = no_line;
      recorded = d.recorded;
      frames = k;
      differs = cond (eqb d.differs 0 && d.done) k d.differs;
      waits = eqb d.differs 0 && not d.done;
      length = n - 1;
      over = d.over;
      done = d.done;
      listed = listed_after e k d.listed;
    }

unfoldable pub played_desk : Desk → Frame → After → Desk
played_desk d f x = followed_desk d x.state (event_of d.state f (take x.length x.out)) x.length

-- ---- the desk with one thing changed

abbrev pub with_session : Desk → Line → Desk
with_session d line =
    record { state = d.state; session = line; recorded = d.recorded; frames = d.frames; differs = d.differs; waits = d.waits; length = d.length; over = d.over; done = d.done; listed = d.listed }

abbrev pub with_recorded : Desk → Line → Desk
with_recorded d line =
    record { state = d.state; session = d.session; recorded = line; frames = d.frames; differs = d.differs; waits = d.waits; length = d.length; over = d.over; done = d.done; listed = d.listed }

abbrev pub with_over : Desk → Desk
with_over d =
    record { state = d.state; session = d.session; recorded = d.recorded; frames = d.frames; differs = d.differs; waits = d.waits; length = d.length; over = true; done = d.done; listed = d.listed }

abbrev pub with_done : Desk → Desk
with_done d =
    record { state = d.state; session = d.session; recorded = d.recorded; frames = d.frames; differs = d.differs; waits = d.waits; length = d.length; over = d.over; done = true; listed = d.listed }

-- no answer waits any more, the next recorded line begins, and the first difference is n
abbrev pub judged : Desk → ℕ → Desk
judged d n =
    record { state = d.state; session = d.session; recorded = no_line; frames = d.frames; differs = n; waits = false; length = d.length; over = d.over; done = d.done; listed = d.listed }

-- ---- what becomes of the answer that waits

unfoldable pub compared_desk : Desk → List ℕ → List ℕ → Desk
compared_desk d out text = judged d (cond (same_bytes (take d.length out) text) d.differs d.frames)

abbrev pub missing_desk : Desk → Desk
missing_desk d =
    record { state = d.state; session = d.session; recorded = d.recorded; frames = d.frames; differs = d.frames; waits = false; length = d.length; over = d.over; done = d.done; listed = d.listed }

abbrev pub extra_desk : Desk → Desk
extra_desk d =
    record { state = d.state; session = d.session; recorded = d.recorded; frames = d.frames; differs = next d.frames; waits = d.waits; length = d.length; over = d.over; done = d.done; listed = d.listed }

-- ---- what is not asked for is not taken

abbrev pub asks_no_line : Desk → ℕ → ℕ → ℕ → Bool
asks_no_line d room words out = (((d.waits || d.over) || ltb room longest) || ltb words most_words) || ltb out most_text

abbrev pub asks_no_answer : Desk → ℕ → Bool
asks_no_answer d other = ((not (eqb d.differs 0) || d.done) || (not d.waits && not d.over)) || ltb other longest

-- ---- the calls on the session

-- the desk, the place in the part, and all that is lent
pub record Sat : Type 0 where
  pub desk : Desk
  pub at : ℕ
  pub area : List ℕ
  pub room : List ℕ
  pub words : List ℕ
  pub out : List ℕ

abbrev pub taken_of : Sat → Taken
taken_of x = record { desk = x.desk; at = x.at }

abbrev pub sat_with : Desk → ℕ → List ℕ → List ℕ → List ℕ → List ℕ → Sat
sat_with d at area room words out = record { desk = d; at = at; area = area; room = room; words = words; out = out }

-- a line is played
unfoldable pub played_sat : Desk → List ℕ → ℕ → List ℕ → List ℕ → List ℕ → List ℕ → Sat
played_sat d line at area room words out =
    let x = line_after d area line words out in
    sat_with (played_desk d (frame_of line) x) at x.area room x.words x.out

unfoldable pub stepped_sat : Desk → List ℕ → List ℕ → List ℕ → List ℕ → Step → Sat
stepped_sat d area room words out step =
    cond step.ended (played_sat d (held_text step.line room) step.at area room words out)
    (sat_with (with_session d step.line) step.at area room words out)

unfoldable pub session_part : Desk → List ℕ → List ℕ → List ℕ → List ℕ → ℕ → List ℕ → Sat
session_part d area room words bytes at out =
    cond (asks_no_line d (length room) (length words) (length out)) (sat_with d at area room words out)
    (stepped_sat d area (room_of d.session (drop at bytes) room) words out (step_of d.session (drop at bytes) at room))

abbrev pub over_sat : Sat → Sat
over_sat x = sat_with (with_over x.desk) x.at x.area x.room x.words x.out

unfoldable pub session_end : Desk → List ℕ → List ℕ → List ℕ → List ℕ → Sat
session_end d area room words out =
    cond (asks_no_line d (length room) (length words) (length out)) (sat_with d 0 area room words out)
    (over_sat (cond (has_begun d.session) (played_sat d (held_text d.session room) 0 area room words out) (sat_with d 0 area room words out)))

-- ---- the calls on the recorded answers

abbrev pub taken_with : Desk → ℕ → Taken
taken_with d at = record { desk = d; at = at }

unfoldable pub answers_step : Desk → List ℕ → List ℕ → Step → Taken
answers_step d other out step =
    cond step.ended (taken_with (compared_desk d out (held_text step.line other)) step.at) (taken_with (with_recorded d step.line) step.at)

unfoldable pub answers_part : Desk → List ℕ → List ℕ → ℕ → List ℕ → Taken
answers_part d other bytes at out =
    cond (asks_no_answer d (length other)) (taken_with d at)
    (cond (not d.waits) (cond (ltb at (length bytes)) (taken_with (extra_desk d) at) (taken_with d at))
    (answers_step d (room_of d.recorded (drop at bytes) other) out (step_of d.recorded (drop at bytes) at other)))

unfoldable pub answers_room : Desk → List ℕ → List ℕ → ℕ → List ℕ
answers_room d other bytes at =
    cond (asks_no_answer d (length other) || not d.waits) other (room_of d.recorded (drop at bytes) other)

unfoldable pub answers_end : Desk → List ℕ → List ℕ → Desk
answers_end d other out =
    cond d.done d
    (cond (not d.waits) (with_done d)
    (with_done (cond (has_begun d.recorded) (compared_desk d out (held_text d.recorded other)) (missing_desk d))))
