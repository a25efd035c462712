-- What the history of a session says of the requests that a sheet lists: by the calls and their answers, as demand 3 counts them. Assumes nothing.
use Rattle.std.specs.Prelude.{ℕ, ◌+◌, ◌*◌, ◌≤◌, ◌≡◌, Bool, true, false, ◌&&◌, List, [], ◌∷◌, eqb, take}
use Rattle.std.proofs.Math.Option.{Option, none, some}
use Rattle.state.specs.declared.State.{State}
use Rattle.state.specs.Places.{file_at}
use Rattle.pack.specs.Calls.{Call, fresh, opening, close, ask, report, get, put, seal, skip, freeze, thaw, return, running, Answer, answer_of}
use Rattle.pack.specs.Histories.{is_accepted, is_answer, count, is_report_on, is_answer_for, fresh_start}
use Rattle.pack.specs.Books.{Book}
use Rattle.demands.specs.Demands.{priorities}
use Rattle.demands_session.specs.Played.{call_in, calls_in, state_for, area_for, lent_from}
use Rattle.sheet.specs.declared.Event.{Event}
use Rattle.sheet.specs.declared.Row.{Row}
use Rattle.sheet.specs.Events.{no_event, start_event}

-- what a call and its answer come to: an accepted ask of a file on its channel and unit, an accepted report and whether it answers a request, an
-- accepted fresh start
abbrev pub call_event : State → Call → Answer → Event
call_event s (fresh m w masks) a = start_event (is_accepted a)
call_event s (ask file op priority naming) a =
    record { asked = is_accepted a; reported = false; answered = false; started = false; file = file; channel = (file_at s file).channel; unit = (file_at s file).unit }
call_event s (report channel unit outcome len words) a =
    record { asked = false; reported = is_accepted a; answered = is_accepted a && is_answer a.added; started = false; file = 0; channel = channel; unit = unit }
call_event s (opening file channel unit flags size rlen) a = no_event
call_event s (close file) a = no_event
call_event s (get file) a = no_event
call_event s (put file words) a = no_event
call_event s (seal file) a = no_event
call_event s (skip file) a = no_event
call_event s freeze a = no_event
call_event s thaw a = no_event
call_event s return a = no_event
call_event s running a = no_event

-- a line that is no frame is no call
abbrev pub event_for : State → List ℕ → Option Call → Event
event_for s area none = no_event
event_for s area (some call) = call_event s call (answer_of s area call)

-- of lines, each given the state and the area that the one before left
unfoldable pub events_by : State → List ℕ → List (List ℕ) → List Event
events_by s area [] = []
events_by s area (l ∷ ls) = event_for s area (call_in l) ∷ events_by (state_for s area (call_in l)) (area_for s area (call_in l)) ls

-- ---- a request of unit u on channel c, accepted in frame k, and the lines `later` after it, from the state d and the area xs: its row on the sheet

-- it is answered: `lines` lines come before the report
-- that answers it; none of them answers it or is an accepted fresh start; its reports are those that its channel accepted in them, and that one
pub record Answered (c u k : ℕ) (d : State) (xs : List ℕ) (later : List (List ℕ)) (row : Row) : Type 0 where
  pub lines : ℕ
  pub frame : row.answered ≡ k + 1 + lines
  pub unanswered : count (is_answer_for c u) d (lent_from d xs (calls_in (take lines later))) ≡ 0
  pub undropped : count fresh_start d (lent_from d xs (calls_in (take lines later))) ≡ 0
  pub reports : row.reports ≡ count (is_report_on c) d (lent_from d xs (calls_in (take lines later))) + 1

-- demand 3's bound: U units are declared on its channel, and b is the channel's book at its acceptance
pub record Within (U c u k : ℕ) (b : Book) (d : State) (xs : List ℕ) (later : List (List ℕ)) (row : Row) : Type 0 where
  pub answer : Answered c u k d xs later row
  pub bound : row.reports ≤ 201 * (U + priorities c b d (lent_from d xs (calls_in (take answer.lines later))))
