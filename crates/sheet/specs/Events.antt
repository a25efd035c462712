-- What a line comes to for the sheet: by its frame, the state in which it was given, and its answer line (document 01, "The session program").
-- Assumes nothing.
use Rattle.std.specs.Prelude.{ℕ, Bool, true, false, not, ◌&&◌, ◌||◌, List, eqb, get_or}
use Rattle.session_frame.specs.declared.AskFrame.{AskFrame}
use Rattle.session_frame.specs.declared.ReportFrame.{ReportFrame}
use Rattle.session_frame.specs.declared.Frame.{Frame}
use Rattle.session_frame.specs.declared.Frame.TheVariants.{Malformed, Fresh, Open, Close, Ask, Report, Get, Put, Seal, Skip, Freeze, Thaw, Return, Running}
use Rattle.state.specs.declared.State.{State}
use Rattle.state.specs.Places.{file_at}
use Rattle.sheet.specs.declared.Event.{Event}

-- the digits in places i and j of a line are 0 and this one
unfoldable pub is_pair : List ℕ → ℕ → ℕ → ℕ → Bool
is_pair text i j digit = eqb (get_or text i 0) 48 && eqb (get_or text j 0) digit

-- "First byte 00 or the refusal."
abbrev pub is_accepted : List ℕ → Bool
is_accepted text = is_pair text 0 1 48

-- "Report adds result, ..; results are 00 repeated, ..", and "the report's result is 07 in place of 00": every other result answers the request
abbrev pub is_repeated : List ℕ → Bool
is_repeated text = is_pair text 2 3 48 || is_pair text 2 3 55

abbrev pub no_event : Event
no_event = record { asked = false; reported = false; answered = false; started = false; file = 0; channel = 0; unit = 0 }

-- the channel and the unit of an ask are those of its file in the state
unfoldable pub ask_event : State → AskFrame → Bool → Event
ask_event s q accepted =
    record {
      asked = accepted;
      reported = false;
      answered = false;
      started = false;
      file = q.file;
      channel = (file_at s q.file).channel;
      unit = (file_at s q.file).unit;
    }

abbrev pub report_event : ReportFrame → Bool → Bool → Event
report_event q accepted repeated =
    record {
      asked = false;
      reported = accepted;
      answered = accepted && not repeated;
      started = false;
      file = 0;
      channel = q.channel;
      unit = q.unit;
    }

abbrev pub start_event : Bool → Event
start_event accepted =
    record { asked = false; reported = false; answered = false; started = accepted; file = 0; channel = 0; unit = 0 }

abbrev pub event_of : State → Frame → List ℕ → Event
event_of s (Fresh q) text = start_event (is_accepted text)
event_of s (Ask q) text = ask_event s q (is_accepted text)
event_of s (Report q) text = report_event q (is_accepted text) (is_repeated text)
event_of s Malformed text = no_event
event_of s (Open q) text = no_event
event_of s (Close file) text = no_event
event_of s (Get file) text = no_event
event_of s (Put q) text = no_event
event_of s (Seal file) text = no_event
event_of s (Skip file) text = no_event
event_of s Freeze text = no_event
event_of s Thaw text = no_event
event_of s Return text = no_event
event_of s Running text = no_event
