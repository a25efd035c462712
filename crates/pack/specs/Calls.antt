-- The thirteen calls as values, and the answer that each gets: what the public definition of that call makes of a state and of the area
-- that is lent to it. Assumes nothing.
use Rattle.std.specs.Prelude.{ℕ, Bool, false, List, [], length, Option, None}
use Rattle.area.specs.Parts.{part_of}
use Rattle.file_input.specs.declared.Got.{Got}
use Rattle.routines.specs.declared.Naming.{Naming}
use Rattle.routines.specs.declared.Program.{Program}
use Rattle.routines.specs.Ranks.{main_program}
use Rattle.state.specs.declared.State.{State}
use Rattle.state.specs.declared.Called.{Called}
use Rattle.pack_start.specs.declared.Masks.{Masks}
use Rattle.pack_start.specs.Fresh.{fresh_by}
use Rattle.pack_open.specs.Open.{open_by}
use Rattle.pack_open.specs.Close.{close_by}
use Rattle.pack_start.specs.Freeze.{freeze_by, thaw_by}
use Rattle.pack_request.specs.declared.Asking.{Asking}
use Rattle.pack_request.specs.declared.Reporting.{Reporting}
use Rattle.pack_request.specs.Calls.{ask_by, report_by, report_by_area}
use Rattle.pack_routine.specs.declared.Ran.{Ran}
use Rattle.pack_routine.specs.Calls.{return_by, running_by}
use Rattle.pack_record.specs.declared.Getting.{Getting}
use Rattle.call_record.specs.Get.{no_answer}
use Rattle.pack_record.specs.Gets.{get_by, get_words}
use Rattle.pack_record.specs.Skips.{skip_by}
use Rattle.pack_record.specs.Puts.{put_by, put_by_area}
use Rattle.pack_record.specs.Seals.{seal_by, seal_by_area}
use Rattle.word.specs.declared.Checked.{Checked}

-- which of the thirteen, its numbers and its words, in the order of document 01's frames; document 02's return and what runs (M-110) come last
pub data Call : Type 0 where
  -- m, W, and a mask of units for each channel
  fresh : ℕ → ℕ → Masks → Call
  -- file, channel, unit, flags, B, r
  opening : ℕ → ℕ → ℕ → ℕ → ℕ → ℕ → Call
  -- file
  close : ℕ → Call
  -- file, operation, priority, and the routine that it names
  ask : ℕ → ℕ → ℕ → Naming → Call
  -- channel, unit, outcome, length (65,536 for none), words
  report : ℕ → ℕ → ℕ → ℕ → List ℕ → Call
  -- file
  get : ℕ → Call
  -- file, words
  put : ℕ → List ℕ → Call
  -- file
  seal skip : ℕ → Call
  freeze thaw : Call
  return running : Call

-- "After 00: ask adds the channel's working unit .. Report adds result, check error, working unit .. Get adds .. Others add nothing."; return adds whether a
-- waiting routine was entered and what runs now, and what runs adds that alone (document 02, M-110)
pub data Added : Type 0 where
  nothing : Added
  working : ℕ → Added
  -- the result, what the report delivered, the working unit
  reported : ℕ → Option Checked → ℕ → Added
  got : Got → Added
  returned : Bool → Program → Added
  runs : Program → Added

-- the answer: the refusal, 0 for none; what it adds; the words of the area that it shows; the state and the area after the call
pub record Answer : Type 0 where
  pub refusal : ℕ
  pub added : Added
  pub shows : List ℕ
  pub state : State
  pub area : List ℕ

-- ---- what each group of calls answers

abbrev pub plainly : Called → List ℕ → Answer
plainly r area = record { refusal = r.refusal; added = nothing; shows = []; state = r.state; area = area }

abbrev pub asked : Asking → List ℕ → Answer
asked r area = record { refusal = r.refusal; added = working r.working; shows = []; state = r.state; area = area }

-- "the answer shows the block's words, check word last, as a part of the area"
abbrev pub told : Reporting → List ℕ → Answer
told r area =
    record {
      refusal = r.refusal;
      added = reported r.result r.delivery r.working;
      shows = part_of r.start r.count area;
      state = r.state;
      area = area;
    }

-- "the next r words, as a part of the area"
abbrev pub given : Getting → List ℕ → List ℕ → Answer
given r words area = record { refusal = r.refusal; added = got r.got; shows = words; state = r.state; area = area }

abbrev pub given_back : Ran → List ℕ → Answer
given_back r area = record { refusal = r.refusal; added = returned r.entered r.program; shows = []; state = r.state; area = area }

abbrev pub running_now : Ran → List ℕ → Answer
running_now r area = record { refusal = r.refusal; added = runs r.program; shows = []; state = r.state; area = area }

-- ---- the answer to a call, of the state that is passed and the area that is lent

unfoldable pub answer_of : State → List ℕ → Call → Answer
answer_of s area (fresh m w masks) = plainly (fresh_by s (length area) m w masks) area
answer_of s area (opening file channel unit flags size rlen) = plainly (open_by s file channel unit flags size rlen) area
answer_of s area (close file) = plainly (close_by s file) area
answer_of s area (ask file op priority naming) = asked (ask_by s file op priority naming) area
answer_of s area (report channel unit outcome len words) =
    told (report_by s area channel unit outcome len words) (report_by_area s area channel unit outcome len words)
answer_of s area (get file) = given (get_by s area file) (get_words s area file) area
answer_of s area (put file words) = plainly (put_by s area file words) (put_by_area s area file words)
answer_of s area (seal file) = plainly (seal_by s area file) (seal_by_area s area file)
answer_of s area (skip file) = plainly (skip_by s file) area
answer_of s area freeze = plainly (freeze_by s) area
answer_of s area thaw = plainly (thaw_by s) area
answer_of s area return = given_back (return_by s) area
answer_of s area running = running_now (running_by s) area

-- ---- "A refusal returns the number alone and changes nothing."

-- what an answer would add is zero
abbrev pub adds_nothing : Call → Added
adds_nothing (fresh m w masks) = nothing
adds_nothing (opening file channel unit flags size rlen) = nothing
adds_nothing (close file) = nothing
adds_nothing (ask file op priority naming) = working 0
adds_nothing (report channel unit outcome len words) = reported 0 None 0
adds_nothing (get file) = got no_answer
adds_nothing (put file words) = nothing
adds_nothing (seal file) = nothing
adds_nothing (skip file) = nothing
adds_nothing freeze = nothing
adds_nothing thaw = nothing
adds_nothing return = returned false main_program
adds_nothing running = runs main_program

-- the number n alone, the state that was passed, the area as it was lent
abbrev pub number_alone : ℕ → State → List ℕ → Call → Answer
number_alone n s area call = record { refusal = n; added = adds_nothing call; shows = []; state = s; area = area }
