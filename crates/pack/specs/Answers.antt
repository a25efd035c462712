-- The thirteen calls as the code's `answer` takes and answers them: numbers by value, words and area lent. Assumes nothing.
use Rattle.std.specs.Prelude.{ℕ, List}
use Rattle.area.specs.Parts.{part_of}
use Rattle.file_input.specs.Gets.{got_start, got_words}
use Rattle.state.specs.declared.Called.{Called}
use Rattle.pack_request.specs.declared.Asking.{Asking}
use Rattle.pack_request.specs.declared.Reporting.{Reporting}
use Rattle.pack_routine.specs.declared.Ran.{Ran}
use Rattle.pack_record.specs.declared.Getting.{Getting}
use Rattle.pack.specs.declared.AnyCall.{AnyCall}
use Rattle.pack.specs.declared.AnyCall.TheVariants as any
use Rattle.pack.specs.declared.Adds.{Adds}
use Rattle.pack.specs.declared.Adds.TheVariants as adds
use Rattle.pack.specs.declared.AnyAnswer.{AnyAnswer}
use Rattle.pack.specs.Calls.{Call, fresh, opening, close, ask, report, get, put, seal, skip, freeze, thaw, return, running, Added, nothing, working, reported, got, returned, runs, Answer}

-- the call that a value names, with the words that are lent beside it
abbrev pub call_of : AnyCall → List ℕ → Call
call_of (any.Fresh m w masks) words = fresh m w masks
call_of (any.Open file channel unit flags size rlen) words = opening file channel unit flags size rlen
call_of (any.Close file) words = close file
call_of (any.Ask file op priority naming) words = ask file op priority naming
call_of (any.Report channel unit outcome len) words = report channel unit outcome len words
call_of (any.Get file) words = get file
call_of (any.Put file) words = put file words
call_of (any.Seal file) words = seal file
call_of (any.Skip file) words = skip file
call_of any.Freeze words = freeze
call_of any.Thaw words = thaw
call_of any.Return words = return
call_of any.Running words = running

abbrev pub added_of : Adds → Added
added_of adds.Nothing = nothing
added_of (adds.Working u) = working u
added_of (adds.Reported result delivery u) = reported result delivery u
added_of (adds.Found g) = got g
added_of (adds.Returned entered program) = returned entered program
added_of (adds.Runs program) = runs program

-- the answer that a value is, with the area after the call: the words that it shows are a part of that area
abbrev pub answer_by : AnyAnswer → List ℕ → Answer
answer_by r area =
    record { refusal = r.refusal; added = added_of r.adds; shows = part_of r.start r.count area; state = r.state; area = area }

-- ---- the value for the answer of each group of calls

abbrev pub plain_answer : Called → AnyAnswer
plain_answer r = record { refusal = r.refusal; adds = adds.Nothing; start = 0; count = 0; state = r.state }

abbrev pub ask_answer : Asking → AnyAnswer
ask_answer r = record { refusal = r.refusal; adds = adds.Working r.working; start = 0; count = 0; state = r.state }

abbrev pub report_answer : Reporting → AnyAnswer
report_answer r =
    record {
      refusal = r.refusal;
      adds = adds.Reported r.result r.delivery r.working;
      start = r.start;
      count = r.count;
      state = r.state;
    }

abbrev pub get_answer : Getting → AnyAnswer
get_answer r =
    record { refusal = r.refusal; adds = adds.Found r.got; start = got_start r.got; count = got_words r.got; state = r.state }

abbrev pub return_answer : Ran → AnyAnswer
return_answer r = record { refusal = r.refusal; adds = adds.Returned r.entered r.program; start = 0; count = 0; state = r.state }

abbrev pub running_answer : Ran → AnyAnswer
running_answer r = record { refusal = r.refusal; adds = adds.Runs r.program; start = 0; count = 0; state = r.state }
