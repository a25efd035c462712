-- What a line comes to (document 01, "The session program"): by the public definitions of the thirteen calls. Assumes nothing.
use Rattle.std.specs.Prelude.{ℕ, cond, List, [], eqb, length, drop, Option, Some, None}
use Rattle.area.specs.Parts.{part_of}
use Rattle.session_frame.specs.Digits.{bytes_of}
use Rattle.session_frame.specs.Fields.{words_of}
use Rattle.session_frame.specs.declared.Masks as frame
use Rattle.session_frame.specs.declared.Frame.{Frame}
use Rattle.session_frame.specs.declared.Frame.TheVariants.{Malformed, Fresh, Open, Close, Ask, Report, Get, Put, Seal, Skip, Freeze, Thaw, Return, Running}
use Rattle.session_frame.specs.Frames.{words_at, frame_of}
use Rattle.session_frame.specs.declared.Answer.{Answer}
use Rattle.session_frame.specs.declared.Answer.TheVariants as answer
use Rattle.session_frame.specs.Answers.{answer_text}
use Rattle.file_input.specs.declared.Got.{Got}
use Rattle.file_input.specs.declared.Got.TheVariants as got
use Rattle.file_input.specs.Gets.{got_number}
use Rattle.state.specs.declared.State.{State}
use Rattle.pack_start.specs.declared.Masks.{Masks}
use Rattle.pack_start.specs.Fresh.{fresh_by}
use Rattle.pack_open.specs.Open.{open_by}
use Rattle.pack_open.specs.Close.{close_by}
use Rattle.pack_start.specs.Freeze.{freeze_by, thaw_by}
use Rattle.pack_request.specs.Calls.{ask_by, report_by, report_by_area}
use Rattle.pack_routine.specs.Calls.{return_by, running_by}
use Rattle.pack_record.specs.Gets.{get_by, get_words}
use Rattle.pack_record.specs.Skips.{skip_by}
use Rattle.pack_record.specs.Puts.{put_by, put_by_area}
use Rattle.pack_record.specs.Seals.{seal_by, seal_by_area}
use Rattle.word.specs.declared.Checked.{Checked}

-- the state and the area after a line, its answer, and the words that the answer shows
pub record Reply : Type 0 where
  pub state : State
  pub area : List ℕ
  pub answer : Answer
  pub words : List ℕ

-- "First byte 00 or the refusal."
abbrev pub answer_or : ℕ → Answer → Answer
answer_or n a = cond (eqb n 0) a (answer.Refused n)

-- "Others add nothing.": a call that leaves the area alone, and one that does not
abbrev pub quietly : ℕ → State → List ℕ → Reply
quietly n s area = record { state = s; area = area; answer = answer_or n answer.Done; words = [] }

-- "five two-byte unit masks (bit u for unit u)", as a fresh start takes them
abbrev pub masks_of : frame.Masks → Masks
masks_of k = record { a = k.a; b = k.b; c = k.c; d = k.d; e = k.e }

-- "Get adds 00 and words, 01 nothing yet, 02 end, 03 and the check error, 04 and a leftover."
abbrev pub got_answer : Got → Answer
got_answer (got.Record start n) = answer.Got (got_number (got.Record start n))
got_answer (got.Leftover start n) = answer.Got (got_number (got.Leftover start n))
got_answer (got.Error e) = answer.GotError (got_number (got.Error e)) e
got_answer got.End = answer.Got (got_number got.End)
got_answer got.Nothing = answer.Got (got_number got.Nothing)

-- "Report adds result, check error, working unit"; with what was found if it delivers a block
abbrev pub report_answer : ℕ → Option Checked → ℕ → Answer
report_answer result None working = answer.Reported result working
report_answer result (Some found) working = answer.Delivered result found working

-- the words that come with a line: "04 channel unit outcome words", after a length if there is one; "06 put file words"
unfoldable pub given_words : Frame → List ℕ → List ℕ
given_words (Report q) line = words_of (drop (words_at q) (bytes_of line))
given_words (Put q) line = words_of (drop 2 (bytes_of line))
given_words Malformed line = []
given_words (Fresh q) line = []
given_words (Open q) line = []
given_words (Close file) line = []
given_words (Ask q) line = []
given_words (Get file) line = []
given_words (Seal file) line = []
given_words (Skip file) line = []
given_words Freeze line = []
given_words Thaw line = []
given_words Return line = []
given_words Running line = []

-- a frame and its words against a state and an area
unfoldable pub reply_to : State → List ℕ → List ℕ → Frame → Reply
-- "1 | .. or a frame is malformed"
reply_to s area words Malformed = quietly 1 s area
reply_to s area words (Fresh q) =
    let x = fresh_by s (length area) q.m q.w (masks_of q.masks) in quietly x.refusal x.state area
reply_to s area words (Open q) =
    let x = open_by s q.file q.channel q.unit q.flags q.size q.rlen in quietly x.refusal x.state area
reply_to s area words (Close file) = let x = close_by s file in quietly x.refusal x.state area
-- "After 00: ask adds the channel's working unit, FF for none."
reply_to s area words (Ask q) =
    let x = ask_by s q.file q.op q.priority q.naming in
    record { state = x.state; area = area; answer = answer_or x.refusal (answer.Asked x.working); words = [] }
-- "Report adds result, check error, working unit and, if it ends a write with 01 or 04, the block's words"
reply_to s area words (Report q) =
    let x = report_by s area q.channel q.unit q.outcome q.length words in
    let after = report_by_area s area q.channel q.unit q.outcome q.length words in
    record {
      state = x.state;
      area = after;
      answer = answer_or x.refusal (report_answer x.result x.delivery x.working);
      words = part_of x.start x.count after;
    }
reply_to s area words (Get file) =
    let x = get_by s area file in
    record { state = x.state; area = area; answer = answer_or x.refusal (got_answer x.got); words = get_words s area file }
reply_to s area words (Put q) = let x = put_by s area q.file words in quietly x.refusal x.state (put_by_area s area q.file words)
reply_to s area words (Seal file) = let x = seal_by s area file in quietly x.refusal x.state (seal_by_area s area file)
reply_to s area words (Skip file) = let x = skip_by s file in quietly x.refusal x.state area
reply_to s area words Freeze = let x = freeze_by s in quietly x.refusal x.state area
reply_to s area words Thaw = let x = thaw_by s in quietly x.refusal x.state area
-- return adds whether a waiting routine was entered and what runs now, and what runs adds that alone (document 02, M-110)
reply_to s area words Return =
    let x = return_by s in
    record { state = x.state; area = area; answer = answer_or x.refusal (answer.Returned x.entered x.program); words = [] }
reply_to s area words Running =
    let x = running_by s in record { state = x.state; area = area; answer = answer_or x.refusal (answer.Runs x.program); words = [] }

-- "Each line, an empty one too, gives one answer line."
unfoldable pub answer_to : State → List ℕ → List ℕ → Reply
answer_to s area line = reply_to s area (given_words (frame_of line) line) (frame_of line)

-- the answer line, its line feed last
unfoldable pub text_of : Reply → List ℕ
text_of r = answer_text r.answer r.words
