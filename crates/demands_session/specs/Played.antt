-- A session of the program as a history of the pack's calls (document 01, "The session program"): which call a line is, and what is printed for
-- its answer. Assumes nothing.
use Rattle.std.specs.Prelude.{ℕ, ◌≡◌, List, [], ◌∷◌, ◌++◌, replicate}
use Rattle.std.proofs.Math.Option.{Option, none, some}
use Rattle.session_frame.specs.declared.Frame.{Frame}
use Rattle.session_frame.specs.declared.Frame.TheVariants as frame
use Rattle.session_frame.specs.Frames.{frame_of}
use Rattle.session_frame.specs.declared.Answer as said
use Rattle.session_frame.specs.declared.Answer.TheVariants.{Refused, Done, Asked, Returned, Runs}
use Rattle.session_frame.specs.Answers.{answer_text}
use Rattle.state.specs.declared.State.{State}
use Rattle.state.specs.Places.{before_start}
use Rattle.session_reply.specs.Replies.{answer_or, masks_of, got_answer, given_words, report_answer}
use Rattle.session.specs.Session.{Course, play_lines, area_words}
use Rattle.pack.specs.Calls.{Call, fresh, opening, close, ask, report, get, put, seal, skip, freeze, thaw, return, running, Added, nothing, working, reported, got, returned, runs, Answer, answer_of}
use Rattle.pack.specs.Histories.{Lent}
use Rattle.demands_ledger.specs.Ledgers.{state_after, area_after}

-- ---- the lines' calls

-- the call that a frame is, with the words that come with it; a line that is no frame is no call
abbrev pub call_of : Frame → List ℕ → Option Call
call_of frame.Malformed words = none
call_of (frame.Fresh q) words = some (fresh q.m q.w (masks_of q.masks))
call_of (frame.Open q) words = some (opening q.file q.channel q.unit q.flags q.size q.rlen)
call_of (frame.Close file) words = some (close file)
call_of (frame.Ask q) words = some (ask q.file q.op q.priority q.naming)
call_of (frame.Report q) words = some (report q.channel q.unit q.outcome q.length words)
call_of (frame.Get file) words = some (get file)
call_of (frame.Put q) words = some (put q.file words)
call_of (frame.Seal file) words = some (seal file)
call_of (frame.Skip file) words = some (skip file)
call_of frame.Freeze words = some freeze
call_of frame.Thaw words = some thaw
call_of frame.Return words = some return
call_of frame.Running words = some running

unfoldable pub call_in : List ℕ → Option Call
call_in line = call_of (frame_of line) (given_words (frame_of line) line)

-- the calls of lines, in their order
abbrev pub cons_of : Option Call → List Call → List Call
cons_of none calls = calls
cons_of (some call) calls = call ∷ calls

unfoldable pub calls_in : List (List ℕ) → List Call
calls_in [] = []
calls_in (l ∷ ls) = cons_of (call_in l) (calls_in ls)

-- ---- what is printed

-- "After 00: ask adds the channel's working unit, FF for none. Report adds result, check error, working unit and .. the block's words .. Get adds
-- 00 and words, .. Others add nothing."; return adds whether a waiting routine was entered and what runs, and what runs adds that alone (document 02, M-110)
abbrev pub said_by : Added → said.Answer
said_by nothing = Done
said_by (working u) = Asked u
said_by (reported result delivery u) = report_answer result delivery u
said_by (got g) = got_answer g
said_by (returned entered program) = Returned entered program
said_by (runs program) = Runs program

-- the line of an answer: "First byte 00 or the refusal."
abbrev pub line_of : Answer → List ℕ
line_of a = answer_text (answer_or a.refusal (said_by a.added)) a.shows

-- the line of what is no frame: "1 | .. or a frame is malformed"
abbrev pub no_frame : List ℕ
no_frame = answer_text (Refused 1) []

-- for each line, given the state and the area that the line before it left: what is printed, and the state and the area after it. A call is answered
-- by `answer_of`; a line that is no call leaves both alone.
abbrev pub line_for : State → List ℕ → Option Call → List ℕ
line_for s area none = no_frame
line_for s area (some call) = line_of (answer_of s area call)

abbrev pub state_for : State → List ℕ → Option Call → State
state_for s area none = s
state_for s area (some call) = (answer_of s area call).state

abbrev pub area_for : State → List ℕ → Option Call → List ℕ
area_for s area none = area
area_for s area (some call) = (answer_of s area call).area

unfoldable pub printed : State → List ℕ → List (List ℕ) → List ℕ
printed s area [] = []
printed s area (l ∷ ls) = line_for s area (call_in l) ++ printed (state_for s area (call_in l)) (area_for s area (call_in l)) ls

-- what lines come to is the history of their calls: the text printed, the state and every word of the area
pub record IsHistory (s : State) (area : List ℕ) (ls : List (List ℕ)) (c : Course) : Type 0 where
  pub text : c.text ≡ printed s area ls
  pub state : c.state ≡ state_after s area (calls_in ls)
  pub words : c.area ≡ area_after s area (calls_in ls)

-- ---- a session: from the state before the first fresh start, with an area of zeros

abbrev pub zeros : List ℕ
zeros = replicate area_words 0

-- the state and the area of the program after the lines ls
abbrev pub state_in : List (List ℕ) → State
state_in ls = (play_lines before_start zeros ls).state

abbrev pub area_in : List (List ℕ) → List ℕ
area_in ls = (play_lines before_start zeros ls).area

-- the lines' calls with the area of each as the one before left it: what the demands call a history
unfoldable pub lent_from : State → List ℕ → List Call → List Lent
lent_from s area [] = []
lent_from s area (call ∷ calls) = record { call = call; area = area } ∷ lent_from (answer_of s area call).state (answer_of s area call).area calls
