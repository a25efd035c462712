-- The same by the calls' inner forms: what each call comes to for the one file f, the one channel c and the one post p that it concerns, or for the
-- routines r. `unsound` stands for the judgement of the state, m and w are its pool, `free` its free mask. Assumes nothing.
use Rattle.std.specs.Prelude.{ℕ, ◌*◌, Bool, false, cond, ◌&&◌, ◌||◌, List, leb, ltb, eqb, length}
use Rattle.session_frame.specs.declared.OpenFrame.{OpenFrame}
use Rattle.session_frame.specs.declared.AskFrame.{AskFrame}
use Rattle.session_frame.specs.declared.ReportFrame.{ReportFrame}
use Rattle.session_frame.specs.declared.Answer.TheVariants as answer
use Rattle.channel.specs.declared.Channel.{Channel}
use Rattle.channel.specs.Units.{unit_count}
use Rattle.file.specs.declared.File.{File}
use Rattle.file_input.specs.Gets.{got_start, got_words}
use Rattle.pool.specs.Free.{file_count}
use Rattle.pool.specs.Masks.{free_in}
use Rattle.pool.specs.Serving.{is_bound}
use Rattle.state.specs.Places.{channel_count}
use Rattle.routines.specs.declared.Naming.{Naming}
use Rattle.routines.specs.declared.Post.{Post}
use Rattle.routines.specs.declared.Routines.{Routines}
use Rattle.routines.specs.Ranks.{nothing_due, is_due}
use Rattle.routines.specs.Posts.{due_of}
use Rattle.call_open.specs.Open.{all_flags, wish_of, open_on}
use Rattle.call_open.specs.Close.{close_on}
use Rattle.call_request.specs.Ask.{ask_on}
use Rattle.call_request.specs.Named.{answers_request}
use Rattle.call_request.specs.Report.{report_on, report_on_area}
use Rattle.call_record.specs.Get.{get_on}
use Rattle.call_record.specs.Skip.{skip_on}
use Rattle.call_record.specs.Put.{put_on, put_on_area}
use Rattle.call_record.specs.Seal.{seal_on, seal_on_area}
use Rattle.pack_routine.specs.Ons.{return_on, running_on}
use Rattle.session_reply.specs.declared.Change.{Change}
use Rattle.session_reply.specs.declared.RoutineTold.{RoutineTold}
use Rattle.session_reply.specs.declared.Told.{Told}
use Rattle.session_reply.specs.Replies.{answer_or, report_answer, got_answer}

abbrev pub quiet_told : ℕ → File → Told
quiet_told n f = record { answer = answer_or n answer.Done; start = 0; count = 0; file = f }

-- ---- row 1, with `unsound` for "a state passed back is unsound"

abbrev pub open_wrong : Bool → ℕ → ℕ → ℕ → ℕ → Bool
open_wrong unsound file channel unit flags =
    leb file_count file || (leb channel_count channel || (leb unit_count unit || (ltb all_flags flags || unsound)))

abbrev pub moves_wrong : Bool → ℕ → ℕ → ℕ → ℕ → Bool
moves_wrong unsound m w n file = leb file_count file || (ltb n (m * w) || unsound)

abbrev pub report_wrong_by : Bool → ℕ → ℕ → ℕ → ℕ → Bool
report_wrong_by unsound m w n channel = unsound || (ltb n (m * w) || leb channel_count channel)

-- ---- the calls that move no words

unfoldable pub open_told : Bool → ℕ → ℕ → List File → File → Channel → OpenFrame → Told
open_told unsound w free files f c q =
    let x =
    open_on (open_wrong unsound q.file q.channel q.unit q.flags) (is_bound files q.channel q.unit) f c (free_in free) w
    (wish_of q.channel q.unit q.flags q.size q.rlen)
    in
    quiet_told x.refusal x.file

unfoldable pub close_told : Bool → File → Channel → ℕ → Told
close_told unsound f c file = let x = close_on (leb file_count file || unsound) f c in quiet_told x.refusal x.file

-- "An ask may name a routine" (document 02, M-110): the request of the unit names it, or none
unfoldable pub asked_post : ℕ → Post → Naming → Post
asked_post refusal p naming = cond (eqb refusal 0) (record { named = due_of naming; due = p.due }) p

unfoldable pub ask_change_on : Bool → Bool → File → Channel → Post → AskFrame → Change
ask_change_on unsound frozen f c p q =
    let x = ask_on (unsound || leb file_count q.file) f c q.op q.priority q.naming (is_due p.due) frozen in
    record {
      answer = answer_or x.refusal (answer.Asked x.working);
      start = 0;
      count = 0;
      file = x.file;
      channel = x.channel;
      post = asked_post x.refusal p q.naming;
      looks = false;
    }

unfoldable pub skip_told : Bool → File → ℕ → Told
skip_told unsound f file = let x = skip_on (leb file_count file || unsound) f in quiet_told x.refusal x.file

-- ---- the calls that move or show words

-- the routine that a request names "becomes due when the request is answered" (document 02, M-110), and the scheduler looks
unfoldable pub is_named_answer : ℕ → Post → Bool
is_named_answer result p = answers_request result && is_due p.named

unfoldable pub reported_post : ℕ → Post → Post
reported_post result p = cond (is_named_answer result p) (record { named = nothing_due; due = p.named }) p

unfoldable pub report_change_on : Bool → ℕ → ℕ → Bool → File → Channel → Post → ReportFrame → List ℕ → List ℕ → Change
report_change_on unsound m w frozen f c p q area words =
    let x = report_on (report_wrong_by unsound m w (length area) q.channel) f c q.unit q.outcome q.length w frozen area words in
    record {
      answer = answer_or x.refusal (report_answer x.result x.delivery x.working);
      start = x.start;
      count = x.count;
      file = x.file;
      channel = x.channel;
      post = reported_post x.result p;
      looks = is_named_answer x.result p;
    }

unfoldable pub report_area_on : Bool → ℕ → ℕ → File → Channel → ReportFrame → List ℕ → List ℕ → List ℕ
report_area_on unsound m w f c q area words =
    report_on_area (report_wrong_by unsound m w (length area) q.channel) f c q.unit q.outcome q.length w area words

unfoldable pub get_told : Bool → ℕ → ℕ → File → ℕ → List ℕ → Told
get_told unsound m w f file area =
    let x = get_on (moves_wrong unsound m w (length area) file) f w area in
    record {
      answer = answer_or x.refusal (got_answer x.got);
      start = got_start x.got;
      count = got_words x.got;
      file = x.file;
    }

unfoldable pub put_told : Bool → ℕ → ℕ → File → ℕ → List ℕ → List ℕ → Told
put_told unsound m w f file area words =
    let x = put_on (moves_wrong unsound m w (length area) file) f w area words in quiet_told x.refusal x.file

unfoldable pub put_area_on : Bool → ℕ → ℕ → File → ℕ → List ℕ → List ℕ → List ℕ
put_area_on unsound m w f file area words = put_on_area (moves_wrong unsound m w (length area) file) f w area words

unfoldable pub seal_told : Bool → ℕ → ℕ → File → ℕ → List ℕ → Told
seal_told unsound m w f file area =
    let x = seal_on (moves_wrong unsound m w (length area) file) f w area in quiet_told x.refusal x.file

unfoldable pub seal_area_on : Bool → ℕ → ℕ → File → ℕ → List ℕ → List ℕ
seal_area_on unsound m w f file area = seal_on_area (moves_wrong unsound m w (length area) file) f w area

-- ---- the calls on the routines (document 02, M-110)

unfoldable pub return_told : Bool → Bool → Routines → RoutineTold
return_told unsound frozen r =
    let x = return_on unsound frozen r in
    record { answer = answer_or x.refusal (answer.Returned x.entered x.program); routines = x.routines }

unfoldable pub running_told : Bool → Routines → RoutineTold
running_told unsound r = let x = running_on unsound r in record { answer = answer_or x.refusal (answer.Runs x.program); routines = x.routines }
