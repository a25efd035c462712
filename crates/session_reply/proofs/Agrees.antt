-- By the inner forms a frame comes to what the public definitions of the calls say, where `unsound` is the judgement of the state. Assumes nothing.
use mathlib.Core.Path.{◌≡◌, refl, sym, ap, ap₂, ◌∙◌}
use mathlib.Core.Bool.{Bool, true, false, not, cond, ◌||◌}
use mathlib.Core.List.{List, []}
use Prim.Native.Nat.{ℕ}
use borrow.Author.Tests.{ne_eqb, eqb-true, eqb-false}
use lib.Dec.{leb, eqb}
use lib.ListN.{length, get_or}
use lib.Seq.{set-get_or}
use Rattle.area.specs.Parts.{part_of}
use Rattle.area.specs.Refusals.{lowest}
use Rattle.area.proofs.Marks.{cond_true, cond_false}
use Rattle.area.proofs.Walks.{by_test}
use Rattle.session_frame.specs.declared.Answer.TheVariants as answer
use Rattle.channel.specs.declared.Channel.{Channel}
use Rattle.channel.specs.Units.{position_at}
use Rattle.channel_outcomes.specs.Rules.{result_number}
use Rattle.channel_turns.specs.Scans.{working_in, unit_number}
use Rattle.channel_turns.specs.Turns.{judge_of, book_of}
use Rattle.file.specs.declared.File.{File}
use Rattle.file.specs.declared.FileChange.{FileChange}
use Rattle.file.specs.Sizes.{closed_file}
use Rattle.session_frame.specs.declared.Frame.{Frame}
use Rattle.session_frame.specs.declared.FreshFrame.{FreshFrame}
use Rattle.session_frame.specs.declared.OpenFrame.{OpenFrame}
use Rattle.session_frame.specs.declared.AskFrame.{AskFrame}
use Rattle.session_frame.specs.declared.ReportFrame.{ReportFrame}
use Rattle.session_frame.specs.declared.PutFrame.{PutFrame}
use Rattle.session_frame.specs.declared.Frame.TheVariants.{Malformed, Fresh, Open, Close, Ask, Report, Get, Put, Seal, Skip, Freeze, Thaw, Return, Running}
use Rattle.session_frame.specs.Frames.{frame_of}
use Rattle.pool.specs.Free.{file_count}
use Rattle.pool.specs.Masks.{free_after}
use Rattle.pool.specs.Serving.{is_bound}
use Rattle.pool.proofs.FreeMasks.{after_same}
use Rattle.routines.specs.declared.Naming.{Naming}
use Rattle.routines.specs.declared.Routines.{Routines}
use Rattle.routines.specs.Ranks.{is_due}
use Rattle.routines.specs.Posts.{post_at}
use Rattle.routines.proofs.Laws.Table.{due_at_lem}
use Rattle.state.specs.declared.State.{State}
use Rattle.state.specs.Places.{no_channel, file_at, channel_at}
use Rattle.state.specs.Stores.{with_file, with_channel, with_routines}
use Rattle.state_sound.specs.Soundness.{sound}
use Rattle.pack_start.specs.Fresh.{fresh_by}
use Rattle.call_open.specs.Open.{wish_of, open_on}
use Rattle.pack_open.proofs.ByMask.{by_mask}
use Rattle.pack_open.specs.Open.{open_change, open_by}
use Rattle.call_open.specs.Close.{close_on}
use Rattle.pack_open.specs.Close.{close_change, close_by}
use Rattle.pack_start.specs.Freeze.{state_rows, freeze_by, thaw_by}
use Rattle.call_request.specs.declared.AskChange.{AskChange}
use Rattle.call_request.specs.declared.ReportChange.{ReportChange}
use Rattle.pack_request.specs.Changes.{changed_state}
use Rattle.call_request.specs.Ask.{ask_refusal, asked_file, asked_channel, ask_on}
use Rattle.pack_request.specs.Calls.{ask_change, ask_by, file_of, report_change, report_by, report_by_area}
use Rattle.call_request.specs.Named.{reported_routines}
use Rattle.call_request.specs.Report.{effect_at, delivery_check, delivery_of, shown_start, shown_count, reported_file, report_refusal, refused_report, report_on}
use Rattle.pack_routine.specs.Calls.{return_by, running_by}
use Rattle.call_record.specs.Get.{get_on}
use Rattle.pack_record.specs.Gets.{get_change, get_by, get_words}
use Rattle.call_record.specs.Skip.{skip_on}
use Rattle.pack_record.specs.Skips.{skip_change, skip_by}
use Rattle.call_record.specs.Put.{put_on}
use Rattle.pack_record.specs.Puts.{put_change, put_by, put_by_area}
use Rattle.call_record.specs.Seal.{seal_on}
use Rattle.pack_record.specs.Seals.{seal_change, seal_by, seal_by_area}
use Rattle.file_input.specs.Histories.{shown}
use Rattle.session_reply.specs.Replies.{answer_or, quietly, got_answer, given_words, reply_to, answer_to, report_answer}
use Rattle.session_reply.specs.Changes.{open_told, close_told, asked_post, ask_change_on, skip_told, report_change_on, report_area_on, get_told, put_told, put_area_on, seal_told, seal_area_on, return_told, running_told}
use Rattle.session_reply.specs.Turns.{whole_refusal, whole_state, record_of, record_area, binding_of, request_of, request_area, posted_in, routine_of, record_turn, binding_turn, request_turn, whole_turn, routine_turn, turned_on, request_area_on, area_on, reply_on, answer_on}
use Rattle.session_reply.proofs.Posting.{ask_posted, ask_unposted, report_posted}

-- ---- what is stored where nothing changed

same_channel : (s : State) (j : ℕ) → with_channel s j (channel_at s j) ≡ s
unfolding with_channel
same_channel s j = ap (λ (cs : List Channel). record { m = s.m; w = s.w; frozen = s.frozen; channels = cs; files = s.files; free = s.free; routines = s.routines }) (set-get_or s.channels j no_channel)

same_file : (s : State) (i : ℕ) → with_file s i (file_at s i) ≡ s
unfolding with_file
same_file s i =
    ap (λ (fs : List File). record { m = s.m; w = s.w; frozen = s.frozen; channels = s.channels; files = fs; free = free_after s.free (file_at s i) (get_or fs i closed_file); routines = s.routines }) (set-get_or s.files i closed_file)
    ∙ sym (ap (λ (n : ℕ). record { m = s.m; w = s.w; frozen = s.frozen; channels = s.channels; files = s.files; free = n; routines = s.routines }) (after_same s.free (file_at s i) (file_at s i) refl))

same_both : (s : State) (i j : ℕ) → with_file (with_channel s j (channel_at s j)) i (file_at s i) ≡ s
same_both s i j = ap (λ (t : State). with_file t i (file_at s i)) (same_channel s j) ∙ same_file s i

same_routines : (s : State) → with_routines s s.routines ≡ s
unfolding with_routines
same_routines s = refl

-- a call that changes its file if it is not refused
stored_file : (s : State) (i n : ℕ) (g : File) → ((n ≡ 0 → ⊥) → g ≡ file_at s i) → with_file s i g ≡ cond (eqb n 0) (with_file s i g) s
stored_file s i n g alone =
    by_test (λ t. eqb n 0 ≡ t → with_file s i g ≡ cond (eqb n 0) (with_file s i g) s) (eqb n 0)
    (λ q e. sym (cond_true _ _ e))
    (λ q e. ap (with_file s i) (alone (eqb-false n 0 e)) ∙ same_file s i ∙ sym (cond_false _ _ e))
    refl

-- a call that changes its file, its channel and the routines if it is not refused
stored_all : (s : State) (i j n : ℕ) (g : File) (d : Channel) (q r : Routines) → (n ≡ 0 → q ≡ r)
    → ((n ≡ 0 → ⊥) → ((g ≡ file_at s i) × (d ≡ channel_at s j)) × (q ≡ s.routines))
    → with_routines (with_file (with_channel s j d) i g) q ≡ changed_state s i j n g d r
unfolding changed_state
stored_all s i j n g d q r same alone =
    by_test (λ t. eqb n 0 ≡ t → with_routines (with_file (with_channel s j d) i g) q ≡ cond (eqb n 0) (with_routines (with_file (with_channel s j d) i g) r) s) (eqb n 0)
    (λ b e. ap (with_routines (with_file (with_channel s j d) i g)) (same (eqb-true n 0 e)) ∙ sym (cond_true _ _ e))
    (λ b e.
    let a = alone (eqb-false n 0 e) in
    ap₂ (λ (x : Channel) (f : File). with_routines (with_file (with_channel s j x) i f) q) a.0.1 a.0.0
    ∙ ap (λ (t : State). with_routines t q) (same_both s i j) ∙ ap (with_routines s) a.1 ∙ same_routines s ∙ sym (cond_false _ _ e))
    refl

-- ---- a refused call leaves its file and its channel

refused_file : (n : ℕ) (f g : File) → (n ≡ 0 → ⊥) → cond (eqb n 0) g f ≡ f
refused_file n f g h = cond_false _ _ (ne_eqb n 0 h)

refused_ask : (t : Bool) (a b : AskChange) → a.refusal ≡ 0 → ((cond t a b).refusal ≡ 0 → ⊥) → cond t a b ≡ b
refused_ask true a b z h = absurd (h z)
refused_ask false a b z h = refl

refused_report_lem : (t : Bool) (a b : ReportChange) → a.refusal ≡ 0 → ((cond t a b).refusal ≡ 0 → ⊥) → cond t a b ≡ b
refused_report_lem true a b z h = absurd (h z)
refused_report_lem false a b z h = refl

ask_alone_lem : (wrong : Bool) (f : File) (c : Channel) (op priority : ℕ) (naming : Naming) (waits frozen : Bool) → ((ask_on wrong f c op priority naming waits frozen).refusal ≡ 0 → ⊥)
    → ((ask_on wrong f c op priority naming waits frozen).file ≡ f) × ((ask_on wrong f c op priority naming waits frozen).channel ≡ c)
unfolding ask_on
ask_alone_lem wrong f c op priority naming waits frozen h =
    let e = refused_ask (eqb (ask_refusal wrong f c op priority naming waits) 0)
    (record { refusal = 0; working = unit_number (working_in (asked_channel f c op priority frozen)); file = asked_file op f; channel = asked_channel f c op priority frozen })
    (record { refusal = ask_refusal wrong f c op priority naming waits; working = 0; file = f; channel = c }) refl h in
    (ap (λ (x : AskChange). x.file) e, ap (λ (x : AskChange). x.channel) e)

report_alone : (wrong : Bool) (f : File) (c : Channel) (u outcome len w : ℕ) (frozen : Bool) (area words : List ℕ)
    → ((report_on wrong f c u outcome len w frozen area words).refusal ≡ 0 → ⊥)
    → (((report_on wrong f c u outcome len w frozen area words).file ≡ f) × ((report_on wrong f c u outcome len w frozen area words).channel ≡ c))
    × ((report_on wrong f c u outcome len w frozen area words).result ≡ 0)
unfolding report_on
report_alone wrong f c u outcome len w frozen area words h =
    let x = effect_at c u outcome len (length words) in
    let e = refused_report_lem (eqb (report_refusal wrong f c u outcome len w area words) 0)
    (record {
      refusal = 0;
      result = result_number (position_at c u) (judge_of c u outcome len);
      delivery = delivery_of x (delivery_check x f words);
      working = unit_number (working_in (book_of c u (judge_of c u outcome len) frozen));
      start = shown_start x w f;
      count = shown_count x f;
      file = reported_file x f (length words) (delivery_check x f words);
      channel = book_of c u (judge_of c u outcome len) frozen;
    }) (refused_report (report_refusal wrong f c u outcome len w area words) f c) refl h in
    ((ap (λ (x : ReportChange). x.file) e, ap (λ (x : ReportChange). x.channel) e), ap (λ (x : ReportChange). x.result) e)

-- a refused report answers no request
unanswered : (r : Routines) (frozen : Bool) (c u : ℕ) → reported_routines r frozen c u 0 ≡ r
unfolding reported_routines
unanswered r frozen c u = refl

-- ---- every frame

module _ (s : State) (area words : List ℕ) where
  Right : Frame → Type 0
  Right frame = reply_on (not (sound s)) s area words frame ≡ reply_to s area words frame

  malformed_right : Right Malformed
  unfolding Right reply_on turned_on area_on request_turn request_area_on whole_turn binding_turn record_turn whole_refusal whole_state record_of record_area binding_of request_of request_area reply_to
  malformed_right = ap (λ (u : State). quietly 1 u area) (same_file s file_count)

  fresh_right : (q : FreshFrame) → Right (Fresh q)
  unfolding Right reply_on turned_on area_on request_turn request_area_on whole_turn binding_turn record_turn whole_refusal whole_state record_of record_area binding_of request_of request_area reply_to fresh_by
  fresh_right q = refl

  open_right : (q : OpenFrame) → Right (Open q)
  unfolding Right reply_on turned_on area_on request_turn request_area_on whole_turn binding_turn record_turn whole_refusal whole_state record_of record_area binding_of request_of request_area reply_to open_by open_told open_on
  open_right q =
      let x = open_change s q.file q.channel q.unit q.flags q.size q.rlen in
      ap (λ (y : FileChange). record {
        state = with_file s q.file y.file;
        area = area;
        answer = answer_or y.refusal answer.Done;
        words = [];
      })
      (by_mask s q.file q.channel q.unit q.flags (is_bound s.files q.channel q.unit) (file_at s q.file) (channel_at s q.channel) s.w
      (wish_of q.channel q.unit q.flags q.size q.rlen))
      ∙ ap (λ (u : State). quietly x.refusal u area) (stored_file s q.file x.refusal x.file (refused_file x.refusal (file_at s q.file) _))

  close_right : (file : ℕ) → Right (Close file)
  unfolding Right reply_on turned_on area_on request_turn request_area_on whole_turn binding_turn record_turn whole_refusal whole_state record_of record_area binding_of request_of request_area reply_to close_by close_told close_on
  close_right file =
      let x = close_change s file in
      ap (λ (u : State). quietly x.refusal u area) (stored_file s file x.refusal x.file (refused_file x.refusal (file_at s file) _))

  ask_right : (q : AskFrame) → Right (Ask q)
  unfolding Right reply_on turned_on area_on request_turn request_area_on whole_turn binding_turn record_turn whole_refusal whole_state record_of record_area binding_of request_of request_area reply_to ask_by ask_change_on
  ask_right q =
      let f = file_at s q.file in
      let on : Bool → AskChange = λ (b : Bool). ask_on (not (sound s) || leb file_count q.file) f (channel_at s f.channel) q.op q.priority q.naming b s.frozen in
      let x = ask_change s q.file q.op q.priority q.naming in
      let r = s.routines in
      ap (λ (b : Bool). record {
        state = with_routines (with_file (with_channel s f.channel (on b).channel) q.file (on b).file) (posted_in r s.frozen f.channel f.unit (asked_post (on b).refusal (post_at r f.channel f.unit) q.naming) false);
        area = area;
        answer = answer_or (on b).refusal (answer.Asked (on b).working);
        words = [];
      }) (ap is_due (sym (due_at_lem r f.channel f.unit)))
      ∙ ap (λ (u : State). record { state = u; area = area; answer = answer_or x.refusal (answer.Asked x.working); words = [] })
      (stored_all s q.file f.channel x.refusal x.file x.channel _ _ (λ z. ask_posted r s.frozen f.channel f.unit x.refusal q.naming z)
      (λ z. (ask_alone_lem _ _ _ _ _ _ _ _ z, ask_unposted r s.frozen f.channel f.unit x.refusal q.naming z)))

  report_right : (q : ReportFrame) → Right (Report q)
  unfolding Right reply_on turned_on area_on request_turn request_area_on whole_turn binding_turn record_turn whole_refusal whole_state record_of record_area binding_of request_of request_area reply_to report_by report_by_area report_change_on report_area_on
  report_right q =
      let x = report_change s area q.channel q.unit q.outcome q.length words in
      let posted = report_posted s.routines s.frozen q.channel q.unit x.result in
      ap (λ (u : State). record {
        state = u;
        area = report_by_area s area q.channel q.unit q.outcome q.length words;
        answer = answer_or x.refusal (report_answer x.result x.delivery x.working);
        words = part_of x.start x.count (report_by_area s area q.channel q.unit q.outcome q.length words);
      })
      (stored_all s (file_of s q.channel q.unit) q.channel x.refusal x.file x.channel _ _ (λ z. posted)
      (λ z. let a = report_alone _ _ _ _ _ _ _ _ _ _ z in
      (a.0, posted ∙ ap (reported_routines s.routines s.frozen q.channel q.unit) a.1 ∙ unanswered s.routines s.frozen q.channel q.unit)))

  get_right : (file : ℕ) → Right (Get file)
  unfolding Right reply_on turned_on area_on request_turn request_area_on whole_turn binding_turn record_turn whole_refusal whole_state record_of record_area binding_of request_of request_area reply_to get_by get_words get_told get_on
  get_right file =
      let x = get_change s area file in
      ap (λ (u : State). record { state = u; area = area; answer = answer_or x.refusal (got_answer x.got); words = shown area x.got })
      (stored_file s file x.refusal x.file (refused_file x.refusal (file_at s file) _))

  put_right : (q : PutFrame) → Right (Put q)
  unfolding Right reply_on turned_on area_on request_turn request_area_on whole_turn binding_turn record_turn whole_refusal whole_state record_of record_area binding_of request_of request_area reply_to put_by put_by_area put_told put_area_on put_on
  put_right q =
      let x = put_change s area q.file words in
      ap (λ (u : State). quietly x.refusal u (put_by_area s area q.file words))
      (stored_file s q.file x.refusal x.file (refused_file x.refusal (file_at s q.file) _))

  seal_right : (file : ℕ) → Right (Seal file)
  unfolding Right reply_on turned_on area_on request_turn request_area_on whole_turn binding_turn record_turn whole_refusal whole_state record_of record_area binding_of request_of request_area reply_to seal_by seal_by_area seal_told seal_area_on seal_on
  seal_right file =
      let x = seal_change s area file in
      ap (λ (u : State). quietly x.refusal u (seal_by_area s area file))
      (stored_file s file x.refusal x.file (refused_file x.refusal (file_at s file) _))

  skip_right : (file : ℕ) → Right (Skip file)
  unfolding Right reply_on turned_on area_on request_turn request_area_on whole_turn binding_turn record_turn whole_refusal whole_state record_of record_area binding_of request_of request_area reply_to skip_by skip_told skip_on
  skip_right file =
      let x = skip_change s file in
      ap (λ (u : State). quietly x.refusal u area)
      (stored_file s file x.refusal x.file (refused_file x.refusal (file_at s file) _))

  freeze_right : Right Freeze
  unfolding Right reply_on turned_on area_on whole_turn whole_refusal whole_state reply_to freeze_by lowest state_rows
  freeze_right = refl

  thaw_right : Right Thaw
  unfolding Right reply_on turned_on area_on whole_turn whole_refusal whole_state reply_to thaw_by lowest state_rows
  thaw_right = refl

  return_right : Right Return
  unfolding Right reply_on turned_on area_on routine_turn routine_of return_told reply_to return_by
  return_right = refl

  running_right : Right Running
  unfolding Right reply_on turned_on area_on routine_turn routine_of running_told reply_to running_by
  running_right = refl

  pub turned_right : (frame : Frame) → reply_on (not (sound s)) s area words frame ≡ reply_to s area words frame
  unfolding Right
  turned_right Malformed = malformed_right
  turned_right (Fresh q) = fresh_right q
  turned_right (Open q) = open_right q
  turned_right (Close file) = close_right file
  turned_right (Ask q) = ask_right q
  turned_right (Report q) = report_right q
  turned_right (Get file) = get_right file
  turned_right (Put q) = put_right q
  turned_right (Seal file) = seal_right file
  turned_right (Skip file) = skip_right file
  turned_right Freeze = freeze_right
  turned_right Thaw = thaw_right
  turned_right Return = return_right
  turned_right Running = running_right

-- ---- every line

pub judged_right : (s : State) (area line : List ℕ) → answer_on (not (sound s)) s area line ≡ answer_to s area line
unfolding answer_on answer_to
judged_right s area line = turned_right s area (given_words (frame_of line) line) (frame_of line)

-- of a sound state nothing has to be judged
pub sound_right : (s : State) (area line : List ℕ) → sound s ≡ true → answer_on false s area line ≡ answer_to s area line
sound_right s area line e = ap (λ (b : Bool). answer_on (not b) s area line) (sym e) ∙ judged_right s area line
