-- The four kinds of call that demand 3 counts are, call by call, the kinds of event that the channel counts. Assumes nothing.
use mathlib.Core.Path.{◌≡◌, refl, sym, ap, ◌∙◌}
use mathlib.Core.Bool.{Bool, true, false, not, cond, ◌&&◌, and-true, and-false}
use mathlib.Core.List.{List}
use Prim.Native.Nat.{ℕ}
use lib.Dec.{eqb}
use borrow.Author.Tests.{eqb-true}
use Rattle.channel_outcomes.specs.declared.Ending.TheVariants.{Good, Opposite, MarkRead, MediumEnd, LostRedundancy, LostIncomplete}
use Rattle.channel.specs.declared.Position.{Position}
use Rattle.channel.specs.declared.Request.{Request}
use Rattle.channel.specs.Units.{position_at}
use Rattle.channel_outcomes.specs.declared.Verdict.{Verdict}
use Rattle.channel_outcomes.specs.declared.Verdict.TheVariants.{Refused, Repeats, Ends}
use Rattle.channel_outcomes.specs.Positions.{cleaner_due}
use Rattle.channel_outcomes.specs.Rules.{repeated_number, result_number}
use Rattle.channel_turns.specs.Turns.{judge_of}
use Rattle.channel_theorems.specs.History as history
use Rattle.channel_theorems.specs.History.{accepted, report_answer, a_report, a_priority, a_request_of, an_answer_to, is_answered}
use Rattle.channel_theorems.specs.Lifted.{count_shown}
use Rattle.routines.specs.declared.Naming.{Naming}
use Rattle.state.specs.declared.State.{State}
use Rattle.state.specs.Places.{file_at, channel_at}
use Rattle.call_request.specs.Ask.{op_of, is_priority}
use Rattle.call_request.specs.Report.{report_refusal, report_on}
use Rattle.pack_request.specs.Calls.{report_by}
use Rattle.pack_request.proofs.ReportTheorems.{report_exactly, report_event_lem}
use Rattle.pack.specs.Calls.{Call, fresh, opening, close, ask, report, get, put, seal, skip, freeze, thaw, return, running, Answer, answer_of}
use Rattle.pack.specs.Histories as h
use Rattle.pack.specs.Histories.{is_accepted, of_report, of_ask, is_answer_for, is_priority_on, is_request_of, is_repeat, is_answer}
use Rattle.area.specs.Lists.{one_if}
use Rattle.pack.specs.Tables.{rows_of}
use Rattle.area.specs.Refusals.{lowest}
use Rattle.channel.specs.declared.Op.{Op}
use Rattle.pack.proofs.Seen.{event_if, seen}
use Rattle.pack.proofs.Around.{Matches}

-- a repeated operation's result is 00 or 07
pub repeats_told : (p : Position) (q : Request) → is_repeat (repeated_number p q) ≡ true
unfolding repeated_number
repeats_told p q = go (cleaner_due p q)
  where
    go : (b : Bool) → is_repeat (cond b 7 0) ≡ true
    go true = refl
    go false = refl

module _ (c : ℕ) where
  -- ---- what an event counts for

  shown_if : (event : history.Event → history.Answer → Bool) (b : Bool) (e : history.Event) (a : history.Answer)
      → count_shown event (event_if b e a) ≡ one_if (b && event e a)
  shown_if event true e a = refl
  shown_if event false e a = refl

  split : (a b x y : Bool) → (a ≡ true → (b && x) ≡ y) → one_if ((a && b) && x) ≡ one_if (a && y)
  split true b x y f = ap one_if (f refl)
  split false b x y f = refl

  module _ (s : State) (area : List ℕ) where
    unseen : (call : Call) → 0 ≡ one_if (is_accepted (answer_of s area call) && false)
    unseen call = go (is_accepted (answer_of s area call))
      where
        go : (a : Bool) → 0 ≡ one_if (a && false)
        go true = refl
        go false = refl

    ask_seen : (event : history.Event → history.Answer → Bool) (file op priority : ℕ) (naming : Naming) (kind : Bool)
        → (eqb (file_at s file).channel c && event (history.ask (file_at s file).unit (op_of op) (is_priority priority)) accepted) ≡ kind
        → count_shown event (seen c s area (ask file op priority naming)) ≡ one_if (is_accepted (answer_of s area (ask file op priority naming)) && kind)
    ask_seen event file op priority naming kind e =
        shown_if event (is_accepted (answer_of s area (ask file op priority naming)) && eqb (file_at s file).channel c) _ _
        ∙ split (is_accepted (answer_of s area (ask file op priority naming))) (eqb (file_at s file).channel c) _ kind (λ a. e)

    report_seen : (event : history.Event → history.Answer → Bool) (channel unit outcome len : ℕ) (words : List ℕ) (kind : Bool)
        → ((report_by s area channel unit outcome len words).refusal ≡ 0
        → (eqb channel c && event (history.report unit outcome len) (report_answer (judge_of (channel_at s channel) unit outcome len))) ≡ kind)
        → count_shown event (seen c s area (report channel unit outcome len words))
        ≡ one_if (is_accepted (answer_of s area (report channel unit outcome len words)) && kind)
    unfolding answer_of
    report_seen event channel unit outcome len words kind e =
        shown_if event (is_accepted (answer_of s area (report channel unit outcome len words)) && eqb channel c) _ _
        ∙ split (is_accepted (answer_of s area (report channel unit outcome len words))) (eqb channel c) _ kind
        (λ a. e (eqb-true (report_by s area channel unit outcome len words).refusal 0 a))

    every_seen : (event : history.Event → history.Answer → Bool) (b : Bool) (e : history.Event) → event e accepted ≡ false
        → count_shown event (event_if b e accepted) ≡ one_if (b && false)
    every_seen event b e f = shown_if event b e accepted ∙ ap (λ (x : Bool). one_if (b && x)) f

    -- a test of reports, and one of asks, that is what the channel's own test says of its event
    module _ (event : history.Event → history.Answer → Bool) (quietly : event history.freeze accepted ≡ false)
        (thaws : event history.thaw accepted ≡ false) where
      reports_match : (test : Answer → ℕ → ℕ → Bool) → ((u : ℕ) (op : Op) (p : Bool) → event (history.ask u op p) accepted ≡ false)
          → ((channel unit outcome len : ℕ) (words : List ℕ) → (report_by s area channel unit outcome len words).refusal ≡ 0
          → (eqb channel c && event (history.report unit outcome len) (report_answer (judge_of (channel_at s channel) unit outcome len)))
          ≡ test (answer_of s area (report channel unit outcome len words)) channel unit)
          → (call : Call) → count_shown event (seen c s area call)
          ≡ one_if (is_accepted (answer_of s area call) && of_report (test (answer_of s area call)) call)
      reports_match test asks e (fresh m w masks) = unseen (fresh m w masks)
      reports_match test asks e (opening file channel unit flags size rlen) = unseen (opening file channel unit flags size rlen)
      reports_match test asks e (close file) = unseen (close file)
      reports_match test asks e (ask file op priority naming) =
          ask_seen event file op priority naming false
          (ap (λ (b : Bool). eqb (file_at s file).channel c && b) (asks _ _ _) ∙ and-false (eqb (file_at s file).channel c))
      reports_match test asks e (report channel unit outcome len words) =
          report_seen event channel unit outcome len words (test (answer_of s area (report channel unit outcome len words)) channel unit)
          (e channel unit outcome len words)
      reports_match test asks e (get file) = unseen (get file)
      reports_match test asks e (put file words) = unseen (put file words)
      reports_match test asks e (seal file) = unseen (seal file)
      reports_match test asks e (skip file) = unseen (skip file)
      reports_match test asks e freeze = every_seen event (is_accepted (answer_of s area freeze)) history.freeze quietly
      reports_match test asks e thaw = every_seen event (is_accepted (answer_of s area thaw)) history.thaw thaws
      reports_match test asks e return = unseen return
      reports_match test asks e running = unseen running

      asks_match : (test : ℕ → ℕ → Bool) → ((u o l : ℕ) (a : history.Answer) → event (history.report u o l) a ≡ false)
          → ((file op priority : ℕ) (naming : Naming)
          → (eqb (file_at s file).channel c && event (history.ask (file_at s file).unit (op_of op) (is_priority priority)) accepted)
          ≡ test file priority)
          → (call : Call) → count_shown event (seen c s area call) ≡ one_if (is_accepted (answer_of s area call) && of_ask test call)
      asks_match test reports e (fresh m w masks) = unseen (fresh m w masks)
      asks_match test reports e (opening file channel unit flags size rlen) = unseen (opening file channel unit flags size rlen)
      asks_match test reports e (close file) = unseen (close file)
      asks_match test reports e (ask file op priority naming) = ask_seen event file op priority naming (test file priority) (e file op priority naming)
      asks_match test reports e (report channel unit outcome len words) =
          report_seen event channel unit outcome len words false
          (λ z. ap (λ (b : Bool). eqb channel c && b) (reports unit outcome len _) ∙ and-false (eqb channel c))
      asks_match test reports e (get file) = unseen (get file)
      asks_match test reports e (put file words) = unseen (put file words)
      asks_match test reports e (seal file) = unseen (seal file)
      asks_match test reports e (skip file) = unseen (skip file)
      asks_match test reports e freeze = every_seen event (is_accepted (answer_of s area freeze)) history.freeze quietly
      asks_match test reports e thaw = every_seen event (is_accepted (answer_of s area thaw)) history.thaw thaws
      asks_match test reports e return = unseen return
      asks_match test reports e running = unseen running

    -- the result of an accepted report is the channel's verdict; every result but 00 and 07 answers
    pub result_is : (channel unit outcome len : ℕ) (words : List ℕ) → (report_by s area channel unit outcome len words).refusal ≡ 0
        → (report_by s area channel unit outcome len words).result ≡ result_number (position_at (channel_at s channel) unit) (judge_of (channel_at s channel) unit outcome len)
    unfolding report_by report_on report_refusal rows_of
    result_is channel unit outcome len words z =
        let n : lowest (rows_of s area (report channel unit outcome len words)) ≡ 0 = sym (report_exactly s area channel unit outcome len words).number ∙ z in
        rw n

  answers_by : (p : Position) (v : Verdict) → is_answered (report_answer v) ≡ not (is_repeat (result_number p v))
  answers_by p (Refused n) = refl
  answers_by p (Repeats q) = ap not (sym (repeats_told p q))
  answers_by p (Ends Good) = refl
  answers_by p (Ends Opposite) = refl
  answers_by p (Ends MarkRead) = refl
  answers_by p (Ends MediumEnd) = refl
  answers_by p (Ends LostRedundancy) = refl
  answers_by p (Ends LostIncomplete) = refl

  -- reports, answers, priority requests and requests are what the channel counts as such
  pub report_matches : Matches c (h.is_report_on c) a_report
  unfolding Matches
  report_matches s area g =
      reports_match s area a_report refl refl (λ a channel unit. eqb channel c) (λ u op p. refl)
      (λ channel unit outcome len words z.
      ap (λ (b : Bool). eqb channel c && b) (report_event_lem s area channel unit outcome len words g.sixteen z).counted ∙ and-true (eqb channel c))

  pub answer_matches : (u : ℕ) → Matches c (is_answer_for c u) (an_answer_to u)
  unfolding Matches answer_of
  answer_matches u s area g =
      reports_match s area (an_answer_to u) refl refl (λ a channel unit. eqb channel c && (eqb unit u && is_answer a.added)) (λ v op p. refl)
      (λ channel unit outcome len words z.
      ap (λ (b : Bool). eqb channel c && (eqb unit u && b))
      (answers_by (position_at (channel_at s channel) unit) (judge_of (channel_at s channel) unit outcome len) ∙ ap (λ (n : ℕ). not (is_repeat n)) (sym (result_is s area channel unit outcome len words z))))

  pub priority_matches : Matches c (is_priority_on c) a_priority
  unfolding Matches
  priority_matches s area g =
      asks_match s area a_priority refl refl (λ file priority. eqb (file_at s file).channel c && is_priority priority) (λ u o l a. refl)
      (λ file op priority naming. ap (λ (b : Bool). eqb (file_at s file).channel c && b) (and-true (is_priority priority)))

  pub request_matches : (u : ℕ) → Matches c (is_request_of c u) (a_request_of u)
  unfolding Matches
  request_matches u s area g =
      asks_match s area (a_request_of u) refl refl (λ file priority. eqb (file_at s file).channel c && eqb (file_at s file).unit u) (λ v o l a. refl)
      (λ file op priority naming. ap (λ (b : Bool). eqb (file_at s file).channel c && b) (and-true (eqb (file_at s file).unit u)))
