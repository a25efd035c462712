-- The promises of report: refused exactly by its table, a sound state kept, nothing else touched, booked to the one file of its unit, one event
-- of its channel. The files of a state are sixteen, as the array of the code has them. Assumes nothing.
use mathlib.Core.Path.{◌≡◌, refl, sym, ap, subst, ◌∙◌}
use mathlib.Core.Bool.{Bool, true, false, not, cond, ◌&&◌, ◌||◌}
use mathlib.Core.Option.{some}
use mathlib.Core.List.{List}
use Prim.Native.Nat.{ℕ, suc, ◌+◌, ◌≤◌, ◌<◌}
use native.Mathlib.Decide.{ℕ_discrete}
use native.Mathlib.Omega.{arith}
use lib.Dec.{ltb, eqb, leb}
use lib.ListN.{length, set, get_or}
use borrow.Author.Tests.{not-true, ne_eqb, eq-eqb, eqb-true}
use Rattle.area.specs.Lists.{all_of}
use Rattle.area.specs.Parts.{is_word}
use Rattle.area.specs.Refusals.{Rows, lowest, Exactly}
use Rattle.area.proofs.Walks.{true_not_false, and_left, and_right, and_both, or_left, or_right}
use Rattle.area.proofs.Lowest.{lowest_none}
use Rattle.area.proofs.Exactly.{exactly}
use Rattle.area.proofs.Firsts.{first_finds}
use Rattle.channel.specs.declared.Request.{Request}
use Rattle.channel.specs.declared.Turn.{Turn}
use Rattle.channel.specs.declared.Turn.TheVariants.{Idle, Waiting, Displaced, Working}
use Rattle.channel.specs.declared.Channel.{Channel}
use Rattle.channel_outcomes.specs.declared.Ending.{Ending}
use Rattle.channel_outcomes.specs.declared.Verdict.{Verdict}
use Rattle.channel_outcomes.specs.declared.Verdict.TheVariants.{Repeats, Ends}
use Rattle.channel_outcomes.specs.Rules.{is_allowed, is_failure, is_permanent, is_noise, past_noise, next_attempt, ending_of, table_verdict, verdict_of, result_number, outcome_count, incomplete_word}
use Rattle.channel.specs.Units.{declared_at, turn_at, position_at, work_of, operation_at, unit_count}
use Rattle.channel_turns.specs.Scans.{working_in, unit_number}
use Rattle.channel_turns.specs.Turns.{judge_turn, judge_of, book_of, report_of}
use Rattle.channel_theorems.specs.History.{station, report, step_to, report_answer, step, a_report}
use Rattle.channel_theorems.specs.Lifted.{Agrees}
use Rattle.file.specs.declared.File.{File}
use Rattle.file.specs.Sizes.{closed_file}
use Rattle.file_input.specs.Delivers.{block_fits}
use Rattle.pool.specs.Free.{file_count}
use Rattle.pool.specs.Serving.{serves, serving_file}
use Rattle.state_sound.specs.Files.{share_buffer, share_unit, apart}
use Rattle.state_sound.proofs.Replaced.{alike_self, unbound}
use Rattle.routines.specs.declared.Routines.{Routines}
use Rattle.state.specs.declared.State.{State}
use Rattle.state.specs.Places.{file_at, channel_at}
use Rattle.state.specs.Stores.{with_file, with_channel, with_routines}
use Rattle.state_sound.specs.Requests.{requested, is_none}
use Rattle.state_sound.specs.Soundness.{sound}
use Rattle.state_sound.specs.Judged.{file_ready}
use Rattle.state_sound.proofs.Everywhere.{place_inside}
use Rattle.state_sound.proofs.Facts.{Served, SoundFacts, sound_facts, facts_sound}
use Rattle.state_sound.proofs.ChannelCalls.{repeat_moved, end_moved}
use Rattle.state_sound.proofs.Kept.{line_of, place_of}
use Rattle.state_sound.proofs.RoutinesKept.{answered_beside, repeated_beside}
use Rattle.word.specs.declared.Checked.{Checked}
use Rattle.word.specs.CheckWords.{block_numbers}
use Rattle.word.specs.Checks.{unchecked, is_checked, is_exact}
use Rattle.word.proofs.Laws.Checks.{unchecked_fits, unchecked_exact}
use Rattle.block.specs.Blocks.{judged_block}
use Rattle.block.proofs.Laws.Finds.{judged_compares, judged_fits}
use Rattle.call_request.specs.declared.Effect.{Effect}
use Rattle.call_request.specs.declared.ReportChange.{ReportChange}
use Rattle.pack_request.specs.declared.Reporting.{Reporting}
use Rattle.call_request.specs.Effects.{effect_of, op_effect, is_delivery}
use Rattle.call_request.specs.Report.{is_idle_for, takes_no_words, is_forbidden, length_wrong, shown_start, shown_count, shown_block, effect_at, report_rows, report_refusal, delivery_check, delivery_of, reported_file, refused_report, report_on, report_on_area}
use Rattle.call_request.specs.Named.{reported_routines}
use Rattle.call_request.proofs.NamedLaws.{repeats_routines, ends_routines}
use Rattle.pack_request.specs.Calls.{file_of, report_wrong, report_by, report_by_area}
use Rattle.pack_request.proofs.Ready.{not_false, ended_file}
use Rattle.pack_request.proofs.Changed.{Frame, Beside, changed_refused, changed_taken, changed_frame, here_file, here_channel, became_sound}
use Rattle.std.specs.declared.option.Option.{Option}
use Rattle.std.specs.declared.option.Option.TheVariants.{Some, None}
use Rattle.std.specs.Option.{is_some, unwrap_or}
use Rattle.channel.specs.declared.Op.{Op}

-- ---- what a report that is booked comes to

pub data Booked (c : Channel) (u outcome len : ℕ) : Type 0 where
  again : (r q : Request) → turn_at c u ≡ Working r → judge_of c u outcome len ≡ Repeats q → Booked c u outcome len
  ended : (r : Request) (e : Ending) → turn_at c u ≡ Working r → judge_of c u outcome len ≡ Ends e → Booked c u outcome len

pub booked : (c : Channel) (u outcome len : ℕ) → is_idle_for (operation_at c u) ≡ false → is_forbidden (operation_at c u) outcome ≡ false → Booked c u outcome len
unfolding operation_at judge_of verdict_of table_verdict
booked c u outcome len = go (turn_at c u) refl
  where
    judged_as_lem : (r : Request) (n a b : Bool) → turn_at c u ≡ Working r → is_noise r outcome len ≡ n → is_allowed r.op outcome ≡ a
        → (not (is_failure outcome) || is_permanent r outcome) ≡ b → a ≡ true → Booked c u outcome len
    judged_as_lem r true a b i l p q h = again r (past_noise r) i (ap (λ (t : Turn). judge_turn t outcome len) i ∙ rw l)
    judged_as_lem r false true true i l p q h = ended r (ending_of r.op r.attempts outcome) i (ap (λ (t : Turn). judge_turn t outcome len) i ∙ rw (l, p, q))
    judged_as_lem r false true false i l p q h = again r (next_attempt r outcome) i (ap (λ (t : Turn). judge_turn t outcome len) i ∙ rw (l, p, q))
    judged_as_lem r false false b i l p q h = true_not_false h refl

    go : (t : Turn) → turn_at c u ≡ t → is_idle_for (work_of t) ≡ false → is_forbidden (work_of t) outcome ≡ false → Booked c u outcome len
    go Idle i w a = true_not_false refl w
    go (Waiting q) i w a = true_not_false refl w
    go (Displaced q) i w a = true_not_false refl w
    go (Working r) i w a =
        judged_as_lem r (is_noise r outcome len) (is_allowed r.op outcome) (not (is_failure outcome) || is_permanent r outcome) i refl refl refl
        (not_false (is_allowed r.op outcome) a)

-- it is booked by the channel too
booked_answer : (c : Channel) (u outcome len : ℕ) → Booked c u outcome len → a_report (report u outcome len) (report_answer (judge_of c u outcome len)) ≡ true
booked_answer c u outcome len (again r q i j) = ap (λ (v : Verdict). a_report (report u outcome len) (report_answer v)) j
booked_answer c u outcome len (ended r e i j) = ap (λ (v : Verdict). a_report (report u outcome len) (report_answer v)) j

busy : (c : Channel) (u outcome len : ℕ) → Booked c u outcome len → is_none (requested (turn_at c u)) ≡ false
busy c u outcome len (again r q i j) = ap (λ (t : Turn). is_none (requested t)) i
busy c u outcome len (ended r e i j) = ap (λ (t : Turn). is_none (requested t)) i

-- ---- what is found may stand with the block

delivery_fits : (x : Effect) (f : File) (words : List ℕ) → f.block < block_numbers → is_checked f.sequence f.check (delivery_check x f words) ≡ true
delivery_fits x f words small = go (is_delivery x)
  where
    go : (b : Bool) → is_checked f.sequence f.check (cond b (judged_block words f.sequence f.check f.block).found unchecked) ≡ true
    go true = judged_fits words f.sequence f.check f.block small
    go false = unchecked_fits f.sequence f.check

-- and its error has not been told
delivery_exact : (x : Effect) (f : File) (words : List ℕ) → is_exact f.sequence f.check (delivery_check x f words) ≡ true
delivery_exact x f words = go (is_delivery x)
  where
    go : (b : Bool) → is_exact f.sequence f.check (cond b (judged_block words f.sequence f.check f.block).found unchecked) ≡ true
    go true = eq-eqb _ _ (judged_compares words f.sequence f.check f.block)
    go false = unchecked_exact f.sequence f.check

-- ---- the file of a unit

pub serving : (fs : List File) (c u : ℕ) → length fs ≡ file_count → Served fs c u → serves c u (get_or fs (unwrap_or (serving_file fs c u) file_count) closed_file) ≡ true
unfolding serving_file
serving fs c u n p = go (serving_file fs c u) refl
  where
    within : p.place < file_count
    within = let l = place_inside fs closed_file (serves c u) refl p.place p.bound in omega arith

    go : (x : Option ℕ) → serving_file fs c u ≡ x → serves c u (get_or fs (unwrap_or x file_count) closed_file) ≡ true
    go (Some i) e = (first_finds suc (λ j. serves c u (get_or fs j closed_file)) file_count 0 i e).passes
    go None e = true_not_false p.bound (unbound fs c u p.place (ap is_some e) within)

-- ---- what an accepted report found

pub record ReportReady (wrong : Bool) (f : File) (c : Channel) (u outcome len w : ℕ) (area words : List ℕ) : Type 0 where
  pub right : wrong ≡ false
  pub measure : length_wrong outcome len (operation_at c u) (length words) ≡ false
  pub range : (leb unit_count u || leb outcome_count outcome) ≡ false
  pub given : all_of is_word words ≡ true
  pub handed : all_of is_word (shown_block (effect_at c u outcome len (length words)) w f area) ≡ true
  pub works : is_idle_for (operation_at c u) ≡ false
  pub allowed : is_forbidden (operation_at c u) outcome ≡ false
  pub fits : is_delivery (effect_at c u outcome len (length words)) ≡ true → block_fits f (length words) ≡ true

and_not : (a w b : Bool) → ((a || w) && not b) ≡ false → a ≡ true → b ≡ true
and_not true w b e t = not_false b e
and_not false w b e t = true_not_false t refl

pub report_ready : (wrong : Bool) (f : File) (c : Channel) (u outcome len w : ℕ) (area words : List ℕ) → report_refusal wrong f c u outcome len w area words ≡ 0
    → ReportReady wrong f c u outcome len w area words
unfolding report_refusal
report_ready wrong f c u outcome len w area words z =
    let a = lowest_none 1 ((wrong || length_wrong outcome len (operation_at c u) (length words)) || ((leb unit_count u || leb outcome_count outcome) || (ltb 0 (length words) && (ltb incomplete_word outcome || takes_no_words (operation_at c u))))) _ (λ q. omega arith) z in
    let b = lowest_none 2 (not (all_of is_word words) || not (all_of is_word (shown_block (effect_at c u outcome len (length words)) w f area))) _ (λ q. omega arith) a.1 in
    let d = lowest_none 11 _ _ (λ q. omega arith) b.1 in
    let e = lowest_none 12 _ _ (λ q. omega arith) d.1 in
    let g = lowest_none 13 ((is_delivery (effect_at c u outcome len (length words)) || ltb 0 (length words)) && not (block_fits f (length words))) _ (λ q. omega arith) e.1 in
    record {
      right = or_left wrong _ (or_left (wrong || length_wrong outcome len (operation_at c u) (length words)) _ a.0);
      measure = or_right wrong _ (or_left (wrong || length_wrong outcome len (operation_at c u) (length words)) _ a.0);
      range = or_left (leb unit_count u || leb outcome_count outcome) _ (or_right (wrong || length_wrong outcome len (operation_at c u) (length words)) _ a.0);
      given = not_false (all_of is_word words) (or_left (not (all_of is_word words)) _ b.0);
      handed = not_false _ (or_right (not (all_of is_word words)) _ b.0);
      works = d.0;
      allowed = e.0;
      fits = and_not (is_delivery (effect_at c u outcome len (length words))) (ltb 0 (length words)) (block_fits f (length words)) g.0;
    }

-- ---- the call on a state

module _ (s : State) (area : List ℕ) (channel unit outcome len : ℕ) (words : List ℕ) where
  abbrev i : ℕ
  i = file_of s channel unit

  abbrev f : File
  f = file_at s i

  abbrev c : Channel
  c = channel_at s channel

  abbrev wrong : Bool
  wrong = report_wrong s (length area) channel

  abbrev rows : Rows
  rows = report_rows wrong f c unit outcome len s.w area words

  abbrev refusal : ℕ
  refusal = report_refusal wrong f c unit outcome len s.w area words

  abbrev reported : Reporting
  reported = report_by s area channel unit outcome len words

  abbrev after : List ℕ
  after = report_by_area s area channel unit outcome len words

  abbrev change : ReportChange
  change = report_on wrong f c unit outcome len s.w s.frozen area words

  abbrev effect : Effect
  effect = effect_at c unit outcome len (length words)

  abbrev booking : Channel
  booking = book_of c unit (judge_of c unit outcome len) s.frozen

  abbrev became : File
  became = reported_file effect f (length words) (delivery_check effect f words)

  abbrev routines_after : Verdict → Routines
  routines_after v = reported_routines s.routines s.frozen channel unit (result_number (position_at c unit) v)

  change_refused : (refusal ≡ 0 → ⊥) → change ≡ refused_report refusal f c
  unfolding report_on
  change_refused h = rw (ne_eqb refusal 0 h)

  change_booked : refusal ≡ 0 → change ≡ record {
    refusal = 0;
    result = result_number (position_at c unit) (judge_of c unit outcome len);
    delivery = delivery_of effect (delivery_check effect f words);
    working = unit_number (working_in booking);
    start = shown_start effect s.w f;
    count = shown_count effect f;
    file = became;
    channel = booking;
  }
  unfolding report_on
  change_booked z = rw (eq-eqb refusal 0 z)

  booked_number : refusal ≡ 0 → change.refusal ≡ 0
  booked_number z = ap (λ (x : ReportChange). x.refusal) (change_booked z)

  refused_number : (refusal ≡ 0 → ⊥) → change.refusal ≡ refusal
  refused_number h = ap (λ (x : ReportChange). x.refusal) (change_refused h)

  report_number_lem : reported.refusal ≡ refusal
  unfolding report_by
  report_number_lem = go (ℕ_discrete refusal 0)
    where
      go : Dec (refusal ≡ 0) → change.refusal ≡ refusal
      go (yes z) = booked_number z ∙ sym z
      go (no h) = refused_number h

  report_state : refusal ≡ 0 → reported.state ≡ with_routines (with_file (with_channel s channel booking) i became) (routines_after (judge_of c unit outcome len))
  unfolding report_by
  report_state z =
      changed_taken s i channel _ _ _ _ (booked_number z)
      ∙ ap (λ (x : ReportChange). with_routines (with_file (with_channel s channel x.channel) i x.file) (reported_routines s.routines s.frozen channel unit x.result)) (change_booked z)

  -- refused: the number alone, the state that was passed, and the area as it was
  pub record ReportAlone : Type 0 where
    pub answer : reported ≡ record { refusal = refusal; result = 0; delivery = None; working = 0; start = 0; count = 0; state = s }
    pub untouched : after ≡ area

  report_alone : (refusal ≡ 0 → ⊥) → ReportAlone
  unfolding report_by report_by_area report_on_area
  report_alone h = record {
    answer = rw (change_refused h, changed_refused s i channel refusal f c (reported_routines s.routines s.frozen channel unit 0) h);
    untouched = rw (ne_eqb refusal 0 h);
  }

  pub record ReportExactly : Type 0 where
    pub number : reported.refusal ≡ lowest rows
    pub table : Exactly rows
    pub alone : (reported.refusal ≡ 0 → ⊥) → ReportAlone

  -- "Given exactly when": refused with a number exactly if its row applies and no lower one does; a refusal changes nothing
  pub report_exactly : ReportExactly
  unfolding report_refusal
  report_exactly = record { number = report_number_lem; table = exactly rows refl; alone = λ h. report_alone (λ z. h (report_number_lem ∙ z)) }

  -- what is not named is not touched: every other file, and every other channel
  pub report_frame : Frame s reported.state i channel
  unfolding report_by
  report_frame = changed_frame s i channel _ _ _ _

  module _ (sixteen : length s.files ≡ file_count) (z : refusal ≡ 0) where
    ready : ReportReady wrong f c unit outcome len s.w area words
    ready = report_ready wrong f c unit outcome len s.w area words z

    pub report_was_sound : sound s ≡ true
    report_was_sound = not_false (sound s) (or_left (not (sound s)) _ ready.right)

    pub facts : SoundFacts s
    facts = sound_facts s report_was_sound

    pub view : Booked c unit outcome len
    view = booked c unit outcome len ready.works ready.allowed

    serves_it : serves channel unit f ≡ true
    serves_it = serving s.files channel unit sixteen (facts.served channel unit (busy c unit outcome len view))

    pub is_open : f.opened ≡ true
    is_open = and_left f.opened _ serves_it

    on_channel_lem : f.channel ≡ channel
    on_channel_lem = eqb-true f.channel channel (and_left (eqb f.channel channel) _ (and_right f.opened _ serves_it))

    on_unit_lem : f.unit ≡ unit
    on_unit_lem = eqb-true f.unit unit (and_right (eqb f.channel channel) _ (and_right f.opened _ serves_it))

    pub requested_ready : file_ready (requested (turn_at c unit)) f ≡ true
    requested_ready =
        sym (ap (λ (n : ℕ). file_ready (requested (turn_at (channel_at s n) f.unit)) f) on_channel_lem ∙ ap (λ (n : ℕ). file_ready (requested (turn_at c n)) f) on_unit_lem)
        ∙ facts.ready i is_open

    inside : channel < length s.channels
    inside = subst (λ (n : ℕ). n < length s.channels) on_channel_lem (line_of s facts i is_open)

    unit_known_lem : declared_at c unit ≡ true
    unit_known_lem = sym (ap (λ (n : ℕ). declared_at (channel_at s n) f.unit) on_channel_lem ∙ ap (declared_at c) on_unit_lem) ∙ facts.declared i is_open

    after_facts : (found : Checked) → is_checked f.sequence f.check found ≡ true → is_exact f.sequence f.check found ≡ true
        → SoundFacts (with_routines (with_file (with_channel s channel booking) i (reported_file effect f (length words) found)) (routines_after (judge_of c unit outcome len)))
    unfolding operation_at reported_file
    after_facts found right exact = go view ready.fits
      where
        To : Option Op → Verdict → Type 0
        To x v =
            SoundFacts
            (with_routines (with_file (with_channel s channel (book_of c unit v s.frozen)) i (reported_file (effect_of (ltb 0 (length words)) x v) f (length words) found))
            (routines_after v))

        go : Booked c unit outcome len → (is_delivery effect ≡ true → block_fits f (length words) ≡ true) → To (operation_at c unit) (judge_of c unit outcome len)
        go (again r q t j) k =
            let moved = repeat_moved s.m c unit s.frozen (facts.channels channel) outcome len q j in
            subst (To (operation_at c unit)) (sym j)
            (became_sound s i channel unit (book_of c unit (Repeats q) s.frozen) f (requested (turn_at c unit)) (routines_after (Repeats q)) facts is_open on_channel_lem on_unit_lem moved
            (record { sound = facts.files i is_open; ready = requested_ready; alike = alike_self f })
            (subst (Beside (set s.channels channel (book_of c unit (Repeats q) s.frozen)) s.frozen)
            (sym (repeats_routines s.routines s.frozen channel unit (position_at c unit) q))
            (repeated_beside s channel unit _ (requested (turn_at c unit)) facts inside moved refl)))
        go (ended r e t j) k =
            let moved = end_moved s.m c unit s.frozen (facts.channels channel) outcome len e j in
            let w : operation_at c unit ≡ Some r.op = ap work_of t in
            let here : effect ≡ op_effect (ltb 0 (length words)) r.op e = ap (effect_of (ltb 0 (length words)) (operation_at c unit)) j ∙ ap (λ (x : Option Op). effect_of (ltb 0 (length words)) x (Ends e)) w in
            subst (To (operation_at c unit)) (sym j)
            (subst (λ (x : Option Op). To x (Ends e)) (sym w)
            (became_sound s i channel unit (book_of c unit (Ends e) s.frozen) _ None (routines_after (Ends e)) facts is_open on_channel_lem on_unit_lem moved
            (ended_file s.m s.w f (length words) found (facts.files i is_open) right exact (ltb 0 (length words)) r.op e
            (sym (ap (λ (x : Turn). file_ready (requested x) f) t) ∙ requested_ready) (λ b. k (ap is_delivery here ∙ b)))
            (subst (Beside (set s.channels channel (book_of c unit (Ends e) s.frozen)) s.frozen)
            (sym (ends_routines s.routines s.frozen channel unit (position_at c unit) e))
            (answered_beside s channel unit _ None facts inside moved refl unit_known_lem))))

    reported_channel : channel_at reported.state channel ≡ booking
    unfolding report_by
    reported_channel =
        here_channel s i channel _ _ _ _ (booked_number z) inside
        ∙ ap (λ (x : ReportChange). x.channel) (change_booked z)

    reported_event : Agrees (station c s.frozen) (some (record { event = report unit outcome len; answer = report_answer (judge_of c unit outcome len) }))
        (station (channel_at reported.state channel) reported.state.frozen)
    unfolding step report_of
    reported_event =
        ap (λ (d : Channel). step_to (report_answer (judge_of c unit outcome len)) (station d s.frozen)) (sym reported_channel)
        ∙ ap (λ (b : Bool). step_to (report_answer (judge_of c unit outcome len)) (station (channel_at reported.state channel) b)) (sym report_frame.frozen)

    -- no other file serves that unit
    only_file : (k : ℕ) → serves channel unit (file_at s k) ≡ true → k ≡ i
    unfolding apart
    only_file k h = go (ℕ_discrete k i)
      where
        shared : share_unit f (file_at s k) ≡ true
        shared = and_both f.opened _ is_open (ap (λ (n : ℕ). serves n f.unit (file_at s k)) on_channel_lem ∙ ap (λ (n : ℕ). serves channel n (file_at s k)) on_unit_lem ∙ h)

        go : Dec (k ≡ i) → k ≡ i
        go (yes e) = e
        go (no ne) = true_not_false shared (not-true (share_unit f (file_at s k)) (and_right (not (share_buffer f (file_at s k))) _ (facts.apart i k (λ e. ne (sym e)))))

  -- from a sound state the state after is sound
  pub report_kept : length s.files ≡ file_count → sound s ≡ true → sound reported.state ≡ true
  report_kept n h = go (ℕ_discrete refusal 0)
    where
      go : Dec (refusal ≡ 0) → sound reported.state ≡ true
      go (yes z) = ap sound (report_state z) ∙ facts_sound _ (after_facts n z (delivery_check effect f words) (delivery_fits effect f words ((facts n z).files i (is_open n z)).number) (delivery_exact effect f words))
      go (no k) = ap (λ (r : Reporting). sound r.state) (report_alone k).answer ∙ h

  -- an accepted report is one event of its channel, which the channel books too
  pub record ReportEvent : Type 0 where
    pub event : Agrees (station c s.frozen) (some (record { event = report unit outcome len; answer = report_answer (judge_of c unit outcome len) }))
        (station (channel_at reported.state channel) reported.state.frozen)
    pub counted : a_report (report unit outcome len) (report_answer (judge_of c unit outcome len)) ≡ true

  pub report_event_lem : length s.files ≡ file_count → reported.refusal ≡ 0 → ReportEvent
  report_event_lem n z = let y = sym report_number_lem ∙ z in record { event = reported_event n y; counted = booked_answer c unit outcome len (view n y) }

  -- A late completion cannot be booked to another file: the channel was working for the unit, one file alone is open on that unit, and that
  -- file and the channel are all that may change.
  pub record BooksOwn : Type 0 where
    pub works : is_idle_for (operation_at c unit) ≡ false
    pub bound : serves channel unit f ≡ true
    pub only : (k : ℕ) → serves channel unit (file_at s k) ≡ true → k ≡ i
    pub others : Frame s reported.state i channel

  pub report_books_own : length s.files ≡ file_count → reported.refusal ≡ 0 → BooksOwn
  report_books_own n z =
      let y = sym report_number_lem ∙ z in
      record { works = (ready n y).works; bound = serves_it n y; only = only_file n y; others = report_frame }

  -- the file after it, and the working unit that it adds
  pub report_file_lem : length s.files ≡ file_count → reported.refusal ≡ 0 → file_at reported.state i ≡ became
  unfolding report_by
  report_file_lem n z =
      let y = sym report_number_lem ∙ z in
      here_file s i channel _ _ _ _ (booked_number y) (place_of s i (is_open n y)) ∙ ap (λ (x : ReportChange). x.file) (change_booked y)

  pub report_working : length s.files ≡ file_count → reported.refusal ≡ 0
      → reported.working ≡ unit_number (working_in (channel_at reported.state channel))
  unfolding report_by
  report_working n z =
      let y = sym report_number_lem ∙ z in
      ap (λ (x : ReportChange). x.working) (change_booked y) ∙ ap (λ (d : Channel). unit_number (working_in d)) (sym (reported_channel n y))

  -- the routines after it: what an answered request named is due, or entered
  pub report_routines : reported.refusal ≡ 0 → reported.state.routines ≡ reported_routines s.routines s.frozen channel unit reported.result
  unfolding report_by with_routines
  report_routines z =
      let y = sym report_number_lem ∙ z in
      ap (λ (t : State). t.routines) (report_state y)
      ∙ ap (λ (x : ReportChange). reported_routines s.routines s.frozen channel unit x.result) (sym (change_booked y))
