-- Who works after each accepted call is whose turn it is by the channel's book. Assumes nothing.
use mathlib.Core.Path.{◌≡◌, refl, sym, ap, subst, ◌∙◌}
use mathlib.Core.Logic.{◌≢◌, ◌⊎◌, inl, inr}
use mathlib.Core.Bool.{Bool, true, false, not, cond, ◌&&◌, ◌||◌}
use mathlib.Core.Option.{Option, none, some}
use mathlib.Core.List.{List}
use Prim.Native.Nat.{ℕ, ◌≤◌, ◌<◌}
use native.Mathlib.Decide.{ℕ_discrete}
use native.Mathlib.Omega.{arith}
use lib.Dec.{eqb}
use borrow.Author.Tests.{eq-eqb, ne_eqb}
use Rattle.area.proofs.Walks.{true_not_false, or_either}
use Rattle.area.proofs.Marks.{cond_true, cond_false}
use Rattle.channel.specs.declared.Request.{Request}
use Rattle.channel.specs.declared.Turn.{Turn}
use Rattle.channel.specs.declared.Turn.TheVariants.{Idle, Waiting, Displaced, Working}
use Rattle.channel.specs.declared.Channel.{Channel}
use Rattle.channel.specs.Units.{position_at, unit_count, size, turn_at, is_idle, work_of, operation_at, has_request, is_working}
use Rattle.channel_outcomes.specs.declared.Ending.{Ending}
use Rattle.channel_outcomes.specs.declared.Ending.TheVariants.{Good, Opposite, MarkRead, MediumEnd, LostRedundancy, LostIncomplete}
use Rattle.channel_outcomes.specs.declared.Verdict.{Verdict}
use Rattle.channel_outcomes.specs.declared.Verdict.TheVariants.{Repeats, Ends}
use Rattle.channel_outcomes.specs.Rules.{result_number, ending_number}
use Rattle.channel_turns.specs.Scans.{next_unit, begin_of, working_in, unit_number, Before, upward, unwrapped, wrapped}
use Rattle.channel_turns.specs.Starts.{start_of, thaw_of}
use Rattle.channel_turns.specs.Turns.{judge_of, repeat_of, end_of, book_of, report_of}
use Rattle.channel_turns.proofs.Laws.Scans.{next_below, begin_here}
use Rattle.channel_theorems.specs.History as history
use Rattle.channel_theorems.specs.History.{Station, station, Step, step_to, report_answer, step}
use Rattle.channel_theorems.specs.Lifted.{Shown, Agrees}
use Rattle.channel_theorems.proofs.Theorems.Order as order
use Rattle.channel_theorems.proofs.Theorems.Order.{Next, next_is}
use Rattle.channel_theorems.proofs.Theorems.Turning.{held, mark_as, busy_inside}
use Rattle.channel_theorems.proofs.Theorems.Calls.{Took, took}
use Rattle.channel_theorems.proofs.Theorems.Fresh.{units_step}
use Rattle.channel_theorems.proofs.Theorems.Sound.{OneWorks}
use Rattle.channel_theorems.proofs.Theorems.Bookings.{held_start, mark_start, repeat_held, Quiet, Busy, urgent_held, ordinary_held, start_urgent, start_ordinary, start_busy, onward_urgent, onward_alone, none_works, found_busy, quiet_or_busy, working_at}
use Rattle.channel_theorems.proofs.Theorems.Starting.{StartedFrom, ask_starts, end_starts, end_halts, aside_starts, repeat_halts, no_start, ask_busy}
use Rattle.routines.specs.declared.Naming.{Naming}
use Rattle.state.specs.declared.State.{State}
use Rattle.state.specs.Places.{file_at, channel_at}
use Rattle.state_sound.proofs.ChannelFacts.{ChannelFacts}
use Rattle.state_sound.proofs.Facts.{sound_facts}
use Rattle.call_request.specs.Ask.{op_of, is_priority, ask_refusal}
use Rattle.call_request.specs.Report.{is_idle_for, report_refusal}
use Rattle.pack_request.specs.Calls.{ask_wrong, ask_waits}
use Rattle.pack_request.proofs.AskTheorems.{ask_ready, ask_exactly, ask_frame, ask_working}
use Rattle.pack_request.proofs.ReportTheorems.{Booked, again, ended, report_exactly, view, report_event_lem, report_frame, report_working}
use Rattle.pack.specs.Calls.{Call, fresh, opening, close, ask, report, get, put, seal, skip, freeze, thaw, return, running, answer_of}
use Rattle.pack.specs.Histories.{is_repeat, is_accepted}
use Rattle.pack.specs.Books.{told_result, Pending, Book, is_urgent, is_ordinary, booked, booked_at}
use Rattle.pack.proofs.Kept as kept
use Rattle.pack.proofs.Kept.{call_kept}
use Rattle.pack.proofs.Seen.{station_at, event_if, seen, call_agrees}
use Rattle.pack.proofs.Counted.{repeats_told, result_is}
use Rattle.pack.proofs.Booking.{as_held, last_as, MarkIs, Shows, call_shows}
use Rattle.demands.specs.Turns as turns
use Rattle.demands.specs.Turns.{works_for, NoneWorks, SomeWorks, Earlier, from_zero, above, below, Starts, is_pending, Begins, asks, thaws, Changes, reports, begins, afresh, Turns, Continues, told_working, Tells}
use Rattle.demands.proofs.Rows.{row_past, row_given, none_gives, not_gives}

-- ---- the order of the scan

earlier : (last : Option ℕ) (m : ℕ) → MarkIs last m → (x z : ℕ) → x < unit_count → z < unit_count → Before (begin_of unit_count m) x z → Earlier last z x
earlier none m e x z lx lz B = go (begin_of unit_count m) (ap (begin_of unit_count) e) B
  where
    go : (b : ℕ) → b ≡ 0 → Before b x z → Earlier none z x
    go b e (upward p q) = from_zero q
    go b e (unwrapped p q) = absurd (omega arith)
    go b e (wrapped p q) = absurd (omega arith)
earlier (some l) m (e, k) x z lx lz B =
    let low : m < unit_count = subst (λ (n : ℕ). n < unit_count) (sym e) (next_below unit_count l (omega arith)) in
    go (next_unit unit_count l) (next_is unit_count l) (begin_here unit_count m low ∙ e) B
  where
    go : (n : ℕ) → Next unit_count l n → begin_of unit_count m ≡ n → Before (begin_of unit_count m) x z → Earlier (some l) z x
    go n (order.above i q) w (upward p r) = let up : l < z = omega arith in above up r
    go n (order.above i q) w (unwrapped p r) = let up : l < z = omega arith in let down : x ≤ l = omega arith in turns.wrapped up down
    go n (order.above i q) w (wrapped p r) = let down : x ≤ l = omega arith in below r down
    go n (order.round i q) w (upward p r) = let down : x ≤ l = omega arith in below r down
    go n (order.round i q) w (unwrapped p r) = absurd (omega arith)
    go n (order.round i q) w (wrapped p r) = absurd (omega arith)

-- ---- a state and the book of one of its channels

urgent_book : (h : Option Pending) → urgent_held (as_held h) ≡ is_urgent h
urgent_book none = refl
urgent_book (some p) = refl

ordinary_book : (h : Option Pending) → ordinary_held (as_held h) ≡ is_ordinary h
ordinary_book none = refl
ordinary_book (some p) = refl

urgent_busy : (t : Turn) → urgent_held (held t) ≡ true → is_idle t ≡ false
urgent_busy Idle e = true_not_false e refl
urgent_busy (Waiting q) e = refl
urgent_busy (Displaced q) e = refl
urgent_busy (Working q) e = refl

ordinary_busy : (t : Turn) → ordinary_held (held t) ≡ true → is_idle t ≡ false
ordinary_busy Idle e = true_not_false e refl
ordinary_busy (Waiting q) e = refl
ordinary_busy (Displaced q) e = refl
ordinary_busy (Working q) e = refl

module _ (t : State) (c : ℕ) (b : Book) (D : Shows (station_at c t) b) where
  -- a start from a quiet channel
  starts_from : StartedFrom (channel_at t c) → Starts b t c
  unfolding step thaw_of
  starts_from X = record {
    priority = λ x p.
        ap (λ (d : Channel). is_working (turn_at d x)) (sym X.is)
        ∙ start_urgent e X.quiet x (urgent x ∙ p.0)
        (λ y l o. urgent y ∙ p.1 y (earlier b.last_urgent e.urgent (mark true) x y (inside x (urgent_busy (turn_at e x) (urgent x ∙ p.0)))
        (subst (λ (n : ℕ). y < n) long l) (subst (λ (n : ℕ). Before (begin_of n e.urgent) x y) long o)));
    ordinary = λ no x p.
        ap (λ (d : Channel). is_working (turn_at d x)) (sym X.is)
        ∙ start_ordinary e X.quiet (λ y. urgent y ∙ no y) x (ordinary x ∙ p.0)
        (λ y l o. ordinary y ∙ p.1 y (earlier b.last e.mark (mark false) x y (inside x (ordinary_busy (turn_at e x) (ordinary x ∙ p.0)))
        (subst (λ (n : ℕ). y < n) long l) (subst (λ (n : ℕ). Before (begin_of n e.mark) x y) long o)));
  }
    where
      e : Channel
      e = X.quietly

      holds : (y : ℕ) → held (turn_at e y) ≡ as_held (b.requests y)
      holds y = sym (held_start e false y) ∙ ap (λ (d : Channel). held (turn_at d y)) X.is ∙ D.holds y

      urgent : (y : ℕ) → urgent_held (held (turn_at e y)) ≡ is_urgent (b.requests y)
      urgent y = ap urgent_held (holds y) ∙ urgent_book (b.requests y)

      ordinary : (y : ℕ) → ordinary_held (held (turn_at e y)) ≡ is_ordinary (b.requests y)
      ordinary y = ap ordinary_held (holds y) ∙ ordinary_book (b.requests y)

      mark : (j : Bool) → MarkIs (last_as j b) (mark_as j e)
      mark j = subst (MarkIs (last_as j b)) (sym (ap (mark_as j) X.is) ∙ mark_start j e false) (D.mark j)

      long : size e ≡ unit_count
      long =
          sym (units_step (station e false) history.thaw (step (station e false) history.thaw) (took (station e false) history.thaw)).long
          ∙ ap (λ (d : Channel). size d) X.is ∙ D.long

      inside : (y : ℕ) → is_idle (turn_at e y) ≡ false → y < unit_count
      inside y o = subst (λ (n : ℕ). y < n) long (busy_inside e y o)

  module _ (G : kept.Good t) where
    facts : ChannelFacts t.m t.frozen (channel_at t c)
    facts = (sound_facts t G.right).channels c

    busy_request : (u : ℕ) → is_pending (b.requests u) ≡ true → is_idle (turn_at (channel_at t c) u) ≡ false
    busy_request u p = go (turn_at (channel_at t c) u) (b.requests u) (D.holds u) p
      where
        go : (x : Turn) (h : Option Pending) → held x ≡ as_held h → is_pending h ≡ true → is_idle x ≡ false
        go Idle none e q = true_not_false q refl
        go Idle (some r) e q = absurd (let z : ◌≡◌ {A = ℕ} 0 1 = cc in omega arith)
        go (Waiting r) h e q = refl
        go (Displaced r) h e q = refl
        go (Working r) h e q = refl

    some_works : b.frozen ≡ false → (u : ℕ) → is_pending (b.requests u) ≡ true → SomeWorks t c
    some_works f u p =
        let k = found_busy (channel_at t c) (facts.alive (D.frozen ∙ f) u (busy_request u p)) in
        record { unit = k.unit; works = k.works }

    has_request_lem : (x : ℕ) → works_for t c x ≡ true → is_pending (b.requests x) ≡ true
    has_request_lem x w = go (turn_at (channel_at t c) x) (b.requests x) (D.holds x) w
      where
        go : (y : Turn) (h : Option Pending) → held y ≡ as_held h → is_working y ≡ true → is_pending h ≡ true
        go Idle h e q = true_not_false q refl
        go (Waiting r) h e q = true_not_false q refl
        go (Displaced r) h e q = true_not_false q refl
        go (Working r) none e q = absurd (let z : ◌≡◌ {A = ℕ} 0 1 = cc in omega arith)
        go (Working r) (some p) e q = refl

    -- the number that tells who works
    tells : (told : ℕ) → told ≡ unit_number (working_in (channel_at t c)) → Tells t c told
    tells told e = record {
      unit = λ u w. e ∙ ap unit_number (working_at (channel_at t c) facts.one u w);
      nobody = λ q. e ∙ ap unit_number (none_works (channel_at t c) q);
    }

-- ---- every accepted call

module _ (c : ℕ) (s : State) (area : List ℕ) (g : kept.Good s) (b₀ : Book) (S : Shows (station_at c s) b₀) where
  -- the state after it, and the book with it
  abbrev then : Call → State
  then call = (answer_of s area call).state

  abbrev book : Call → Book
  book call = booked_at c s (record { call = call; area = area }) b₀

  D : (call : Call) → Shows (station_at c (then call)) (book call)
  D call = call_shows c s area g b₀ S call

  module _ (file op priority : ℕ) (naming : Naming) (z : (answer_of s area (ask file op priority naming)).refusal ≡ 0) where
    asked_as : (t : Bool) → eqb (file_at s file).channel c ≡ t
        → Agrees (station_at c s) (event_if t (history.ask (file_at s file).unit (op_of op) (is_priority priority)) history.accepted)
        (station_at c (then (ask file op priority naming)))
    asked_as t e =
        subst (λ (x : Bool). Agrees (station_at c s) (event_if x (history.ask (file_at s file).unit (op_of op) (is_priority priority)) history.accepted)
        (station_at c (then (ask file op priority naming))))
        (flag t e) (call_agrees c s area g (ask file op priority naming))
      where
        flag : (x : Bool) → eqb (file_at s file).channel c ≡ x
            → (is_accepted (answer_of s area (ask file op priority naming)) && eqb (file_at s file).channel c) ≡ x
        flag x q = rw (eq-eqb (answer_of s area (ask file op priority naming)).refusal 0 z, q)

    ask_took : (file_at s file).channel ≡ c
        → Took (station_at c s) (history.ask (file_at s file).unit (op_of op) (is_priority priority))
        (step_to history.accepted (station_at c (then (ask file op priority naming))))
    ask_took e =
        subst (Took (station_at c s) (history.ask (file_at s file).unit (op_of op) (is_priority priority)))
        (asked_as true (eq-eqb (file_at s file).channel c e))
        (took (station_at c s) (history.ask (file_at s file).unit (op_of op) (is_priority priority)))

    ask_elsewhere : (file_at s file).channel ≢ c → station_at c (then (ask file op priority naming)) ≡ station_at c s
    ask_elsewhere ne = asked_as false (ne_eqb (file_at s file).channel c ne)

  thaw_is : (answer_of s area thaw).refusal ≡ 0 → channel_at (then thaw) c ≡ start_of (channel_at s c) false
  unfolding step thaw_of
  thaw_is z = sym (ap (λ (r : Step). r.after.channel) seen_as)
    where
      seen_as : Agrees (station_at c s) (event_if true history.thaw history.accepted) (station_at c (then thaw))
      seen_as =
          subst (λ (t : Bool). Agrees (station_at c s) (event_if t history.thaw history.accepted) (station_at c (then thaw)))
          (eq-eqb (answer_of s area thaw).refusal 0 z) (call_agrees c s area g thaw)

  freeze_is : (answer_of s area freeze).refusal ≡ 0 → channel_at (then freeze) c ≡ channel_at s c
  unfolding step
  freeze_is z = sym (ap (λ (r : Step). r.after.channel) seen_as)
    where
      seen_as : Agrees (station_at c s) (event_if true history.freeze history.accepted) (station_at c (then freeze))
      seen_as =
          subst (λ (t : Bool). Agrees (station_at c s) (event_if t history.freeze history.accepted) (station_at c (then freeze)))
          (eq-eqb (answer_of s area freeze).refusal 0 z) (call_agrees c s area g freeze)

  -- an ask on an idle channel, and a thaw
  started : {call : Call} → Begins c s call → (answer_of s area call).refusal ≡ 0 → NoneWorks s c → (book call).frozen ≡ false → Starts (book call) (then call) c
  unfolding answer_of
  started (asks {file} {op} {priority} {naming} e) z q f =
      starts_from (then (ask file op priority naming)) c (book (ask file op priority naming)) (D (ask file op priority naming))
      (ask_starts (station_at c s) (file_at s file).unit (op_of op) (is_priority priority)
      (step_to history.accepted (station_at c (then (ask file op priority naming)))) (ask_took file op priority naming z e) refl q
      (sym (ask_frame s file op priority naming).frozen ∙ (D (ask file op priority naming)).frozen ∙ f))
  started thaws z q f =
      starts_from (then thaw) c (book thaw) (D thaw) (record { quietly = channel_at s c; quiet = q; is = sym (thaw_is z) })

  -- who works in a freeze worked before
  stopped_by : (x : Option Shown) (d : Station) → Agrees (station_at c s) x d → d.frozen ≡ true → (u : ℕ) → is_working (turn_at d.channel u) ≡ true
      → works_for s c u ≡ true
  stopped_by none d A f u w = ap (λ (k : Station). is_working (turn_at k.channel u)) (sym A) ∙ w
  stopped_by (some x) d A f u w =
      no_start (station_at c s) x.event (step_to x.answer d) (subst (Took (station_at c s) x.event) A (took (station_at c s) x.event)) f u w

  stopped : (call : Call) → (answer_of s area call).refusal ≡ 0 → (book call).frozen ≡ true → (u : ℕ) → works_for (then call) c u ≡ true → works_for s c u ≡ true
  stopped (fresh m w masks) z f =
      true_not_false f
      (ap (λ (t : Bool). (cond t (booked c s (fresh m w masks) (answer_of s area (fresh m w masks)) b₀) b₀).frozen)
      (eq-eqb (answer_of s area (fresh m w masks)).refusal 0 z))
  stopped (opening file channel unit flags size rlen) z f =
      stopped_by (seen c s area (opening file channel unit flags size rlen)) _ (call_agrees c s area g (opening file channel unit flags size rlen))
      ((D (opening file channel unit flags size rlen)).frozen ∙ f)
  stopped (close file) z f = stopped_by (seen c s area (close file)) _ (call_agrees c s area g (close file)) ((D (close file)).frozen ∙ f)
  stopped (ask file op priority naming) z f =
      stopped_by (seen c s area (ask file op priority naming)) _ (call_agrees c s area g (ask file op priority naming)) ((D (ask file op priority naming)).frozen ∙ f)
  stopped (report channel unit outcome len words) z f =
      stopped_by (seen c s area (report channel unit outcome len words)) _ (call_agrees c s area g (report channel unit outcome len words))
      ((D (report channel unit outcome len words)).frozen ∙ f)
  stopped (get file) z f = stopped_by (seen c s area (get file)) _ (call_agrees c s area g (get file)) ((D (get file)).frozen ∙ f)
  stopped (put file words) z f = stopped_by (seen c s area (put file words)) _ (call_agrees c s area g (put file words)) ((D (put file words)).frozen ∙ f)
  stopped (seal file) z f = stopped_by (seen c s area (seal file)) _ (call_agrees c s area g (seal file)) ((D (seal file)).frozen ∙ f)
  stopped (skip file) z f = stopped_by (seen c s area (skip file)) _ (call_agrees c s area g (skip file)) ((D (skip file)).frozen ∙ f)
  stopped freeze z f = stopped_by (seen c s area freeze) _ (call_agrees c s area g freeze) ((D freeze).frozen ∙ f)
  stopped thaw z f = stopped_by (seen c s area thaw) _ (call_agrees c s area g thaw) ((D thaw).frozen ∙ f)
  stopped return z f = stopped_by (seen c s area return) _ (call_agrees c s area g return) ((D return).frozen ∙ f)
  stopped running z f = stopped_by (seen c s area running) _ (call_agrees c s area g running) ((D running).frozen ∙ f)

  -- every other call leaves who works
  same_by : (u : ℕ) {d : Station} → d ≡ station_at c s → is_working (turn_at d.channel u) ≡ works_for s c u
  same_by u e = ap (λ (k : Station). is_working (turn_at k.channel u)) e

  unchanged : (call : Call) → (answer_of s area call).refusal ≡ 0 → (Changes c s call → ⊥) → (u : ℕ) → works_for (then call) c u ≡ works_for s c u
  unchanged (fresh m w masks) z n u = absurd (n afresh)
  unchanged (opening file channel unit flags size rlen) z n u = same_by u (call_agrees c s area g (opening file channel unit flags size rlen))
  unchanged (close file) z n u = same_by u (call_agrees c s area g (close file))
  unchanged (ask file op priority naming) z n u = go (ℕ_discrete (file_at s file).channel c) (quiet_or_busy (channel_at s c))
    where
      go : Dec ((file_at s file).channel ≡ c) → Quiet (channel_at s c) ⊎ Busy (channel_at s c) → works_for (then (ask file op priority naming)) c u ≡ works_for s c u
      go (no ne) k = same_by u (ask_elsewhere file op priority naming z ne)
      go (yes e) (inl q) = absurd (n (begins (asks e) q))
      go (yes e) (inr b) =
          ask_busy (station_at c s) (file_at s file).unit (op_of op) (is_priority priority)
          (step_to history.accepted (station_at c (then (ask file op priority naming)))) (ask_took file op priority naming z e) b u
  unchanged (report channel unit outcome len words) z n u = go (ℕ_discrete channel c)
    where
      go : Dec (channel ≡ c) → works_for (then (report channel unit outcome len words)) c u ≡ works_for s c u
      go (yes e) = absurd (n (reports e))
      go (no ne) =
          let flag : (is_accepted (answer_of s area (report channel unit outcome len words)) && eqb channel c) ≡ false =
          rw (eq-eqb (answer_of s area (report channel unit outcome len words)).refusal 0 z, ne_eqb channel c ne) in
          same_by u
          (subst (λ (x : Bool). Agrees (station_at c s) (event_if x (history.report unit outcome len) (report_answer (judge_of (channel_at s channel) unit outcome len)))
          (station_at c (then (report channel unit outcome len words)))) flag (call_agrees c s area g (report channel unit outcome len words)))
  unchanged (get file) z n u = same_by u (call_agrees c s area g (get file))
  unchanged (put file words) z n u = same_by u (call_agrees c s area g (put file words))
  unchanged (seal file) z n u = same_by u (call_agrees c s area g (seal file))
  unchanged (skip file) z n u = same_by u (call_agrees c s area g (skip file))
  unchanged freeze z n u = ap (λ (d : Channel). is_working (turn_at d u)) (freeze_is z)
  unchanged thaw z n u = go (quiet_or_busy (channel_at s c))
    where
      go : Quiet (channel_at s c) ⊎ Busy (channel_at s c) → works_for (then thaw) c u ≡ works_for s c u
      go (inl q) = absurd (n (begins thaws q))
      go (inr b) = ap (λ (d : Channel). is_working (turn_at d u)) (thaw_is z ∙ start_busy (channel_at s c) false b.unit b.works)
  unchanged return z n u = same_by u (call_agrees c s area g return)
  unchanged running z n u = same_by u (call_agrees c s area g running)

  pub call_turns : (call : Call) → (answer_of s area call).refusal ≡ 0 → Turns c s call (then call) (book call)
  call_turns call z =
      let G = call_kept s area g call in
      record {
        works = some_works (then call) c (book call) (D call) G;
        alone = (facts (then call) c (book call) (D call) G).one;
        request = has_request_lem (then call) c (book call) (D call) G;
        starts = λ k q f. started k z q f;
        stops = stopped call z;
        still = unchanged call z;
      }

-- ---- an accepted report

ends_some : (x : Ending) → is_repeat (ending_number x) ≡ false
ends_some Good = refl
ends_some Opposite = refl
ends_some MarkRead = refl
ends_some MediumEnd = refl
ends_some LostRedundancy = refl
ends_some LostIncomplete = refl

module _ (s : State) (area : List ℕ) (g : kept.Good s) (channel unit outcome len : ℕ) (words : List ℕ) (b₀ : Book) (S : Shows (station_at channel s) b₀)
    (z : (answer_of s area (report channel unit outcome len words)).refusal ≡ 0) where
  abbrev t : State
  t = (answer_of s area (report channel unit outcome len words)).state

  abbrev b : Book
  b = booked_at channel s (record { call = report channel unit outcome len words; area = area }) b₀

  abbrev e : Channel
  e = channel_at s channel

  abbrev result : ℕ
  result = told_result (answer_of s area (report channel unit outcome len words)).added

  shown : Shows (station_at channel t) b
  shown = call_shows channel s area g b₀ S (report channel unit outcome len words)

  became : (v : Verdict) → judge_of e unit outcome len ≡ v → channel_at t channel ≡ book_of e unit v s.frozen
  unfolding answer_of step report_of
  became v j =
      sym (ap (λ (x : Step). x.after.channel) (report_event_lem s area channel unit outcome len words g.sixteen z).event)
      ∙ ap (λ (x : Verdict). book_of e unit x s.frozen) j

  was_frozen : (f : Bool) → b.frozen ≡ f → s.frozen ≡ f
  unfolding answer_of
  was_frozen f q = sym (report_frame s area channel unit outcome len words).frozen ∙ shown.frozen ∙ q

  told_as : result ≡ result_number (position_at e unit) (judge_of e unit outcome len)
  unfolding answer_of
  told_as = result_is channel s area channel unit outcome len words z

  one : OneWorks e
  one = ((sound_facts s g.right).channels channel).one

  goes_again : (r q : Request) → turn_at e unit ≡ Working r → judge_of e unit outcome len ≡ Repeats q → Continues channel unit result s t b
  unfolding book_of
  goes_again r q i j = record {
    worked = ap is_working i;
    onward = λ f k alt. ap (λ (d : Channel). is_working (turn_at d unit)) (now false (was_frozen false f)) ∙ goes_on_lem alt;
    displaced = λ f k p x turn.
        (starts_from t channel b shown
        (subst StartedFrom (sym (now false (was_frozen false f)))
        (aside_starts e one unit r i q (own ∙ p) x (apart x p turn.0) (other x (apart x p turn.0) ∙ turn.0)))).priority x turn;
    next = λ f n. true_not_false (ap is_repeat (told_as ∙ ap (result_number (position_at e unit)) j) ∙ repeats_told (position_at e unit) q) n;
    halts = λ f u. ap (λ (d : Channel). is_working (turn_at d u)) (now true (was_frozen true f)) ∙ repeat_halts e one unit r i q u;
  }
    where
      now : (f : Bool) → s.frozen ≡ f → channel_at t channel ≡ repeat_of e unit q f
      now f k = became (Repeats q) j ∙ ap (repeat_of e unit q) k

      holds : (y : ℕ) → held (turn_at (channel_at t channel) y) ≡ cond (eqb y unit) (some q) (held (turn_at e y))
      holds y =
          ap (λ (d : Channel). held (turn_at d y)) (became (Repeats q) j) ∙ repeat_held e unit (busy_inside e unit (ap is_idle i)) s.frozen q y

      own : q.priority ≡ is_urgent (b.requests unit)
      own =
          sym (ap urgent_held (holds unit ∙ cond_true (some q) (held (turn_at e unit)) (eq-eqb unit unit refl))) ∙ ap urgent_held (shown.holds unit)
          ∙ urgent_book (b.requests unit)

      other : (y : ℕ) → y ≢ unit → urgent_held (held (turn_at e y)) ≡ is_urgent (b.requests y)
      other y ne =
          sym (ap urgent_held (holds y ∙ cond_false (some q) (held (turn_at e y)) (ne_eqb y unit ne))) ∙ ap urgent_held (shown.holds y)
          ∙ urgent_book (b.requests y)

      apart : (x : ℕ) → is_urgent (b.requests unit) ≡ false → is_urgent (b.requests x) ≡ true → x ≢ unit
      apart x p w k = true_not_false w (ap (λ (n : ℕ). is_urgent (b.requests n)) k ∙ p)

      goes_on_lem : (is_urgent (b.requests unit) ≡ true) ⊎ ((y : ℕ) → is_urgent (b.requests y) ≡ false)
          → is_working (turn_at (repeat_of e unit q false) unit) ≡ true
      goes_on_lem (inl p) = onward_urgent e unit r q i (own ∙ p)
      goes_on_lem (inr p) = onward_alone e unit r q i (λ y ne. other y ne ∙ p y)

  goes_out : (r : Request) (x : Ending) → turn_at e unit ≡ Working r → judge_of e unit outcome len ≡ Ends x → Continues channel unit result s t b
  unfolding book_of
  goes_out r x i j = record {
    worked = ap is_working i;
    onward = λ f k alt. true_not_false k (ap is_repeat (told_as ∙ ap (result_number (position_at e unit)) j) ∙ ends_some x);
    displaced = λ f k p y turn. true_not_false k (ap is_repeat (told_as ∙ ap (result_number (position_at e unit)) j) ∙ ends_some x);
    next = λ f n. starts_from t channel b shown (subst StartedFrom (sym (now false (was_frozen false f))) (end_starts e one unit r i x));
    halts = λ f u. ap (λ (d : Channel). is_working (turn_at d u)) (now true (was_frozen true f)) ∙ end_halts e one unit r i x u;
  }
    where
      now : (f : Bool) → s.frozen ≡ f → channel_at t channel ≡ end_of e unit x f
      now f k = became (Ends x) j ∙ ap (end_of e unit x) k

  pub report_continues : Continues channel unit result s t b
  unfolding answer_of report_refusal
  report_continues = go (view s area channel unit outcome len words g.sixteen (sym (report_exactly s area channel unit outcome len words).number ∙ z))
    where
      go : Booked e unit outcome len → Continues channel unit result s t b
      go (again r q i j) = goes_again r q i j
      go (ended r x i j) = goes_out r x i j

  pub report_tells : Tells t channel (told_working (answer_of s area (report channel unit outcome len words)).added)
  unfolding answer_of
  report_tells =
      tells t channel b shown (call_kept s area g (report channel unit outcome len words)) _ (report_working s area channel unit outcome len words g.sixteen z)

pub ask_tells : (s : State) (area : List ℕ) → kept.Good s → (file op priority : ℕ) (naming : Naming) (b₀ : Book) → Shows (station_at (file_at s file).channel s) b₀
    → (answer_of s area (ask file op priority naming)).refusal ≡ 0
    → Tells (answer_of s area (ask file op priority naming)).state (file_at s file).channel (told_working (answer_of s area (ask file op priority naming)).added)
unfolding answer_of
ask_tells s area g file op priority naming b₀ S z =
    tells (answer_of s area (ask file op priority naming)).state (file_at s file).channel _
    (call_shows (file_at s file).channel s area g b₀ S (ask file op priority naming)) (call_kept s area g (ask file op priority naming)) _
    (ask_working s file op priority naming z)

-- ---- an accepted ask: its unit had no request

pub ask_single : (s : State) (area : List ℕ) (file op priority : ℕ) (naming : Naming) (b : Book) → Shows (station_at (file_at s file).channel s) b
    → (answer_of s area (ask file op priority naming)).refusal ≡ 0 → b.requests (file_at s file).unit ≡ none
unfolding answer_of ask_refusal has_request
ask_single s area file op priority naming b S z =
    let f = file_at s file in
    let ready = ask_ready (ask_wrong s file) f (channel_at s f.channel) op priority naming (ask_waits s file) (sym (ask_exactly s file op priority naming).number ∙ z) in
    go (turn_at (channel_at s f.channel) f.unit) (b.requests f.unit) (S.holds f.unit) ready.quiet
  where
    go : (t : Turn) (h : Option Pending) → held t ≡ as_held h → not (is_idle t) ≡ false → h ≡ none
    go t none e q = refl
    go Idle (some p) e q = absurd (let z : ◌≡◌ {A = ℕ} 0 1 = cc in omega arith)
    go (Waiting r) (some p) e q = true_not_false refl q
    go (Displaced r) (some p) e q = true_not_false refl q
    go (Working r) (some p) e q = true_not_false refl q

-- ---- a report that is refused 11, and an ask that is refused 8

pub report_idle : (s : State) (area : List ℕ) (channel unit outcome len : ℕ) (words : List ℕ)
    → (answer_of s area (report channel unit outcome len words)).refusal ≡ 11 → works_for s channel unit ≡ false
unfolding answer_of operation_at
report_idle s area channel unit outcome len words z =
    let one = row_past 11 1 _ _ (λ q. omega arith) (sym (report_exactly s area channel unit outcome len words).number ∙ z) in
    let two = row_past 11 2 _ _ (λ q. omega arith) one.1 in
    go (turn_at (channel_at s channel) unit)
    (row_given 11 (is_idle_for (work_of (turn_at (channel_at s channel) unit))) _
    (not_gives 11 12 _ _ (λ q. omega arith) (not_gives 11 13 _ _ (λ q. omega arith) (none_gives 11 (omega arith)))) two.1)
  where
    go : (t : Turn) → is_idle_for (work_of t) ≡ true → is_working t ≡ false
    go Idle e = refl
    go (Waiting r) e = refl
    go (Displaced r) e = refl
    go (Working r) e = true_not_false e refl

pub ask_holding : (s : State) (area : List ℕ) (file op priority : ℕ) (naming : Naming) (b : Book) → Shows (station_at (file_at s file).channel s) b
    → (answer_of s area (ask file op priority naming)).refusal ≡ 8 → (is_pending (b.requests (file_at s file).unit) ≡ true) ⊎ (ask_waits s file ≡ true)
unfolding answer_of has_request
ask_holding s area file op priority naming b S z =
    let f = file_at s file in
    let one = row_past 8 1 _ _ (λ q. omega arith) (sym (ask_exactly s file op priority naming).number ∙ z) in
    let five = row_past 8 5 _ _ (λ q. omega arith) one.1 in
    let six = row_past 8 6 _ _ (λ q. omega arith) five.1 in
    or_either (not (is_idle (turn_at (channel_at s f.channel) f.unit))) (ask_waits s file)
    (row_given 8 (not (is_idle (turn_at (channel_at s f.channel) f.unit)) || ask_waits s file) _
    (not_gives 8 9 _ _ (λ q. omega arith) (not_gives 8 10 _ _ (λ q. omega arith) (not_gives 8 15 _ _ (λ q. omega arith) (none_gives 8 (omega arith)))))
    six.1)
    (λ e. inl (go (turn_at (channel_at s f.channel) f.unit) (b.requests f.unit) (S.holds f.unit) e)) (λ e. inr e)
  where
    go : (t : Turn) (h : Option Pending) → held t ≡ as_held h → not (is_idle t) ≡ true → is_pending h ≡ true
    go t (some p) e q = refl
    go Idle none e q = true_not_false q refl
    go (Waiting r) none e q = absurd (let k : ◌≡◌ {A = ℕ} 0 1 = cc in omega arith)
    go (Displaced r) none e q = absurd (let k : ◌≡◌ {A = ℕ} 0 1 = cc in omega arith)
    go (Working r) none e q = absurd (let k : ◌≡◌ {A = ℕ} 0 1 = cc in omega arith)
