-- Demand 3 and M-112's bound from what the system around a channel keeps: the same counts, in the pack's own words. Assumes nothing.
use mathlib.Core.Path.{◌≡◌, refl, sym, ap, subst, ◌∙◌}
use mathlib.Core.Logic.{inl, inr}
use mathlib.Core.Bool.{Bool, true, false, cond}
use mathlib.Core.Option.{Option, none, some}
use mathlib.Core.List.{List}
use Prim.Native.Nat.{ℕ, ◌+◌, ◌*◌}
use native.Mathlib.Omega.{arith}
use borrow.Author.Tests.{eq-eqb}
use Rattle.area.specs.Lists.{count_of}
use Rattle.area.proofs.Walks.{or_either}
use Rattle.channel.specs.declared.Op.{Op}
use Rattle.channel.specs.declared.Turn.{Turn}
use Rattle.channel.specs.declared.Turn.TheVariants.{Idle, Waiting, Displaced, Working}
use Rattle.channel.specs.declared.Unit.{Unit}
use Rattle.channel.specs.declared.Channel.{Channel}
use Rattle.channel.specs.Units.{unit_count, size, idle_unit, turn_at}
use Rattle.channel_outcomes.specs.Rules.{most_reports}
use Rattle.channel_turns.specs.Scans.{working_in}
use Rattle.channel_turns.specs.Turns.{holds_priority}
use Rattle.channel_theorems.specs.History as history
use Rattle.channel_theorems.specs.History.{accepted, a_report, a_priority, a_request_of, an_answer_to, urgent_in, declared_in, is_alive}
use Rattle.channel_theorems.specs.Lifted.{run_in, count_in, KeptWithinIn, KeptIn, KeptUrgentIn}
use Rattle.channel_theorems.proofs.Laws.Sums.{sum, sum_le, count_sum}
use Rattle.channel_theorems.proofs.Theorems.Turning.{held}
use Rattle.channel_theorems.proofs.Theorems.Bookings.{urgent_held, found_busy}
use Rattle.routines.specs.declared.Naming.{Naming}
use Rattle.state.specs.declared.State.{State}
use Rattle.state.specs.Places.{file_at, channel_at}
use Rattle.pack_start.specs.declared.Masks.{Masks}
use Rattle.pack_start.specs.Fresh.{fresh_state}
use Rattle.pack_start.proofs.FreshTheorems.{fresh_accepted}
use Rattle.call_request.specs.Ask.{op_of, is_priority}
use Rattle.pack.specs.Calls.{fresh, ask, answer_of}
use Rattle.pack.specs.Histories.{Lent, after, count, fresh_start, is_report_on, is_answer_for, is_priority_on, is_request_of, declared_on}
use Rattle.pack.specs.Books.{Pending, Book, blank_book, is_urgent, book_after}
use Rattle.pack.proofs.Kept.{Good, good_start, history_kept, call_kept}
use Rattle.pack.proofs.Seen.{station_at, seen, next_of}
use Rattle.pack.proofs.Around.{pack_around, run_same, count_same}
use Rattle.pack.proofs.Counted.{report_matches, answer_matches, priority_matches, request_matches}
use Rattle.pack.proofs.Turns.{bits_of, fresh_declared, turns_kept, urgent_kept}
use Rattle.pack.proofs.Booking.{as_held, Shows, shows_start, shows_after}
use Rattle.demands.specs.Demands.{unanswered, WorkingOrFrozen, AnswersWithin, Answers, AnswersUrgent}
use Rattle.std.specs.Option.{is_some}

-- ---- the priority requests without an answer, by the history

sum_same : (n : ℕ) (f g : ℕ → ℕ) → ((x : ℕ) → f x ≡ g x) → sum n f ≡ sum n g
sum_same n f g e =
    let a = sum_le n f g (λ x l. omega (arith, e x)) in
    let b = sum_le n g f (λ x l. omega (arith, e x)) in
    omega arith

urgent_same : (t : Turn) (h : Option Pending) → held t ≡ as_held h → holds_priority t ≡ is_urgent h
urgent_same t h e = of_turn t ∙ ap urgent_held e ∙ of_book h
  where
    of_turn : (x : Turn) → holds_priority x ≡ urgent_held (held x)
    of_turn Idle = refl
    of_turn (Waiting q) = refl
    of_turn (Displaced q) = refl
    of_turn (Working q) = refl

    of_book : (x : Option Pending) → urgent_held (as_held x) ≡ is_urgent x
    of_book none = refl
    of_book (some p) = refl

urgent_counted : (c : Channel) (b : Book) → ((u : ℕ) → held (turn_at c u) ≡ as_held (b.requests u)) → size c ≡ unit_count → urgent_in c ≡ unanswered b
unfolding urgent_in sum count_of
urgent_counted c b holds long =
    count_sum (λ (x : Unit). holds_priority x.turn) (idle_unit false) c.units
    ∙ ap (λ (n : ℕ). sum n (λ x. cond (holds_priority (turn_at c x)) 1 0)) long
    ∙ sum_same unit_count (λ x. cond (holds_priority (turn_at c x)) 1 0) (λ x. cond (is_urgent (b.requests x)) 1 0)
    (λ x. ap (λ (t : Bool). cond t 1 0) (urgent_same (turn_at c x) (b.requests x) (holds x)))
    ∙ omega arith

-- ---- working or frozen

works_or : (s : State) (c : ℕ) → is_alive (station_at c s) ≡ true → WorkingOrFrozen s c
works_or s c e =
    or_either s.frozen (is_some (working_in (channel_at s c))) e inr
    (λ f. let k = found_busy (channel_at s c) f in inl (record { unit = k.unit; works = k.works }))

-- ---- in the pack's words

in_words : (most c u : ℕ) (d : State) (later : List Lent) → Good d → count fresh_start d later ≡ 0
    → KeptWithinIn (pack_around c) most u d later → AnswersWithin most c u d later
in_words most c u d later g z K =
    let a = count_same c (is_answer_for c u) (an_answer_to u) (answer_matches c u) d later g z in
    let r = count_same c (is_request_of c u) (a_request_of u) (request_matches c u) d later g z in
    let n = count_same c (is_report_on c) a_report (report_matches c) d later g z in
    record {
      once = let k = K.once in omega arith;
      alive = λ e. works_or (after d later) c (subst (λ (t : State). is_alive (station_at c t) ≡ true) (run_same c d later z) (K.alive (a ∙ e)));
      sole = λ e. let k = K.sole (a ∙ e) in omega arith;
      soon = λ e. let k = K.soon (a ∙ e) in omega arith;
    }

-- the bound of an ordinary request
ordinary_words : (U c u : ℕ) (s d : State) (b : Book) (later : List Lent) → Good d → Shows (station_at c s) b → count fresh_start d later ≡ 0
    → KeptIn (pack_around c) U u s d later → Answers U c u b d later
ordinary_words U c u s d b later g S z K =
    subst (λ (i : ℕ). AnswersWithin (most_reports * (U + (unanswered b + i))) c u d later)
    (count_same c (is_priority_on c) a_priority (priority_matches c) d later g z)
    (subst (λ (i : ℕ). AnswersWithin (most_reports * (U + (i + count_in (pack_around c) a_priority d later))) c u d later)
    (urgent_counted (channel_at s c) b S.holds S.long) (in_words _ c u d later g z K))

-- in the states that the calls lead to: what an accepted request of kind k is promised, of U units, the state of its acceptance and the one after it
module _ (c m w : ℕ) (masks : Masks) (u : ℕ) (op : Op) (k : Bool) (x : Lent) (before : List Lent) (P : ℕ → State → State → Type 0)
    (law : Good (fresh_state m w masks)
    → seen c (run_in (pack_around c) (fresh_state m w masks) before) x.area x.call ≡ some (record { event = history.ask u op k; answer = accepted })
    → P (declared_in (bits_of masks c)) (run_in (pack_around c) (fresh_state m w masks) before)
    (next_of (run_in (pack_around c) (fresh_state m w masks) before) x.area x.call)) where
  Kept : State → Type 0
  Kept start = seen c (after start before) x.area x.call ≡ some (record { event = history.ask u op k; answer = accepted })
      → P (declared_on start c) (after start before) (next_of (after start before) x.area x.call)

  from_fresh : Good (fresh_state m w masks) → count fresh_start (fresh_state m w masks) before ≡ 0 → Kept (fresh_state m w masks)
  unfolding Kept
  from_fresh g z q =
      let r = run_same c (fresh_state m w masks) before z in
      subst (λ (t : State). P (declared_on (fresh_state m w masks) c) t (next_of t x.area x.call)) r
      (subst (λ (U : ℕ). P U (run_in (pack_around c) (fresh_state m w masks) before)
      (next_of (run_in (pack_around c) (fresh_state m w masks) before) x.area x.call)) (sym (fresh_declared m w masks c))
      (law g (ap (λ (t : State). seen c t x.area x.call) r ∙ q)))

  from_start : (start : State) → start ≡ fresh_state m w masks → Good start → count fresh_start start before ≡ 0 → Kept start
  from_start start e = subst (λ (t : State). Good t → count fresh_start t before ≡ 0 → Kept t) (sym e) from_fresh

module _ (s₀ : State) (area₀ : List ℕ) (m w : ℕ) (masks : Masks) (started : (answer_of s₀ area₀ (fresh m w masks)).refusal ≡ 0) (before : List Lent)
  where
    -- what the fresh start leaves, and the state in which the request is made
    abbrev pub start : State
    start = (answer_of s₀ area₀ (fresh m w masks)).state

    abbrev pub s : State
    s = after start before

    start_is : start ≡ fresh_state m w masks
    unfolding answer_of
    start_is = fresh_accepted s₀ _ m w masks started

    module _ (noSecond : count fresh_start start before ≡ 0) (file op priority : ℕ) (naming : Naming) (area : List ℕ) where
      seen_ask : (k : Bool) → is_priority priority ≡ k → (answer_of s area (ask file op priority naming)).refusal ≡ 0
          → seen (file_at s file).channel s area (ask file op priority naming)
          ≡ some (record { event = history.ask (file_at s file).unit (op_of op) k; answer = accepted })
      seen_ask k kind asked =
          rw (eq-eqb (answer_of s area (ask file op priority naming)).refusal 0 asked, eq-eqb (file_at s file).channel (file_at s file).channel refl, kind)

      pub answered : is_priority priority ≡ false → (answer_of s area (ask file op priority naming)).refusal ≡ 0 → (later : List Lent)
          → count fresh_start (answer_of s area (ask file op priority naming)).state later ≡ 0
          → Answers (declared_on start (file_at s file).channel) (file_at s file).channel (file_at s file).unit
          (book_after (file_at s file).channel start blank_book before) (answer_of s area (ask file op priority naming)).state later
      unfolding Kept
      answered ordinary asked later noLater =
          let g = good_start s₀ area₀ m w masks started in
          let c = (file_at s file).channel in
          let u = (file_at s file).unit in
          let x : Lent = record { call = ask file op priority naming; area = area } in
          ordinary_words (declared_on start c) c u s (answer_of s area (ask file op priority naming)).state (book_after c start blank_book before) later
          (call_kept s area (history_kept start before g) (ask file op priority naming))
          (shows_after c start blank_book before g (shows_start c s₀ area₀ m w masks started)) noLater
          (from_start c m w masks u (op_of op) false x before (λ U t d. KeptIn (pack_around c) U u t d later)
          (λ g₁. turns_kept c m w masks g₁ before u (op_of op) x later) start start_is g noSecond (seen_ask false ordinary asked))

      pub urgent_answered : is_priority priority ≡ true → (answer_of s area (ask file op priority naming)).refusal ≡ 0 → (later : List Lent)
          → count fresh_start (answer_of s area (ask file op priority naming)).state later ≡ 0
          → AnswersUrgent (declared_on start (file_at s file).channel) (file_at s file).channel (file_at s file).unit
          (answer_of s area (ask file op priority naming)).state later
      unfolding Kept
      urgent_answered urgent asked later noLater =
          let g = good_start s₀ area₀ m w masks started in
          let c = (file_at s file).channel in
          let u = (file_at s file).unit in
          let x : Lent = record { call = ask file op priority naming; area = area } in
          in_words _ c u (answer_of s area (ask file op priority naming)).state later (call_kept s area (history_kept start before g) (ask file op priority naming)) noLater
          (from_start c m w masks u (op_of op) true x before (λ U t d. KeptUrgentIn (pack_around c) U u d later)
          (λ g₁. urgent_kept c m w masks g₁ before u (op_of op) x later) start start_is g noSecond (seen_ask true urgent asked))
