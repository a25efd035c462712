-- What holds of a channel after every call since a fresh start: at most one unit works, and no attempt is past its limit.
-- Assumes nothing.
use mathlib.Core.Path.{◌≡◌, refl, ap, sym, ◌∙◌, subst}
use mathlib.Core.Bool.{Bool, true, false, not, cond, ◌&&◌, ◌||◌}
use mathlib.Core.Option.{Option, none, some}
use mathlib.Core.List.{List, [], ◌∷◌}
use Prim.Native.Nat.{ℕ, ◌+◌, ◌≤◌, ◌<◌}
use native.Mathlib.Omega.{arith}
use lib.Dec.{T, leb, eqb}
use borrow.Author.Tests.{leb-false}
use Rattle.area.proofs.Walks.{true_not_false, or_left, or_right}
use Rattle.channel.specs.declared.Op.{Op}
use Rattle.channel.specs.declared.Op.TheVariants.{Read, Write, Mark}
use Rattle.channel.specs.declared.Position.{Position}
use Rattle.channel.specs.declared.Request.{Request}
use Rattle.channel.specs.declared.Turn.{Turn}
use Rattle.channel.specs.declared.Turn.TheVariants.{Idle, Working}
use Rattle.channel.specs.declared.Channel.{Channel}
use Rattle.channel_outcomes.specs.declared.Verdict.TheVariants.{Refused, Repeats, Ends}
use Rattle.channel_outcomes.specs.Rules.{most_attempts, most_noise, most_reports, incomplete_word, row_of, is_allowed, is_failure, is_permanent, is_noise, past_noise, next_attempt, ending_of, table_verdict, verdict_of}
use Rattle.channel_outcomes.proofs.Laws.Rules.{noise_left}
use Rattle.channel.specs.Units.{size, declared_at, turn_at, with_unit, with_turn, is_idle, is_working}
use Rattle.channel_turns.specs.Starts.{new_request}
use Rattle.channel_theorems.specs.History.{Station, Event, Step, step, run}
use Rattle.channel_theorems.proofs.Theorems.Turning.{held, at_set, busy_inside, declared_inside}
use Rattle.channel_theorems.proofs.Theorems.Starts.{Started, is_frozen, is_busy, is_quiet, begins, started}
use Rattle.channel_theorems.proofs.Theorems.Calls.{Took, refuses, asks, repeats, ends, freezes, thaws, took, incomplete_held}

-- ---- a request's counts are in their ranges

pub record Counted (q : Request) : Type 0 where
  pub from : 1 ≤ q.attempts
  pub limit : q.attempts ≤ (row_of q.op).attempts
  pub words : q.incomplete ≤ (row_of q.op).incomplete
  pub noises : q.noise ≤ (row_of q.op).noise

pub limit_most : (op : Op) → (row_of op).attempts ≤ most_attempts
unfolding row_of
limit_most Read = omega arith
limit_most Write = omega arith
limit_most Mark = omega arith

pub noise_most : (op : Op) → (row_of op).noise ≤ most_noise
unfolding row_of
noise_most Read = omega arith
noise_most Write = omega arith
noise_most Mark = omega arith

-- the reports that a request has had, and the one that is due, are no more than any operation takes
pub reports_most : (q : Request) → Counted q → q.attempts + q.noise ≤ most_reports
reports_most q k = omega (arith, k.limit, k.noises, limit_most q.op, noise_most q.op)

some_attempt : (op : Op) → 1 ≤ (row_of op).attempts
unfolding row_of
some_attempt Read = omega arith
some_attempt Write = omega arith
some_attempt Mark = omega arith

pub counted_new : (op : Op) (p : Bool) → Counted (new_request op p)
counted_new op p = record { from = omega arith; limit = some_attempt op; words = omega arith; noises = omega arith }

-- ---- an operation that is repeated makes one attempt more, or has passed over one noise record more, and has it left

pub record Again (r q : Request) : Type 0 where
  pub more : q.attempts + q.noise ≡ r.attempts + r.noise + 1
  pub alike : q.priority ≡ r.priority
  pub same_op : q.op ≡ r.op
  pub keeps : Counted r → Counted q

again_next : (r : Request) (outcome : ℕ) → is_permanent r outcome ≡ false → Again r (next_attempt r outcome)
unfolding is_permanent next_attempt
again_next r outcome h = record {
  more = omega arith;
  alike = refl;
  same_op = refl;
  keeps = λ k. record {
    from = omega (arith, k.from);
    limit = omega (arith, leb-false (row_of r.op).attempts r.attempts (or_left (leb (row_of r.op).attempts r.attempts) _ h));
    words = room k.words (eqb outcome incomplete_word) (or_right (leb (row_of r.op).attempts r.attempts) _ h);
    noises = k.noises;
  };
}
  where
    room : r.incomplete ≤ (row_of r.op).incomplete → (b : Bool) → (b && leb (row_of r.op).incomplete r.incomplete) ≡ false
        → cond b (r.incomplete + 1) r.incomplete ≤ (row_of r.op).incomplete
    room k true e = omega (arith, leb-false (row_of r.op).incomplete r.incomplete e)
    room k false e = k

again_passed : (r : Request) (outcome length : ℕ) → is_noise r outcome length ≡ true → Again r (past_noise r)
unfolding past_noise
again_passed r outcome length h = record {
  more = omega arith;
  alike = refl;
  same_op = refl;
  keeps = λ k. record { from = k.from; limit = k.limit; words = k.words; noises = omega (arith, noise_left r outcome length _ refl h) };
}

table_again : (r : Request) (outcome : ℕ) (q : Request) → table_verdict r outcome ≡ Repeats q → Again r q
unfolding table_verdict
table_again r outcome q = by_row (is_allowed r.op outcome) (not (is_failure outcome)) (is_permanent r outcome) refl
  where
    by_row : (a f p : Bool) → is_permanent r outcome ≡ p
        → cond a (cond (f || p) (Ends (ending_of r.op r.attempts outcome)) (Repeats (next_attempt r outcome))) (Refused 12) ≡ Repeats q → Again r q
    by_row false f p i e = absurd (let z : ◌≡◌ {A = ℕ} 0 1 = cc in omega arith)
    by_row true true p i e = absurd (let z : ◌≡◌ {A = ℕ} 0 1 = cc in omega arith)
    by_row true false true i e = absurd (let z : ◌≡◌ {A = ℕ} 0 1 = cc in omega arith)
    by_row true false false i e = let same : next_attempt r outcome ≡ q = cc in subst (λ (k : Request). Again r k) same (again_next r outcome i)

pub verdict_again : (r : Request) (outcome length : ℕ) (q : Request) → verdict_of r outcome length ≡ Repeats q → Again r q
unfolding verdict_of
verdict_again r outcome length q = by_noise (is_noise r outcome length) refl
  where
    by_noise : (n : Bool) → is_noise r outcome length ≡ n → cond n (Repeats (past_noise r)) (table_verdict r outcome) ≡ Repeats q → Again r q
    by_noise true i e = let same : past_noise r ≡ q = cc in subst (λ (k : Request). Again r k) same (again_passed r outcome length i)
    by_noise false i e = table_again r outcome q e

-- it is the same request with one noise record more, or one attempt more
table_next : (r : Request) (outcome : ℕ) (q : Request) → table_verdict r outcome ≡ Repeats q → next_attempt r outcome ≡ q
unfolding table_verdict
table_next r outcome q = by_row (is_allowed r.op outcome) (not (is_failure outcome) || is_permanent r outcome)
  where
    by_row : (a e : Bool)
        → cond a (cond e (Ends (ending_of r.op r.attempts outcome)) (Repeats (next_attempt r outcome))) (Refused 12) ≡ Repeats q
        → next_attempt r outcome ≡ q
    by_row false e i = absurd (let z : ◌≡◌ {A = ℕ} 0 1 = cc in omega arith)
    by_row true true i = absurd (let z : ◌≡◌ {A = ℕ} 0 1 = cc in omega arith)
    by_row true false i = let same : next_attempt r outcome ≡ q = cc in same

pub verdict_next : (r : Request) (outcome length : ℕ) (q : Request) → verdict_of r outcome length ≡ Repeats q
    → cond (is_noise r outcome length) (past_noise r) (next_attempt r outcome) ≡ q
unfolding verdict_of
verdict_next r outcome length q = by_noise (is_noise r outcome length)
  where
    by_noise : (n : Bool) → cond n (Repeats (past_noise r)) (table_verdict r outcome) ≡ Repeats q → cond n (past_noise r) (next_attempt r outcome) ≡ q
    by_noise true e = let same : past_noise r ≡ q = cc in same
    by_noise false e = table_next r outcome q e

pub again_counted : (r q : Request) → Again r q → Counted r → Counted q
again_counted r q a k = a.keeps k

-- ---- at most one unit works

abbrev pub OneWorks : Channel → Type 0
OneWorks c = (x y : ℕ) → is_working (turn_at c x) ≡ true → is_working (turn_at c y) ≡ true → x ≡ y

one_start : (c : Channel) (f : Bool) (d : Channel) → OneWorks c → Started c f d → OneWorks d
one_start c f d one (is_frozen e) = one
one_start c f d one (is_busy x e) = one
one_start c f d one (is_quiet g) = one
one_start c f d one (begins x t b) = λ y z i j. only y i ∙ sym (only z j)
  where
    only : (y : ℕ) → is_working (turn_at (with_turn c x t) y) ≡ true → y ≡ x
    only = at_set c x t b.within (λ y k. is_working k.turn ≡ true → y ≡ x) (λ i. refl) (λ y ne i. true_not_false i (b.was_idle y))

-- a change at one unit that makes none work that did not
one_set : (c : Channel) (x : ℕ) (t : Turn) (stood : Position) → OneWorks c → x < size c → (is_working t ≡ true → is_working (turn_at c x) ≡ true)
    → OneWorks (with_unit c x t stood)
one_set c x t stood one l w = λ y z i j. one y z (old y i) (old z j)
  where
    old : (y : ℕ) → is_working (turn_at (with_unit c x t stood) y) ≡ true → is_working (turn_at c y) ≡ true
    old = at_set c x t l (λ y k. is_working k.turn ≡ true → is_working (turn_at c y) ≡ true) w (λ y ne i. i)

-- "each channel works for at most one unanswered request": every call keeps it
pub one_kept : (s : Station) (e : Event) (o : Step) → OneWorks s.channel → Took s e o → OneWorks o.after.channel
one_kept s e o one refuses = one
one_kept s e o one (asks u op p d i) =
    one_start _ s.frozen _ (one_set s.channel u _ _ one (declared_inside s.channel u d) (λ w. true_not_false w refl)) (started _ _)
one_kept s e o one (repeats u oc len r q t stood i j m stands) =
    one_start _ s.frozen _ (one_set s.channel u t _ one (busy_inside s.channel u (ap is_idle i)) (λ w. ap is_working i)) (started _ _)
one_kept s e o one (ends u oc len r how stood i judged stands) =
    one_start _ s.frozen _ (one_set s.channel u Idle _ one (busy_inside s.channel u (ap is_idle i)) (λ w. true_not_false w refl)) (started _ _)
one_kept s e o one freezes = one
one_kept s e o one thaws = one_start s.channel false _ one (started _ _)

-- ---- every request that a unit holds is in its ranges, and its unit is declared

abbrev pub HoldOk : Bool → Option Request → Type 0
HoldOk d none = T true
HoldOk d (some q) = (d ≡ true) × Counted q

abbrev pub InRanges : Channel → Type 0
InRanges c = (x : ℕ) → HoldOk (declared_at c x) (held (turn_at c x))

ranges_set : (c : Channel) (x : ℕ) (t : Turn) (stood : Position) → InRanges c → x < size c → HoldOk (declared_at c x) (held t) → InRanges (with_unit c x t stood)
ranges_set c x t stood ok l h = at_set c x t l (λ y k. HoldOk k.declared (held k.turn)) h (λ y ne. ok y)

ranges_start : (c : Channel) (f : Bool) (d : Channel) → InRanges c → Started c f d → InRanges d
ranges_start c f d ok (is_frozen e) = ok
ranges_start c f d ok (is_busy x e) = ok
ranges_start c f d ok (is_quiet g) = ok
ranges_start c f d ok (begins x t b) = ranges_set c x t _ ok b.within (rw b.same (ok x))

-- a unit that works for r: it is one of the channel's, declared, and r is in its ranges
pub record Works (c : Channel) (x : ℕ) (r : Request) : Type 0 where
  pub within : x < size c
  pub known : declared_at c x ≡ true
  pub counted : Counted r
  pub busy : is_working (turn_at c x) ≡ true

pub works : (c : Channel) (x : ℕ) (r : Request) → InRanges c → turn_at c x ≡ Working r → Works c x r
works c x r ok e =
    let h : HoldOk (declared_at c x) (held (Working r)) = rw e at (ok x) in
    record { within = busy_inside c x (ap is_idle e); known = h.0; counted = h.1; busy = ap is_working e }

-- "no attempt past its limit": every call keeps it
pub ranges_kept : (s : Station) (e : Event) (o : Step) → InRanges s.channel → Took s e o → InRanges o.after.channel
ranges_kept s e o ok refuses = ok
ranges_kept s e o ok (asks u op p d i) =
    ranges_start _ s.frozen _ (ranges_set s.channel u _ _ ok (declared_inside s.channel u d) (d, counted_new op p)) (started _ _)
ranges_kept s e o ok (repeats u oc len r q t stood i j m stands) =
    let w = works s.channel u r ok i in
    ranges_start _ s.frozen _
    (ranges_set s.channel u t _ ok w.within (rw (incomplete_held q t m) (w.known, again_counted r q (verdict_again r oc len q j) w.counted)))
    (started _ _)
ranges_kept s e o ok (ends u oc len r how stood i judged stands) =
    let w = works s.channel u r ok i in
    ranges_start _ s.frozen _ (ranges_set s.channel u Idle _ ok w.within tt) (started _ _)
ranges_kept s e o ok freezes = ok
ranges_kept s e o ok thaws = ranges_start s.channel false _ ok (started _ _)

-- ---- both, along a history

pub record Sound (c : Channel) : Type 0 where
  pub one : OneWorks c
  pub ok : InRanges c

pub sound_step : (s : Station) (e : Event) → Sound s.channel → Sound (step s e).after.channel
sound_step s e h = record { one = one_kept s e (step s e) h.one (took s e); ok = ranges_kept s e (step s e) h.ok (took s e) }

pub sound_run : (s : Station) (h : List Event) → Sound s.channel → Sound (run s h).channel
unfolding run
sound_run s [] k = k
sound_run s (e ∷ h) k = sound_run (step s e).after h (sound_step s e k)
