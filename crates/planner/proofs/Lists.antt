-- The judgement is exact: a list is found good exactly if it is good by the plain statement. Assumes nothing.
use mathlib.Core.Path.{◌≡◌, refl, sym, ap, ◌∙◌}
use mathlib.Core.Bool.{Bool, true, false, not, cond, ◌||◌}
use mathlib.Core.List.{List, [], ◌∷◌}
use Prim.Native.Nat.{ℕ, zero, suc, ◌+◌, ◌≤◌, ◌<◌}
use native.Mathlib.Nat.{not-suc-le-zero}
use native.Mathlib.Omega.{arith}
use borrow.Author.Tests.{not-false, ltb-true, leb-true, leb-false, le-leb, lt-leb, eqb-true, eqb-false}
use lib.Dec.{eqb, leb}
use lib.ListN.{length, get_or, set, replicate, length-set, get_or-replicate}
use lib.Seq.{get_or-set_same, get_or-set_other}
use Rattle.area.specs.Lists.{count_of}
use Rattle.area.proofs.Walks.{by_test, true_not_false, and_left, and_right, and_both, or_left, or_right, or_neither}
use Rattle.std.proofs.Common.{Err}
use Rattle.planner.specs.declared.ListFault.TheVariants.{Limit}
use Rattle.planner.specs.Events.{file_limit, file_of, opens, limit_fits, wrong_event, opened_after, judge_from, judge_of, is_good}
use Rattle.planner.specs.Good.{after_event, open_after, GoodList}
use Rattle.planner.specs.Walk.{used}
use Rattle.planner.proofs.Turns.{good_from, openings_fit}

-- the flags say of each file whether it is open
abbrev Flags : List Bool → (ℕ → Bool) → Type 0
Flags flags o = (f : ℕ) → f < 64 → get_or flags f false ≡ o f

flags_after : (e : ℕ) (flags : List Bool) (o : ℕ → Bool) → length flags ≡ 64 → Flags flags o → Flags (opened_after flags e) (after_event e o)
unfolding opened_after after_event
flags_after e flags o long l f h =
    by_test (λ t. eqb f (file_of e) ≡ t → get_or (set flags (file_of e) (opens e)) f false ≡ cond t (opens e) (o f)) (eqb f (file_of e))
    (λ _ w. ap (λ (x : ℕ). get_or (set flags (file_of e) (opens e)) x false) (eqb-true f (file_of e) w) ∙ get_or-set_same flags (file_of e) (opens e) false (omega arith))
    (λ _ w. get_or-set_other flags (file_of e) f (opens e) false (eqb-false f (file_of e) w) ∙ l f h) refl

-- the plain statement of the events that are left, where n openings came before
record Right (n : ℕ) (events : List ℕ) (o : ℕ → Bool) : Type 0 where
  few : n + count_of opens events ≤ 64
  known : (k : ℕ) → k < length events → get_or events k 0 < 192
  right : (k : ℕ) → k < length events → open_after k events o (file_of (get_or events k 0)) ≡ not (opens (get_or events k 0))

-- one event that is not wrong
module _ (flags : List Bool) (n e : ℕ) (o : ℕ → Bool) (l : Flags flags o) where
  event_right : wrong_event flags n e ≡ false → (e < 192) × (o (file_of e) ≡ not (opens e))
  unfolding wrong_event
  event_right z =
      by_test (λ t. opens e ≡ t → (e < 192) × (o (file_of e) ≡ not t)) (opens e)
      (λ _ w. (omega (arith, ltb-true e 128 w), sym (l (file_of e) (omega arith)) ∙ or_left (get_or flags (file_of e) false) (leb file_limit n) (rw w at z)))
      (λ _ w. let z' : (leb 192 e || not (get_or flags (file_of e) false)) ≡ false = rw w at z in
      (leb-false 192 e (or_left (leb 192 e) _ z'), sym (l (file_of e) (omega arith)) ∙ not-false _ (or_right (leb 192 e) _ z'))) refl

  right_event : (opens e ≡ true → n < 64) → e < 192 → o (file_of e) ≡ not (opens e) → wrong_event flags n e ≡ false
  unfolding wrong_event
  right_event few h r =
      let here : get_or flags (file_of e) false ≡ not (opens e) = l (file_of e) (omega arith) ∙ r in
      by_test (λ t. opens e ≡ t → get_or flags (file_of e) false ≡ not t → cond t (get_or flags (file_of e) false || leb file_limit n) (leb 192 e || not (get_or flags (file_of e) false)) ≡ false) (opens e)
      (λ _ w s. or_neither (get_or flags (file_of e) false) (leb file_limit n) s (lt-leb file_limit n (few w)))
      (λ _ w s. or_neither (leb 192 e) (not (get_or flags (file_of e) false)) (lt-leb 192 e h) (ap not s)) refl here

-- the events one after the other
right_known : (e : ℕ) (es : List ℕ) → e < 192 → ((k : ℕ) → k < length es → get_or es k 0 < 192) → (k : ℕ) → k < length (e ∷ es) → get_or (e ∷ es) k 0 < 192
right_known e es h f zero l = h
right_known e es h f (suc k) l = f k (omega arith)

right_right : (e : ℕ) (es : List ℕ) (o : ℕ → Bool) → o (file_of e) ≡ not (opens e)
    → ((k : ℕ) → k < length es → open_after k es (after_event e o) (file_of (get_or es k 0)) ≡ not (opens (get_or es k 0)))
    → (k : ℕ) → k < length (e ∷ es) → open_after k (e ∷ es) o (file_of (get_or (e ∷ es) k 0)) ≡ not (opens (get_or (e ∷ es) k 0))
unfolding open_after
right_right e es o h f zero l = h
right_right e es o h f (suc k) l = f k (omega arith)

length_flags : (flags : List Bool) (e : ℕ) → length flags ≡ 64 → length (opened_after flags e) ≡ 64
unfolding opened_after
length_flags flags e long = length-set flags (file_of e) (opens e) ∙ long

good_right : (flags : List Bool) (n i : ℕ) (events : List ℕ) (o : ℕ → Bool) → length flags ≡ 64 → Flags flags o → n ≤ 64 → is_good (judge_from flags n i events) ≡ true → Right n events o
unfolding count_of
good_right flags n i [] o long l h g = record { few = omega arith; known = λ k x. absurd (not-suc-le-zero x); right = λ k x. absurd (not-suc-le-zero x) }
good_right flags n i (e ∷ es) o long l h g =
    let one = event_right flags n e o l (good_from flags n i e es g).0 in
    let fit : n + (used e + count_of opens es) ≤ 64 = openings_fit flags n i (e ∷ es) h g in
    let rest = good_right (opened_after flags e) (n + used e) (i + 1) es (after_event e o) (length_flags flags e long) (flags_after e flags o long l) (omega arith) (good_from flags n i e es g).1 in
    record { few = fit; known = right_known e es one.0 rest.known; right = right_right e es o one.1 rest.right }

right_good : (flags : List Bool) (n i : ℕ) (events : List ℕ) (o : ℕ → Bool) → length flags ≡ 64 → Flags flags o → Right n events o → is_good (judge_from flags n i events) ≡ true
unfolding judge_from count_of open_after
right_good flags n i [] o long l r = refl
right_good flags n i (e ∷ es) o long l r =
    let few : n + (used e + count_of opens es) ≤ 64 = r.few in
    let fine : wrong_event flags n e ≡ false = right_event flags n e o l (λ w. let more : n + (1 + count_of opens es) ≤ 64 = rw w at few in omega arith) (r.known 0 (omega arith)) (r.right 0 (omega arith)) in
    rw fine
    (right_good (opened_after flags e) (n + used e) (i + 1) es (after_event e o) (length_flags flags e long) (flags_after e flags o long l)
    (record { few = omega arith; known = λ k h. r.known (suc k) (omega arith); right = λ k h. r.right (suc k) (omega arith) }))

no_flags : Flags (replicate file_limit false) (λ f. false)
no_flags f h = get_or-replicate 64 f false false h

-- ---- "A list that closes a file not open, or opens an open one, is refused 1."

pub good_only : (limit : ℕ) (events : List ℕ) → is_good (judge_of limit events) ≡ true → GoodList limit events
unfolding judge_of
good_only limit events g =
    by_test (λ b. limit_fits limit ≡ b → is_good (cond b (judge_from (replicate file_limit false) 0 0 events) (Err Limit)) ≡ true → GoodList limit events) (limit_fits limit)
    (λ _ w z. let r = good_right (replicate file_limit false) 0 0 events (λ f. false) refl no_flags (omega arith) z in
    record {
      least = leb-true 1 limit (and_left (leb 1 limit) (leb limit 64) w);
      most = leb-true limit 64 (and_right (leb 1 limit) (leb limit 64) w);
      few = omega (arith, r.few);
      known = r.known;
      right = r.right;
    })
    (λ _ w z. true_not_false z refl) refl g

pub good_every : (limit : ℕ) (events : List ℕ) → GoodList limit events → is_good (judge_of limit events) ≡ true
unfolding judge_of
good_every limit events g =
    let w : limit_fits limit ≡ true = and_both (leb 1 limit) (leb limit 64) (le-leb 1 limit g.least) (le-leb limit 64 g.most) in
    rw w
    (right_good (replicate file_limit false) 0 0 events (λ f. false) refl no_flags
    (record { few = omega (arith, g.few); known = g.known; right = g.right }))
