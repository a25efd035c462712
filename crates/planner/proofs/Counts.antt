-- How many owners pass a test, as buffers are taken and released; and the lowest free buffer. Assumes nothing.
use mathlib.Core.Path.{◌≡◌, refl, ap}
use mathlib.Core.Bool.{Bool, true, false, not, cond}
use mathlib.Core.List.{List, [], ◌∷◌}
use Prim.Native.Nat.{ℕ, zero, suc, ◌+◌, ◌≤◌, ◌<◌}
use native.Mathlib.Nat.{le_of_suc-le-suc, not-suc-le-zero}
use native.Mathlib.Omega.{arith}
use borrow.Author.Tests.{eqb-true, eq-eqb}
use lib.Dec.{eqb}
use lib.ListN.{length, get_or, set}
use Rattle.area.specs.Lists.{count_of}
use Rattle.area.proofs.Walks.{by_test}
use Rattle.planner.specs.Walk.{released}
use Rattle.planner.specs.Greedy.{first_free}

-- a buffer that serves some file
abbrev pub busy : ℕ → Bool
busy x = not (eqb x 0)

-- one owner replaced: what it was is counted no more, what it is now is
pub count_set : (p : ℕ → Bool) (q : List ℕ) (b v : ℕ) → b < length q → count_of p (set q b v) + cond (p (get_or q b 0)) 1 0 ≡ count_of p q + cond (p v) 1 0
unfolding count_of
count_set p [] b v h = absurd (not-suc-le-zero h)
count_set p (x ∷ xs) zero v h = omega arith
count_set p (x ∷ xs) (suc b) v h = let rest = count_set p xs b v (le_of_suc-le-suc h) in omega arith

-- the buffers of v released: each is counted as 0 and no more as v
none : (a c : Bool) → ◌≡◌ {A = ℕ} (0 + cond a 0 0) (0 + cond c 0 0)
none true true = refl
none true false = refl
none false true = refl
none false false = refl

one_more_lem : (a : Bool) (n : ℕ) → cond a (1 + n) 0 ≡ cond a 1 0 + cond a n 0
one_more_lem true n = refl
one_more_lem false n = refl

pub count_released : (p : ℕ → Bool) (v : ℕ) (q : List ℕ)
    → count_of p (released v q) + cond (p v) (count_of (λ x. eqb x v) q) 0 ≡ count_of p q + cond (p 0) (count_of (λ x. eqb x v) q) 0
unfolding count_of released
count_released p v [] = none (p v) (p 0)
count_released p v (x ∷ xs) =
    let rest = count_released p v xs in
    let n = count_of (λ x. eqb x v) xs in
    by_test
    (λ t. eqb x v ≡ t
    → cond (p (cond t 0 x)) 1 0 + count_of p (released v xs) + cond (p v) (cond t 1 0 + n) 0
    ≡ cond (p x) 1 0 + count_of p xs + cond (p 0) (cond t 1 0 + n) 0)
    (eqb x v)
    (λ _ w. let same : cond (p x) 1 0 ≡ cond (p v) 1 0 = ap (λ (y : ℕ). cond {A = ℕ} (p y) 1 0) (eqb-true x v w) in
    omega (arith, one_more_lem (p v) n, one_more_lem (p 0) n))
    (λ _ w. let l : cond (p v) (0 + n) 0 ≡ cond (p v) n 0 = ap (λ (y : ℕ). cond (p v) y 0) (omega arith) in
    let r : cond (p 0) (0 + n) 0 ≡ cond (p 0) n 0 = ap (λ (y : ℕ). cond (p 0) y 0) (omega arith) in
    omega arith) refl

-- the lowest free buffer: those below it are busy, and it is free
pub free_busy : (o : List ℕ) → first_free o ≤ count_of busy o
unfolding first_free count_of
free_busy [] = omega arith
free_busy (x ∷ xs) =
    by_test (λ t. cond t 0 (suc (first_free xs)) ≤ cond (not t) 1 0 + count_of busy xs) (eqb x 0)
    (λ _. omega arith)
    (λ _. omega (arith, free_busy xs))

pub free_long : (o : List ℕ) → first_free o ≤ length o
unfolding first_free
free_long [] = omega arith
free_long (x ∷ xs) =
    by_test (λ t. cond t 0 (suc (first_free xs)) ≤ suc (length xs)) (eqb x 0)
    (λ _. omega arith)
    (λ _. omega (arith, free_long xs))

pub free_is : (o : List ℕ) → first_free o < length o → get_or o (first_free o) 0 ≡ 0
unfolding first_free
free_is [] = λ h. refl
free_is (x ∷ xs) =
    by_test (λ t. eqb x 0 ≡ t → cond t 0 (suc (first_free xs)) < suc (length xs) → get_or (x ∷ xs) (cond t 0 (suc (first_free xs))) 0 ≡ 0) (eqb x 0)
    (λ _ w h. eqb-true x 0 w)
    (λ _ w h. free_is xs (omega arith)) refl

-- buffers that are busy only below s are at most s
pub busy_below : (s : ℕ) (q : List ℕ) → ((b : ℕ) → s ≤ b → get_or q b 0 ≡ 0) → count_of busy q ≤ s
unfolding count_of
busy_below s [] h = omega arith
busy_below zero (x ∷ xs) h =
    let free : eqb x 0 ≡ true = eq-eqb x 0 (h 0 (omega arith)) in
    rw free (omega (arith, busy_below 0 xs (λ b l. h (suc b) (omega arith))))
busy_below (suc s) (x ∷ xs) h =
    let rest = busy_below s xs (λ b l. h (suc b) (omega arith)) in
    by_test (λ t. cond (not t) 1 0 + count_of busy xs ≤ suc s) (eqb x 0) (λ _. omega arith) (λ _. omega arith)
