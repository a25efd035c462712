-- Laws of tests: two that follow from one another are equal, and a test that asks two things of each element. Assumes nothing.
use mathlib.Core.Path.{◌≡◌, refl, sym, ap, ◌∙◌}
use mathlib.Core.Bool.{Bool, true, false, ◌&&◌, ◌||◌}
use mathlib.Core.List.{List, [], ◌∷◌}
use Prim.Native.Nat.{ℕ, zero, suc, ◌<◌}
use native.Mathlib.Nat.{le_of_suc-le-suc, not-suc-le-zero}
use native.Mathlib.Omega.{arith}
use lib.ListN.{length, get_or, set}
use Rattle.area.specs.Lists.{any_of, all_of, all_pairs}
use Rattle.area.proofs.Walks.{true_not_false, and_left, and_right, and_both, or_first, or_second, all_at, at_all}

-- two tests are equal if each follows from the other
pub each_way : (a b : Bool) → (a ≡ true → b ≡ true) → (b ≡ true → a ≡ true) → a ≡ b
each_way true b to from = sym (to refl)
each_way false true to from = from refl
each_way false false to from = refl

-- both of a conjunction
pub both : {a b : Bool} → (a && b) ≡ true → (a ≡ true) × (b ≡ true)
both {a} {b} e = (and_left a b e, and_right a b e)

all_and_step : (a b c d : Bool) → ((a && b) && (c && d)) ≡ ((a && c) && (b && d))
all_and_step true true c d = refl
all_and_step true false true d = refl
all_and_step true false false d = refl
all_and_step false b c d = refl

-- every element passes two tests exactly if every element passes each
pub all_and : {A : Type 0} (p q : A → Bool) (xs : List A) → all_of (λ x. p x && q x) xs ≡ (all_of p xs && all_of q xs)
unfolding all_of
all_and p q [] = refl
all_and p q (x ∷ xs) = ap (λ (b : Bool). (p x && q x) && b) (all_and p q xs) ∙ all_and_step (p x) (q x) (all_of p xs) (all_of q xs)

-- ---- what is found somewhere, by its index

-- an element that passes, and where it stands
pub record Somewhere {A : Type 0} (test : A → Bool) (xs : List A) (d : A) : Type 0 where
  pub place : ℕ
  pub within : place < length xs
  pub passes : test (get_or xs place d) ≡ true

module _ {A : Type 0} (test : A → Bool) (d : A) where
  pub any_at : (xs : List A) → any_of test xs ≡ true → Somewhere test xs d
  unfolding any_of
  any_at [] e = true_not_false e refl
  any_at (x ∷ xs) e = go (λ k. any_at xs k) (test x) refl e
    where
      later : Somewhere test xs d → Somewhere test (x ∷ xs) d
      later p = record { place = suc p.place; within = omega (arith, p.within); passes = p.passes }

      go : (any_of test xs ≡ true → Somewhere test xs d) → (b : Bool) → test x ≡ b → (b || any_of test xs) ≡ true → Somewhere test (x ∷ xs) d
      go rest true h k = record { place = 0; within = omega arith; passes = h }
      go rest false h k = later (rest k)

  pub at_any : (xs : List A) (i : ℕ) → i < length xs → test (get_or xs i d) ≡ true → any_of test xs ≡ true
  unfolding any_of
  at_any [] i h e = absurd (not-suc-le-zero h)
  at_any (x ∷ xs) zero h e = or_first (test x) _ e
  at_any (x ∷ xs) (suc i) h e = or_second (test x) _ (at_any xs i (le_of_suc-le-suc h) e)

-- ---- every two elements, by their indices

module _ {A : Type 0} (test : A → A → Bool) (d : A) where
  pub pairs_at : (xs : List A) → all_pairs test xs ≡ true → (i j : ℕ) → i < j → j < length xs → test (get_or xs i d) (get_or xs j d) ≡ true
  unfolding all_pairs
  pairs_at [] e i j l h = absurd (not-suc-le-zero h)
  pairs_at (x ∷ xs) e i zero l h = absurd (not-suc-le-zero l)
  pairs_at (x ∷ xs) e zero (suc j) l h = all_at (test x) d xs (and_left (all_of (test x) xs) _ e) j (le_of_suc-le-suc h)
  pairs_at (x ∷ xs) e (suc i) (suc j) l h = pairs_at xs (and_right (all_of (test x) xs) _ e) i j (le_of_suc-le-suc l) (le_of_suc-le-suc h)

  pub at_pairs : (xs : List A) → ((i j : ℕ) → i < j → j < length xs → test (get_or xs i d) (get_or xs j d) ≡ true) → all_pairs test xs ≡ true
  unfolding all_pairs
  at_pairs [] each = refl
  at_pairs (x ∷ xs) each =
      and_both (all_of (test x) xs) _ (at_all (test x) d xs (λ j h. each 0 (suc j) (omega arith) (omega arith)))
      (at_pairs xs (λ i j l h. each (suc i) (suc j) (omega arith) (omega arith)))

-- ---- some element of a list in which one is replaced

-- by one that passes if the other did
pub any_alike : {A : Type 0} (test : A → Bool) (d : A) (xs : List A) (i : ℕ) (y : A) → test y ≡ test (get_or xs i d) → any_of test (set xs i y) ≡ any_of test xs
unfolding any_of
any_alike test d [] i y e = refl
any_alike test d (x ∷ xs) zero y e = ap (λ (t : Bool). t || any_of test xs) e
any_alike test d (x ∷ xs) (suc i) y e = ap (λ (t : Bool). test x || t) (any_alike test d xs i y e)

-- by any: with the one that went, and with the one that came, they are the same
pub any_exchange : {A : Type 0} (test : A → Bool) (d : A) (xs : List A) (i : ℕ) (y : A) → i < length xs
    → (any_of test (set xs i y) || test (get_or xs i d)) ≡ (any_of test xs || test y)
unfolding any_of
any_exchange test d [] i y l = absurd (not-suc-le-zero l)
any_exchange test d (x ∷ xs) zero y l = swap (test y) (any_of test xs) (test x)
  where
    swap : (a b c : Bool) → ((a || b) || c) ≡ ((c || b) || a)
    swap true b true = refl
    swap true true false = refl
    swap true false false = refl
    swap false true true = refl
    swap false true false = refl
    swap false false true = refl
    swap false false false = refl
any_exchange test d (x ∷ xs) (suc i) y l = under (test x) _ _ _ _ (any_exchange test d xs i y (le_of_suc-le-suc l))
  where
    under : (a b c e f : Bool) → (b || c) ≡ (e || f) → ((a || b) || c) ≡ ((a || e) || f)
    under true b c e f q = refl
    under false b c e f q = q
