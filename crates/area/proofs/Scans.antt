-- Laws of a walk from number to number, `along`, and of a count of none or one. Assumes nothing.
use mathlib.Core.Path.{◌≡◌, refl, ap}
use mathlib.Core.Bool.{Bool, true, false, cond}
use mathlib.Core.List.{List, [], ◌∷◌}
use Prim.Native.Nat.{ℕ, zero, suc, ◌+◌, ◌≤◌, ◌<◌}
use native.Mathlib.Nat.{not-suc-le-zero, le_of_suc-le-suc}
use native.Mathlib.Omega.{arith}
use lib.ListN.{length, get_or}
use Rattle.area.specs.Lists.{count_of, along}
use Rattle.area.proofs.Walks.{by_test, true_not_false}

-- what holds of a number, and of the next of each that it holds of, holds all along
pub along_keeps : (P : ℕ → Type 0) (next : ℕ → ℕ) → ((u : ℕ) → P u → P (next u)) → (j u : ℕ) → P u → P (along next j u)
unfolding along
along_keeps P next step zero u h = h
along_keeps P next step (suc j) u h = along_keeps P next step j (next u) (step u h)

-- ---- what a count of none, or of one at most, means for each element

no_part : (b : Bool) (n : ℕ) → cond b 1 0 + n ≡ 0 → (b ≡ false) × (n ≡ 0)
no_part true n e = absurd (omega arith)
no_part false n e = (refl, omega arith)

module _ {A : Type 0} (test : A → Bool) (d : A) where
  pub count_none_at : (xs : List A) → count_of test xs ≡ 0 → (i : ℕ) → i < length xs → test (get_or xs i d) ≡ false
  unfolding count_of
  count_none_at [] e i h = absurd (not-suc-le-zero h)
  count_none_at (x ∷ xs) e zero h = (no_part (test x) (count_of test xs) e).0
  count_none_at (x ∷ xs) e (suc i) h = count_none_at xs (no_part (test x) (count_of test xs) e).1 i (le_of_suc-le-suc h)

  pub at_count_none : (xs : List A) → ((i : ℕ) → i < length xs → test (get_or xs i d) ≡ false) → count_of test xs ≡ 0
  unfolding count_of
  at_count_none [] each = refl
  at_count_none (x ∷ xs) each = rw (each 0 (omega arith)) (omega (arith, at_count_none xs (λ i h. each (suc i) (omega arith))))

  -- the first passes, so no other does
  others_fail : (x : A) (xs : List A) → test x ≡ true → cond (test x) 1 0 + count_of test xs ≤ 1 → count_of test xs ≡ 0
  others_fail x xs e h = let k : 1 + count_of test xs ≤ 1 = rw e at h in omega arith

  fewer : (b : Bool) (n : ℕ) → cond b 1 0 + n ≤ 1 → n ≤ 1
  fewer true n h = omega arith
  fewer false n h = omega arith

  pub count_one_at : (xs : List A) → count_of test xs ≤ 1 → (i j : ℕ) → i < length xs → j < length xs
      → test (get_or xs i d) ≡ true → test (get_or xs j d) ≡ true → i ≡ j
  unfolding count_of
  count_one_at [] e i j h k p q = absurd (not-suc-le-zero h)
  count_one_at (x ∷ xs) e zero zero h k p q = refl
  count_one_at (x ∷ xs) e zero (suc j) h k p q = true_not_false q (count_none_at xs (others_fail x xs p e) j (le_of_suc-le-suc k))
  count_one_at (x ∷ xs) e (suc i) zero h k p q = true_not_false p (count_none_at xs (others_fail x xs q e) i (le_of_suc-le-suc h))
  count_one_at (x ∷ xs) e (suc i) (suc j) h k p q =
      ap suc (count_one_at xs (fewer (test x) (count_of test xs) e) i j (le_of_suc-le-suc h) (le_of_suc-le-suc k) p q)

  pub at_count_one : (xs : List A) → ((i j : ℕ) → i < length xs → j < length xs → test (get_or xs i d) ≡ true → test (get_or xs j d) ≡ true → i ≡ j)
      → count_of test xs ≤ 1
  unfolding count_of
  at_count_one [] each = omega arith
  at_count_one (x ∷ xs) each =
      go (test x) refl (at_count_one xs (λ i j h k p q. let z = each (suc i) (suc j) (omega arith) (omega arith) p q in omega arith))
    where
      rest : test x ≡ true → (i : ℕ) → i < length xs → test (get_or xs i d) ≡ false
      rest e i h =
          by_test (λ b. b ≡ false) (test (get_or xs i d))
          (λ t. absurd (let z = each 0 (suc i) (omega arith) (omega arith) e t in omega arith))
          (λ t. refl)

      go : (b : Bool) → test x ≡ b → count_of test xs ≤ 1 → cond b 1 0 + count_of test xs ≤ 1
      go true e later = omega (arith, at_count_none xs (rest e))
      go false e later = omega arith
