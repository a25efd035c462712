-- What holds of every element of a list, and of what stands past its end, holds at every number. Assumes nothing.
use mathlib.Core.Path.{◌≡◌, refl, ap, ◌∙◌}
use mathlib.Core.Logic.{◌≢◌}
use mathlib.Core.Bool.{Bool, true, false, cond}
use mathlib.Core.List.{List, [], ◌∷◌}
use Prim.Native.Nat.{ℕ, zero, suc, ◌+◌, ◌≤◌, ◌<◌}
use native.Mathlib.Nat.{le_of_suc-le-suc, not-suc-le-zero}
use native.Mathlib.Decide.{dec_lt}
use native.Mathlib.Omega.{arith}
use lib.ListN.{length, get_or, get_or-eq_default}
use Rattle.area.specs.Lists.{all_of, all_pairs, count_of}
use Rattle.area.specs.Numbered.{all_from}
use Rattle.area.proofs.Walks.{true_not_false, all_at}
use Rattle.area.proofs.Numbered.{from_at}
use Rattle.area.proofs.Bools.{pairs_at}

module _ {A : Type 0} (xs : List A) (d : A) where
  -- by whether a number is that of an element
  pub by_place : (P : A → Type 0) (i : ℕ) → (i < length xs → P (get_or xs i d)) → P d → P (get_or xs i d)
  by_place P i inside beyond = go (dec_lt i (length xs))
    where
      go : Dec (i < length xs) → P (get_or xs i d)
      go (yes l) = inside l
      go (no l) = rw (get_or-eq_default xs d {n = i} (omega (arith, l))) beyond

  pub all_places : (test : A → Bool) → test d ≡ true → all_of test xs ≡ true → (i : ℕ) → test (get_or xs i d) ≡ true
  all_places test e h i = by_place (λ x. test x ≡ true) i (all_at test d xs h i) e

  pub from_places : (test : ℕ → A → Bool) → ((i : ℕ) → test i d ≡ true) → all_from test 0 xs ≡ true → (i : ℕ) → test i (get_or xs i d) ≡ true
  from_places test e h i = by_place (λ x. test i x ≡ true) i (from_at test d xs h i) (e i)

  -- a place that passes a test which the end fails is inside
  pub place_inside : (test : A → Bool) → test d ≡ false → (i : ℕ) → test (get_or xs i d) ≡ true → i < length xs
  place_inside test e i h = go (dec_lt i (length xs))
    where
      go : Dec (i < length xs) → i < length xs
      go (yes l) = l
      go (no l) = true_not_false h (ap test (get_or-eq_default xs d {n = i} (omega (arith, l))) ∙ e)

  -- every two places, where the test does not mind the order
  pub pair_places : (test : A → A → Bool) → ((x : A) → test x d ≡ true) → ((x y : A) → test x y ≡ true → test y x ≡ true)
      → all_pairs test xs ≡ true → (i j : ℕ) → i ≢ j → test (get_or xs i d) (get_or xs j d) ≡ true
  pair_places test e swap h i j ne = go (dec_lt i j) (dec_lt j i)
    where
      up : (a b : ℕ) → a < b → test (get_or xs a d) (get_or xs b d) ≡ true
      up a b l = by_place (λ y. test (get_or xs a d) y ≡ true) b (λ k. pairs_at test d xs h a b l k) (e (get_or xs a d))

      go : Dec (i < j) → Dec (j < i) → test (get_or xs i d) (get_or xs j d) ≡ true
      go (yes l) k = up i j l
      go (no l) (yes k) = swap _ _ (up j i k)
      go (no l) (no k) = absurd (ne (omega (arith, l, k)))

-- ---- at most one element passes

module _ {A : Type 0} (test : A → Bool) (d : A) where
  pub count_some : (xs : List A) (i : ℕ) → i < length xs → test (get_or xs i d) ≡ true → 1 ≤ count_of test xs
  unfolding count_of
  count_some [] i h e = absurd (not-suc-le-zero h)
  count_some (x ∷ xs) zero h e = rw e (omega arith)
  count_some (x ∷ xs) (suc i) h e = omega (arith, count_some xs i (le_of_suc-le-suc h) e)

  -- a passing element of a list with one or more of them
  pub some_place : (xs : List A) → 1 ≤ count_of test xs → ((i : ℕ) → i < length xs → test (get_or xs i d) ≡ false) → ⊥
  unfolding count_of
  some_place [] h none = absurd (omega arith)
  some_place (x ∷ xs) h none =
      let first : ◌≡◌ {A = ℕ} (cond (test x) 1 0) 0 = ap (λ (t : Bool). cond t 1 0) (none 0 (omega arith)) in
      some_place xs (omega arith) (λ i l. none (suc i) (omega arith))

  pub count_one_place : (xs : List A) → count_of test xs ≤ 1 → (i j : ℕ) → i < length xs → j < length xs
      → test (get_or xs i d) ≡ true → test (get_or xs j d) ≡ true → i ≡ j
  unfolding count_of
  count_one_place [] h i j l k p q = absurd (not-suc-le-zero l)
  count_one_place (x ∷ xs) h zero zero l k p q = refl
  count_one_place (x ∷ xs) h zero (suc j) l k p q =
      let here : ◌≡◌ {A = ℕ} (cond (test x) 1 0) 1 = ap (λ (t : Bool). cond t 1 0) p in
      absurd (omega (arith, count_some xs j (le_of_suc-le-suc k) q))
  count_one_place (x ∷ xs) h (suc i) zero l k p q =
      let here : ◌≡◌ {A = ℕ} (cond (test x) 1 0) 1 = ap (λ (t : Bool). cond t 1 0) q in
      absurd (omega (arith, count_some xs i (le_of_suc-le-suc l) p))
  count_one_place (x ∷ xs) h (suc i) (suc j) l k p q =
      ap suc (count_one_place xs (omega arith) i j (le_of_suc-le-suc l) (le_of_suc-le-suc k) p q)

  pub one_place_count : (xs : List A) → ((i j : ℕ) → i < length xs → j < length xs → test (get_or xs i d) ≡ true → test (get_or xs j d) ≡ true → i ≡ j)
      → count_of test xs ≤ 1
  unfolding count_of
  one_place_count [] one = omega arith
  one_place_count (x ∷ xs) one = go (test x) refl (dec_lt 0 (count_of test xs)) (one_place_count xs (λ i j l k p q. let e = one (suc i) (suc j) (omega arith) (omega arith) p q in omega arith))
    where
      none : test x ≡ true → 0 < count_of test xs → ⊥
      none e l =
          some_place xs l (λ i k. fails i k (test (get_or xs i d)) refl)
        where
          fails : (i : ℕ) → i < length xs → (t : Bool) → test (get_or xs i d) ≡ t → t ≡ false
          fails i k true p = absurd (let z = one 0 (suc i) (omega arith) (omega arith) e p in omega arith)
          fails i k false p = refl

      go : (t : Bool) → test x ≡ t → Dec (0 < count_of test xs) → count_of test xs ≤ 1 → cond t 1 0 + count_of test xs ≤ 1
      go true e (yes l) h = absurd (none e l)
      go true e (no l) h = omega (arith, l)
      go false e k h = omega arith
