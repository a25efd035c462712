-- Laws of `all_from`: one turn of a loop, and what the answer means for each element with its number. Assumes nothing.
use mathlib.Core.Path.{◌≡◌, refl, sym, ap, ◌∙◌}
use mathlib.Core.Bool.{Bool, true, false, ◌&&◌}
use mathlib.Core.List.{List, [], ◌∷◌}
use Prim.Native.Nat.{ℕ, zero, suc, ◌+◌, ◌≤◌, ◌<◌}
use native.Mathlib.Nat.{le_of_suc-le-suc, not-suc-le-zero}
use native.Mathlib.Numerals.{add-one}
use native.Mathlib.Omega.{arith}
use lib.ListN.{length, get_or, drop, drop_of_length-le}
use lib.Seq.{drop-cons}
use Rattle.area.specs.Numbered.{all_from}
use Rattle.area.proofs.Walks.{and_left, and_right, and_both}

-- the answer e₀ of the whole is that of what is left from index i on
module _ {A : Type 0} (test : ℕ → A → Bool) (xs : List A) (d : A) (i : ℕ) (e₀ : Bool) where
  from_step : i < length xs → all_from test i (drop i xs) ≡ (test i (get_or xs i d) && all_from test (i + 1) (drop (i + 1) xs))
  unfolding all_from
  from_step h = rw (add-one, drop-cons xs i d)

  pub from_hit : i < length xs → e₀ ≡ all_from test i (drop i xs) → test i (get_or xs i d) ≡ false → false ≡ e₀
  from_hit h inv e = sym (inv ∙ from_step h ∙ rw e)

  pub from_miss : i < length xs → e₀ ≡ all_from test i (drop i xs) → test i (get_or xs i d) ≡ true → e₀ ≡ all_from test (i + 1) (drop (i + 1) xs)
  from_miss h inv e = inv ∙ from_step h ∙ rw e

  pub from_done : length xs ≤ i → e₀ ≡ all_from test i (drop i xs) → true ≡ e₀
  unfolding all_from
  from_done h inv = sym (inv ∙ rw (drop_of_length-le xs))

-- every element passes with its number exactly if the walk says so
module _ {A : Type 0} (test : ℕ → A → Bool) (d : A) where
  from_index : (k : ℕ) (xs : List A) → all_from test k xs ≡ true → (i : ℕ) → i < length xs → test (k + i) (get_or xs i d) ≡ true
  unfolding all_from
  from_index k [] e i h = absurd (not-suc-le-zero h)
  from_index k (x ∷ xs) e zero h =
      let p : k + 0 ≡ k = omega arith in
      ap (λ (n : ℕ). test n x) p ∙ and_left (test k x) _ e
  from_index k (x ∷ xs) e (suc i) h =
      let p : k + suc i ≡ suc k + i = omega arith in
      ap (λ (n : ℕ). test n (get_or xs i d)) p ∙ from_index (suc k) xs (and_right (test k x) _ e) i (le_of_suc-le-suc h)

  index_from : (k : ℕ) (xs : List A) → ((i : ℕ) → i < length xs → test (k + i) (get_or xs i d) ≡ true) → all_from test k xs ≡ true
  unfolding all_from
  index_from k [] each = refl
  index_from k (x ∷ xs) each =
      let p : k ≡ k + 0 = omega arith in
      and_both (test k x) _ (ap (λ (n : ℕ). test n x) p ∙ each 0 (omega arith))
      (index_from (suc k) xs (λ i h.
      let q : suc k + i ≡ k + suc i = omega arith in
      ap (λ (n : ℕ). test n (get_or xs i d)) q ∙ each (suc i) (omega arith)))

  pub from_at : (xs : List A) → all_from test 0 xs ≡ true → (i : ℕ) → i < length xs → test i (get_or xs i d) ≡ true
  from_at xs e i h =
      let p : i ≡ 0 + i = omega arith in
      ap (λ (n : ℕ). test n (get_or xs i d)) p ∙ from_index 0 xs e i h

  pub at_from : (xs : List A) → ((i : ℕ) → i < length xs → test i (get_or xs i d) ≡ true) → all_from test 0 xs ≡ true
  at_from xs each =
      index_from 0 xs (λ i h.
      let p : 0 + i ≡ i = omega arith in
      ap (λ (n : ℕ). test n (get_or xs i d)) p ∙ each i h)
