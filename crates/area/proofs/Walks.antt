-- Laws of `any_of`, `all_of`, `all_pairs` and `count_of`: what one turn of a loop does, and what the answer means for each element.
-- A loop keeps that what is left of the list gives the answer of the whole. Assumes nothing.
use mathlib.Core.Path.{◌≡◌, refl, sym, ap, ◌∙◌}
use mathlib.Core.Bool.{Bool, true, false, cond, ◌&&◌, ◌||◌, and_assoc}
use mathlib.Core.List.{List, [], ◌∷◌, ◌++◌}
use Prim.Native.Nat.{ℕ, zero, suc, ◌+◌, ◌≤◌, ◌<◌}
use native.Mathlib.Nat.{le_of_suc-le-suc, not-suc-le-zero}
use native.Mathlib.Numerals.{add-one}
use native.Mathlib.Omega.{arith}
use lib.ListN.{length, get_or, drop, drop_of_length-le}
use lib.Seq.{drop-cons}
use Rattle.area.specs.Lists.{any_of, all_of, all_pairs, count_of}

-- ---- Bool

pub by_test : (P : Bool → Type 0) (b : Bool) → (b ≡ true → P true) → (b ≡ false → P false) → P b
by_test P true t f = t refl
by_test P false t f = f refl

pub true_not_false : {A : Type 0} {b : Bool} → b ≡ true → b ≡ false → A
true_not_false p q = absurd (let z : ◌≡◌ {A = ℕ} 0 1 = cc in omega arith)

pub and_left : (a b : Bool) → (a && b) ≡ true → a ≡ true
and_left true b e = refl
and_left false b e = e

pub and_right : (a b : Bool) → (a && b) ≡ true → b ≡ true
and_right true b e = e
and_right false b e = true_not_false e refl

pub and_both : (a b : Bool) → a ≡ true → b ≡ true → (a && b) ≡ true
and_both a b p q = rw (p, q)

pub or_either : {A : Type 0} (a b : Bool) → (a || b) ≡ true → (a ≡ true → A) → (b ≡ true → A) → A
or_either true b e f g = f refl
or_either false b e f g = g e

pub or_left : (a b : Bool) → (a || b) ≡ false → a ≡ false
or_left true b e = e
or_left false b e = refl

pub or_right : (a b : Bool) → (a || b) ≡ false → b ≡ false
or_right true b e = true_not_false refl e
or_right false b e = e

pub or_first : (a b : Bool) → a ≡ true → (a || b) ≡ true
or_first a b e = rw e

pub or_second : (a b : Bool) → b ≡ true → (a || b) ≡ true
or_second true b e = refl
or_second false b e = e

pub or_neither : (a b : Bool) → a ≡ false → b ≡ false → (a || b) ≡ false
or_neither a b p q = rw (p, q)

-- ---- one turn of a loop at index i, and its end; d is what stands past the end

module _ {A : Type 0} (test : A → Bool) (xs : List A) (d : A) where
  pub any_step : (i : ℕ) → i < length xs → any_of test (drop i xs) ≡ (test (get_or xs i d) || any_of test (drop (i + 1) xs))
  unfolding any_of
  any_step i h = rw (add-one, drop-cons xs i d)

  pub all_step : (i : ℕ) → i < length xs → all_of test (drop i xs) ≡ (test (get_or xs i d) && all_of test (drop (i + 1) xs))
  unfolding all_of
  all_step i h = rw (add-one, drop-cons xs i d)

  pub count_step : (i : ℕ) → i < length xs → count_of test (drop i xs) ≡ cond (test (get_or xs i d)) 1 0 + count_of test (drop (i + 1) xs)
  unfolding count_of
  count_step i h = rw (add-one, drop-cons xs i d)

module _ {A : Type 0} (test : A → Bool) where
  pub any_end : (xs : List A) (i : ℕ) → length xs ≤ i → any_of test (drop i xs) ≡ false
  unfolding any_of
  any_end xs i h = rw (drop_of_length-le xs)

  pub all_end : (xs : List A) (i : ℕ) → length xs ≤ i → all_of test (drop i xs) ≡ true
  unfolding all_of
  all_end xs i h = rw (drop_of_length-le xs)

  pub count_end : (xs : List A) (i : ℕ) → length xs ≤ i → count_of test (drop i xs) ≡ 0
  unfolding count_of
  count_end xs i h = rw (drop_of_length-le xs)

-- ---- a walk: the answer e₀ of the whole is that of what is left from index i on

module _ {A : Type 0} (test : A → Bool) (xs : List A) (d : A) (i : ℕ) (e₀ : Bool) where
  pub any_hit : i < length xs → e₀ ≡ any_of test (drop i xs) → test (get_or xs i d) ≡ true → true ≡ e₀
  any_hit h inv e = sym (inv ∙ any_step test xs d i h ∙ rw e)

  pub any_miss : i < length xs → e₀ ≡ any_of test (drop i xs) → test (get_or xs i d) ≡ false → e₀ ≡ any_of test (drop (i + 1) xs)
  any_miss h inv e = inv ∙ any_step test xs d i h ∙ rw e

  pub any_done : length xs ≤ i → e₀ ≡ any_of test (drop i xs) → false ≡ e₀
  any_done h inv = sym (inv ∙ any_end test xs i h)

  pub all_hit : i < length xs → e₀ ≡ all_of test (drop i xs) → test (get_or xs i d) ≡ false → false ≡ e₀
  all_hit h inv e = sym (inv ∙ all_step test xs d i h ∙ rw e)

  pub all_miss : i < length xs → e₀ ≡ all_of test (drop i xs) → test (get_or xs i d) ≡ true → e₀ ≡ all_of test (drop (i + 1) xs)
  all_miss h inv e = inv ∙ all_step test xs d i h ∙ rw e

  pub all_done : length xs ≤ i → e₀ ≡ all_of test (drop i xs) → true ≡ e₀
  all_done h inv = sym (inv ∙ all_end test xs i h)

module _ {A : Type 0} (test : A → A → Bool) (xs : List A) (d : A) (i : ℕ) (e₀ : Bool) where
  pairs_step : i < length xs → all_pairs test (drop i xs) ≡ (all_of (test (get_or xs i d)) (drop (i + 1) xs) && all_pairs test (drop (i + 1) xs))
  unfolding all_pairs
  pairs_step h = rw (add-one, drop-cons xs i d)

  pairs_end : length xs ≤ i → all_pairs test (drop i xs) ≡ true
  unfolding all_pairs
  pairs_end h = rw (drop_of_length-le xs)

  pub pairs_hit : i < length xs → e₀ ≡ all_pairs test (drop i xs) → all_of (test (get_or xs i d)) (drop (i + 1) xs) ≡ false → false ≡ e₀
  pairs_hit h inv e = sym (inv ∙ pairs_step h ∙ rw e)

  pub pairs_miss : i < length xs → e₀ ≡ all_pairs test (drop i xs) → all_of (test (get_or xs i d)) (drop (i + 1) xs) ≡ true → e₀ ≡ all_pairs test (drop (i + 1) xs)
  pairs_miss h inv e = inv ∙ pairs_step h ∙ rw e

  pub pairs_done : length xs ≤ i → e₀ ≡ all_pairs test (drop i xs) → true ≡ e₀
  pairs_done h inv = sym (inv ∙ pairs_end h)

-- a count: n passed so far, and what is left has the rest
module _ {A : Type 0} (test : A → Bool) (xs : List A) (d : A) (i n e₀ : ℕ) where
  pub count_hit : i < length xs → n + count_of test (drop i xs) ≡ e₀ → test (get_or xs i d) ≡ true → n + 1 + count_of test (drop (i + 1) xs) ≡ e₀
  count_hit h inv e =
      let f : count_of test (drop i xs) ≡ 1 + count_of test (drop (i + 1) xs) = count_step test xs d i h ∙ rw e in
      omega arith

  pub count_miss : i < length xs → n + count_of test (drop i xs) ≡ e₀ → test (get_or xs i d) ≡ false → n + count_of test (drop (i + 1) xs) ≡ e₀
  count_miss h inv e =
      let f : count_of test (drop i xs) ≡ 0 + count_of test (drop (i + 1) xs) = count_step test xs d i h ∙ rw e in
      omega arith

  pub count_done : length xs ≤ i → n + count_of test (drop i xs) ≡ e₀ → n ≡ e₀
  count_done h inv = omega (arith, count_end test xs i h)

-- ---- what the answer means: every element passes exactly if the walk says so

module _ {A : Type 0} (test : A → Bool) (d : A) where
  pub all_at : (xs : List A) → all_of test xs ≡ true → (i : ℕ) → i < length xs → test (get_or xs i d) ≡ true
  unfolding all_of
  all_at [] e i h = absurd (not-suc-le-zero h)
  all_at (x ∷ xs) e zero h = and_left _ _ e
  all_at (x ∷ xs) e (suc i) h = all_at xs (and_right (test x) _ e) i (le_of_suc-le-suc h)

  pub at_all : (xs : List A) → ((i : ℕ) → i < length xs → test (get_or xs i d) ≡ true) → all_of test xs ≡ true
  unfolding all_of
  at_all [] each = refl
  at_all (x ∷ xs) each = and_both (test x) _ (each 0 (omega arith)) (at_all xs (λ i h. each (suc i) (omega arith)))

  pub none_at : (xs : List A) → any_of test xs ≡ false → (i : ℕ) → i < length xs → test (get_or xs i d) ≡ false
  unfolding any_of
  none_at [] e i h = absurd (not-suc-le-zero h)
  none_at (x ∷ xs) e zero h = or_left _ _ e
  none_at (x ∷ xs) e (suc i) h = none_at xs (or_right (test x) _ e) i (le_of_suc-le-suc h)

-- ---- of a list in two parts

module _ {A : Type 0} (test : A → Bool) where
  pub all_append : (xs ys : List A) → all_of test (xs ++ ys) ≡ (all_of test xs && all_of test ys)
  unfolding all_of
  all_append [] ys = refl
  all_append (x ∷ xs) ys = ap (λ (b : Bool). test x && b) (all_append xs ys) ∙ sym (and_assoc (test x) (all_of test xs) (all_of test ys))

  pub count_append : (xs ys : List A) → count_of test (xs ++ ys) ≡ count_of test xs + count_of test ys
  unfolding count_of
  count_append [] ys = omega arith
  count_append (x ∷ xs) ys = omega (arith, count_append xs ys)
