-- Laws of `gap`, `digits` and `value_from`: one turn of a loop at place i of a text, and its end. Assumes nothing.
use mathlib.Core.Path.{◌≡◌, refl, ap, ap₂, ◌∙◌}
use mathlib.Core.Bool.{true, false}
use mathlib.Core.List.{List}
use Prim.Native.Nat.{ℕ, ◌+◌, ◌≤◌, ◌<◌, min}
use native.Mathlib.Numerals.{add-one}
use native.Mathlib.Decide.{dec_lt}
use native.Mathlib.Omega.{arith}
use lib.ListN.{length, get_or, drop, drop_of_length-le}
use lib.Seq.{drop-cons}
use Rattle.area.proofs.Walks.{by_test}
use Rattle.numbers.specs.Decimal.{is_digit, tenfold, gap, digits, value_from, next_of}

module _ (text : List ℕ) (i : ℕ) (h : i < length text) where
  pub gap_stop : is_digit (get_or text i 0) ≡ true → gap (drop i text) ≡ 0
  unfolding gap
  gap_stop e = rw (drop-cons text i 0 h, e)

  pub gap_go : is_digit (get_or text i 0) ≡ false → gap (drop i text) ≡ 1 + gap (drop (i + 1) text)
  unfolding gap
  gap_go e = rw (add-one, drop-cons text i 0 h, e)

  pub digits_stop : is_digit (get_or text i 0) ≡ false → digits (drop i text) ≡ 0
  unfolding digits
  digits_stop e = rw (drop-cons text i 0 h, e)

  pub digits_go : is_digit (get_or text i 0) ≡ true → digits (drop i text) ≡ 1 + digits (drop (i + 1) text)
  unfolding digits
  digits_go e = rw (add-one, drop-cons text i 0 h, e)

  pub value_stop : (v : ℕ) → is_digit (get_or text i 0) ≡ false → value_from v (drop i text) ≡ v
  unfolding value_from
  value_stop v e = rw (drop-cons text i 0 h, e)

  pub value_go : (v : ℕ) → is_digit (get_or text i 0) ≡ true → value_from v (drop i text) ≡ value_from (tenfold v (get_or text i 0)) (drop (i + 1) text)
  unfolding value_from
  value_go v e = rw (add-one, drop-cons text i 0 h, e)

module _ (text : List ℕ) (i : ℕ) (h : length text ≤ i) where
  pub gap_end : gap (drop i text) ≡ 0
  unfolding gap
  gap_end = rw (drop_of_length-le text h)

  pub digits_end : digits (drop i text) ≡ 0
  unfolding digits
  digits_end = rw (drop_of_length-le text h)

  pub value_end : (v : ℕ) → value_from v (drop i text) ≡ v
  unfolding value_from
  value_end v = rw (drop_of_length-le text h)

-- reading moves on: there is a gap, or else a digit
pub next_moves : (text : List ℕ) (at : ℕ) → at < length text → at < at + gap (drop at text) + digits (drop (at + gap (drop at text)) text)
next_moves text at h =
    by_test (λ b. is_digit (get_or text at 0) ≡ b → at < at + gap (drop at text) + digits (drop (at + gap (drop at text)) text)) (is_digit (get_or text at 0))
    (λ t e.
    let z : at + gap (drop at text) ≡ at = omega (arith, gap_stop text at h e) in
    let d : digits (drop (at + gap (drop at text)) text) ≡ digits (drop at text) = ap (λ (i : ℕ). digits (drop i text)) z in
    omega (arith, digits_go text at h e))
    (λ f e. omega (arith, gap_go text at h e)) refl

-- what was read from the first digit, at place s, on
module _ (text : List ℕ) (at s v i : ℕ) (hs : s ≡ at + gap (drop at text)) (hi : i ≡ s + digits (drop s text)) where
  pub next_read : v ≡ value_from 0 (drop s text) → record { value = v; at = i } ≡ next_of text at
  unfolding next_of
  next_read hv =
      ap₂ (λ (x y : ℕ). record { value = x; at = y }) hv hi
      ∙ ap (λ (k : ℕ). record { value = value_from 0 (drop k text); at = k + digits (drop k text) }) hs

  pub next_later : min (at + 1) (length text) ≤ i
  next_later = within (dec_lt at (length text))
    where
      all : i ≡ at + gap (drop at text) + digits (drop (at + gap (drop at text)) text)
      all = hi ∙ ap (λ (k : ℕ). k + digits (drop k text)) hs

      within : Dec (at < length text) → min (at + 1) (length text) ≤ i
      within (yes h) = omega (arith, all, next_moves text at h)
      within (no h) = omega (arith, all, h)
