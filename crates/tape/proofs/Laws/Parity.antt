-- Parity as it is written: with it the count of ones in the low seven bits is odd, or even for BCD. Assumes nothing.
use mathlib.Core.Path.{◌≡◌, ap₂, ◌∙◌}
use mathlib.Core.Bool.{true, false}
use Prim.Native.Nat.{ℕ, ◌+◌, ◌*◌, ◌/◌, ◌%◌, ◌<◌}
use native.Mathlib.Omega.{arith}
use Rattle.tape.specs.Characters.{character, ones, parity_of, with_parity}

-- the ones in the low seven bits of a byte below 128
abbrev pub ones7 : ℕ → ℕ
ones7 b = ones (character b) + b / 64

-- a character and its parity, taken out of their byte
apart : (c p : ℕ) → c < 64 → p < 2 → ((c + 64 * p) % 64 ≡ c) × ((c + 64 * p) / 64 ≡ p) × (c + 64 * p < 128)
apart c p h k = (omega arith, omega arith, omega arith)

odd_with : (n : ℕ) → (n + (n + 1) % 2) % 2 ≡ 1
odd_with n = omega arith

even_with : (n : ℕ) → (n + n % 2) % 2 ≡ 0
even_with n = omega arith

below_two : (n : ℕ) → n % 2 < 2
below_two n = omega arith

module _ (c : ℕ) (h : c < 64) where
  pub parity_odd : (ones7 (with_parity false c) % 2 ≡ 1) × (with_parity false c < 128)
  unfolding parity_of
  parity_odd =
      let a = apart c ((ones c + 1) % 2) h (below_two (ones c + 1)) in
      (ap₂ (λ (x y : ℕ). (ones x + y) % 2) a.0 a.1 ∙ odd_with (ones c), a.2)

  pub parity_even : (ones7 (with_parity true c) % 2 ≡ 0) × (with_parity true c < 128)
  unfolding parity_of
  parity_even =
      let a = apart c (ones c % 2) h (below_two (ones c)) in
      (ap₂ (λ (x y : ℕ). (ones x + y) % 2) a.0 a.1 ∙ even_with (ones c), a.2)
