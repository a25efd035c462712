-- Laws of a digit and its value. Assumes nothing.
use mathlib.Core.Path.{◌≡◌, refl}
use mathlib.Core.Bool.{true, false}
use Prim.Native.Nat.{ℕ, ◌+◌, ◌-◌, ◌≤◌, ◌<◌}
use native.Mathlib.Omega.{arith}
use borrow.Author.Tests.{lt-ltb, le-ltb, leb-true}
use lib.Dec.{leb}
use Rattle.area.proofs.Walks.{by_test, and_left, and_right}
use Rattle.session_frame.specs.Digits.{is_decimal, is_letter, value_of, digit_of}

-- ---- the cases of a value

pub value_decimal : (c : ℕ) → is_decimal c ≡ true → value_of c ≡ c - 48
unfolding value_of
value_decimal c d = rw d

pub value_letter : (c : ℕ) → is_decimal c ≡ false → is_letter c ≡ true → value_of c ≡ c - 55
unfolding value_of
value_letter c d l = rw (d, l)

pub value_other : (c : ℕ) → is_decimal c ≡ false → is_letter c ≡ false → value_of c ≡ 0
unfolding value_of
value_other c d l = rw (d, l)

pub decimal_range : (c : ℕ) → is_decimal c ≡ true → (48 ≤ c) × (c ≤ 57)
decimal_range c e = (leb-true 48 c (and_left _ _ e), leb-true c 57 (and_right (leb 48 c) _ e))

pub letter_range : (c : ℕ) → is_letter c ≡ true → (65 ≤ c) × (c ≤ 70)
letter_range c e = (leb-true 65 c (and_left _ _ e), leb-true c 70 (and_right (leb 65 c) _ e))

pub value_small : (c : ℕ) → value_of c < 16
value_small c =
    by_test (λ t. is_decimal c ≡ t → value_of c < 16) (is_decimal c) (λ t e. omega (arith, value_decimal c e, decimal_range c e))
    (λ t e. by_test (λ u. is_letter c ≡ u → value_of c < 16) (is_letter c) (λ u l. omega (arith, value_letter c e l, letter_range c l))
    (λ u l. omega (arith, value_other c e l)) refl) refl

-- ---- the digit of a number

pub digit_decimal : (n : ℕ) → n < 10 → digit_of n ≡ n + 48
unfolding digit_of
digit_decimal n h = rw (lt-ltb n 10 h)

pub digit_letter : (n : ℕ) → 10 ≤ n → digit_of n ≡ n + 55
unfolding digit_of
digit_letter n h = rw (le-ltb n 10 h)
