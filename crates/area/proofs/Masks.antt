-- Laws of masks, over any width: a mask is known by its bits; and, or and not of words are those of the bits; the trailing zeros are the lowest
-- number of the set, and the ones are how many it has. Assumes nothing.
use mathlib.Core.Path.{◌≡◌, refl, sym, ap, ap₂, subst, ◌∙◌}
use mathlib.Core.Bool.{Bool, true, false, not, cond, ◌&&◌, ◌||◌}
use Prim.Native.Nat.{ℕ, zero, suc, ◌+◌, ◌-◌, ◌*◌, ◌/◌, ◌%◌, ◌^◌, ◌≤◌, ◌<◌}
use native.Mathlib.Nat.{mod-lt, div-add-mod', pow-suc, zero-lt-suc}
use native.Mathlib.Omega.{arith}
use lib.Dec.{eqb, ltb, eqb-zero-suc, eqb-suc-zero, eqb-suc-suc, leb-suc-zero, leb-suc-suc}
use lib.Arith.{digits_lt, digits_div, digits_mod, dbl_pred, lt-one}
use lib.Pow.{shr-shr, shr_lt, pow-lt, pow_mono}
use lib.Bits.{bit_and, bit_or, and_le_l, and_shr, and_mod, or_lt, or_shr, or_mod}
use lib.Count.{ones, ones_step, count_trailing_zeros, under}
use borrow.Author.Tests.{eq-eqb, ne_eqb, lt-ltb}
use Rattle.area.specs.Lists.{one_if, first_along, count_along}
use Rattle.area.specs.Masks.{bit_at, mask_along, mask_of}
use Rattle.std.specs.declared.option.Option.TheVariants.{Some}
use Rattle.std.specs.Option.{unwrap_or}

-- ---- one bit

two_pos : 0 < 2
two_pos = omega arith

one_lt : (b : Bool) → one_if b < 2
one_lt true = omega arith
one_lt false = omega arith

one_set : (b : Bool) → eqb (one_if b) 1 ≡ b
one_set true = refl
one_set false = refl

-- a digit is one if it is set
digit_one : (d : ℕ) → d < 2 → one_if (eqb d 1) ≡ d
digit_one zero h = refl
digit_one (suc zero) h = refl
digit_one (suc (suc d)) h = absurd (omega arith)

lowest_bit : (x : ℕ) → x / 2 ^ 0 % 2 ≡ x % 2
lowest_bit x = ap (λ (y : ℕ). y % 2) (omega (arith, div-add-mod' x 1, lt-one (mod-lt x (zero-lt-suc 0))))

-- the bits above the lowest are those of the half
pub half_bit : (x b : ℕ) → bit_at x (suc b) ≡ bit_at (x / 2) b
half_bit x b = ap (λ (y : ℕ). eqb (y % 2) 1) (ap (λ (k : ℕ). x / 2 ^ k) (omega arith) ∙ sym (shr-shr x 1 b))

pub zero_bit : (b : ℕ) → bit_at 0 b ≡ false
zero_bit zero = refl
zero_bit (suc b) = half_bit 0 b ∙ zero_bit b

-- of a number that is twice q and a digit r
pair_low : (q r : ℕ) → r < 2 → bit_at (q * 2 + r) 0 ≡ eqb r 1
pair_low q r h = ap (λ (d : ℕ). eqb d 1) (lowest_bit (q * 2 + r) ∙ digits_mod q h)

pair_high : (q r b : ℕ) → r < 2 → bit_at (q * 2 + r) (suc b) ≡ bit_at q b
pair_high q r b h = half_bit (q * 2 + r) b ∙ ap (λ (y : ℕ). bit_at y b) (digits_div q h)

-- ---- a mask and its bits

pub mask_lt : (test : ℕ → Bool) (n u : ℕ) → mask_along test n u < 2 ^ n
unfolding mask_along
mask_lt test zero u = omega arith
mask_lt test (suc n) u = subst (λ (y : ℕ). mask_along test n (suc u) * 2 + one_if (test u) < y) (sym (pow-suc 2 n)) (digits_lt (mask_lt test n (suc u)) (one_lt (test u)))

pub mask_bit : (test : ℕ → Bool) (n u b : ℕ) → b < n → bit_at (mask_along test n u) b ≡ test (u + b)
unfolding mask_along
mask_bit test zero u b h = absurd (omega arith)
mask_bit test (suc n) u zero h =
    let at : u ≡ u + 0 = omega arith in
    pair_low (mask_along test n (suc u)) (one_if (test u)) (one_lt (test u)) ∙ one_set (test u) ∙ ap test at
mask_bit test (suc n) u (suc b) h =
    let at : suc u + b ≡ u + suc b = omega arith in
    pair_high (mask_along test n (suc u)) (one_if (test u)) b (one_lt (test u)) ∙ mask_bit test n (suc u) b (omega arith) ∙ ap test at

pub own_bit : (test : ℕ → Bool) (n b : ℕ) → b < n → bit_at (mask_of test n) b ≡ test b
own_bit test n b h = mask_bit test n 0 b h ∙ ap test (omega arith)

-- masks of tests that agree are the same
pub mask_ext : (s t : ℕ → Bool) (n u : ℕ) → ((b : ℕ) → u ≤ b → b < u + n → s b ≡ t b) → mask_along s n u ≡ mask_along t n u
unfolding mask_along
mask_ext s t zero u h = refl
mask_ext s t (suc n) u h =
    ap₂ (λ (x : ℕ) (b : Bool). x * 2 + one_if b) (mask_ext s t n (suc u) (λ b l k. h b (omega arith) (omega arith))) (h u (omega arith) (omega arith))

mask_shift : (t : ℕ → Bool) (n u : ℕ) → mask_along t n (suc u) ≡ mask_along (λ b. t (suc b)) n u
unfolding mask_along
mask_shift t zero u = refl
mask_shift t (suc n) u = ap (λ (x : ℕ). x * 2 + one_if (t (suc u))) (mask_shift t n (suc u))

-- a number is the mask of its own bits
pub mask_own : (x n : ℕ) → x < 2 ^ n → mask_of (bit_at x) n ≡ x
unfolding mask_along
mask_own x zero h = sym (lt-one h)
mask_own x (suc n) h =
    let rest : mask_along (bit_at x) n 1 ≡ x / 2 =
    mask_shift (bit_at x) n 0 ∙ mask_ext (λ b. bit_at x (suc b)) (bit_at (x / 2)) n 0 (λ b l k. half_bit x b) ∙ mask_own (x / 2) n (shr_lt n 1 (subst (λ (k : ℕ). x < 2 ^ k) (omega arith) h)) in
    let low : one_if (bit_at x 0) ≡ x % 2 = ap (λ (d : ℕ). one_if (eqb d 1)) (lowest_bit x) ∙ digit_one (x % 2) (mod-lt x two_pos) in
    ap₂ (λ (a r : ℕ). a * 2 + r) rest low ∙ omega (arith, div-add-mod' x 2)

-- the mask of a test is the one number of that width whose bits are what the test says
pub mask_is : (test : ℕ → Bool) (x n : ℕ) → x < 2 ^ n → ((b : ℕ) → b < n → bit_at x b ≡ test b) → x ≡ mask_of test n
mask_is test x n h e = sym (mask_own x n h) ∙ mask_ext (bit_at x) test n 0 (λ b l k. e b (omega arith))

-- ---- and, or, not; a single bit; the lowest bits

or_digits : (d e : ℕ) → d < 2 → e < 2 → eqb (bit_or d e) 1 ≡ (eqb d 1 || eqb e 1)
or_digits zero zero h k = refl
or_digits zero (suc zero) h k = refl
or_digits (suc zero) zero h k = refl
or_digits (suc zero) (suc zero) h k = refl
or_digits (suc (suc d)) e h k = absurd (omega arith)
or_digits zero (suc (suc e)) h k = absurd (omega arith)
or_digits (suc zero) (suc (suc e)) h k = absurd (omega arith)

pub or_bit : (x y b : ℕ) → bit_at (bit_or x y) b ≡ (bit_at x b || bit_at y b)
or_bit x y b =
    let digits : bit_or x y / 2 ^ b % 2 ≡ bit_or (x / 2 ^ b % 2) (y / 2 ^ b % 2) = ap (λ (z : ℕ). z % 2) (or_shr x y b) ∙ or_mod (x / 2 ^ b) (y / 2 ^ b) 1 in
    ap (λ (z : ℕ). eqb z 1) digits ∙ or_digits (x / 2 ^ b % 2) (y / 2 ^ b % 2) (mod-lt (x / 2 ^ b) two_pos) (mod-lt (y / 2 ^ b) two_pos)

and_digits : (d e : ℕ) → d < 2 → e < 2 → eqb (bit_and d e) 1 ≡ (eqb d 1 && eqb e 1)
and_digits zero zero h k = refl
and_digits zero (suc zero) h k = refl
and_digits (suc zero) zero h k = refl
and_digits (suc zero) (suc zero) h k = refl
and_digits (suc (suc d)) e h k = absurd (omega arith)
and_digits zero (suc (suc e)) h k = absurd (omega arith)
and_digits (suc zero) (suc (suc e)) h k = absurd (omega arith)

pub and_bit : (x y b : ℕ) → bit_at (bit_and x y) b ≡ (bit_at x b && bit_at y b)
and_bit x y b =
    let digits : bit_and x y / 2 ^ b % 2 ≡ bit_and (x / 2 ^ b % 2) (y / 2 ^ b % 2) = ap (λ (z : ℕ). z % 2) (and_shr x y b) ∙ and_mod (x / 2 ^ b) (y / 2 ^ b) 1 in
    ap (λ (z : ℕ). eqb z 1) digits ∙ and_digits (x / 2 ^ b % 2) (y / 2 ^ b % 2) (mod-lt (x / 2 ^ b) two_pos) (mod-lt (y / 2 ^ b) two_pos)

-- two numbers that make all ones have each bit in one of them
other_digit : (d e : ℕ) → d + e ≡ 1 → eqb e 1 ≡ not (eqb d 1)
other_digit zero e h = eq-eqb e 1 (omega arith)
other_digit (suc zero) e h = ne_eqb e 1 (λ k. omega arith)
other_digit (suc (suc d)) e h = absurd (omega arith)

halves : (x y p : ℕ) → x + y + 1 ≡ p * 2 → (x % 2 + y % 2 ≡ 1) × (x / 2 + y / 2 + 1 ≡ p)
halves x y p e =
    let a = div-add-mod' x 2 in
    let b = div-add-mod' y 2 in
    let c = mod-lt x two_pos in
    let d = mod-lt y two_pos in
    (omega (arith, a, b, c, d, e), omega (arith, a, b, c, d, e))

other_bit : (n x y b : ℕ) → x + y + 1 ≡ 2 ^ n → b < n → bit_at y b ≡ not (bit_at x b)
other_bit zero x y b e h = absurd (omega arith)
other_bit (suc n) x y zero e h =
    let k = halves x y (2 ^ n) (e ∙ pow-suc 2 n) in
    ap (λ (d : ℕ). eqb d 1) (lowest_bit y) ∙ other_digit (x % 2) (y % 2) k.0 ∙ ap (λ (d : ℕ). not (eqb d 1)) (sym (lowest_bit x))
other_bit (suc n) x y (suc b) e h =
    let k = halves x y (2 ^ n) (e ∙ pow-suc 2 n) in
    half_bit y b ∙ other_bit n (x / 2) (y / 2) b k.1 (omega arith) ∙ ap not (sym (half_bit x b))

pub not_bit : (n x b : ℕ) → x < 2 ^ n → b < n → bit_at ((2 ^ n - 1) - x) b ≡ not (bit_at x b)
not_bit n x b l h = other_bit n x ((2 ^ n - 1) - x) b (omega (arith, l)) h

twice : (k : ℕ) → 2 ^ suc k ≡ 2 ^ k * 2 + 0
twice k = pow-suc 2 k ∙ omega arith

pub one_bit : (k b : ℕ) → bit_at (2 ^ k) b ≡ eqb k b
one_bit zero zero = refl
one_bit zero (suc b) = half_bit 1 b ∙ zero_bit b ∙ sym (eqb-zero-suc b)
one_bit (suc k) zero = ap (λ (x : ℕ). bit_at x 0) (twice k) ∙ pair_low (2 ^ k) 0 two_pos ∙ sym (eqb-suc-zero k)
one_bit (suc k) (suc b) = ap (λ (x : ℕ). bit_at x (suc b)) (twice k) ∙ pair_high (2 ^ k) 0 b two_pos ∙ one_bit k b ∙ sym (eqb-suc-suc k b)

pow_pos : (k : ℕ) → 0 < 2 ^ k
pow_pos zero = omega arith
pow_pos (suc k) = subst (λ (x : ℕ). 0 < x) (sym (pow-suc 2 k)) (omega (arith, pow_pos k))

ones_half : (m : ℕ) → 2 ^ suc m - 1 ≡ (2 ^ m - 1) * 2 + 1
ones_half m = ap (λ (x : ℕ). x - 1) (pow-suc 2 m) ∙ dbl_pred (pow_pos m)

pub below_bit : (m b : ℕ) → bit_at (2 ^ m - 1) b ≡ ltb b m
below_bit zero b = zero_bit b ∙ sym (leb-suc-zero b)
below_bit (suc m) zero = ap (λ (x : ℕ). bit_at x 0) (ones_half m) ∙ pair_low (2 ^ m - 1) 1 (omega arith) ∙ sym (lt-ltb 0 (suc m) (omega arith))
below_bit (suc m) (suc b) = ap (λ (x : ℕ). bit_at x (suc b)) (ones_half m) ∙ pair_high (2 ^ m - 1) 1 b (omega arith) ∙ below_bit m b ∙ sym (leb-suc-suc (suc b) m)

-- ---- the masks that words make

-- no number passes
pub mask_none : (test : ℕ → Bool) (n : ℕ) → ((b : ℕ) → b < n → test b ≡ false) → 0 ≡ mask_of test n
mask_none test n h = mask_is test 0 n (pow_pos n) (λ b l. zero_bit b ∙ sym (h b l))

-- one number alone
pub mask_one : (b n : ℕ) → b < n → 2 ^ b ≡ mask_of (eqb b) n
mask_one b n h = mask_is (eqb b) (2 ^ b) n (pow-lt h) (λ k l. one_bit b k)

-- the numbers below m
pub mask_below : (m n : ℕ) → m ≤ n → 2 ^ m - 1 ≡ mask_of (λ b. ltb b m) n
mask_below m n h =
    let few : 2 ^ m ≤ 2 ^ n = pow_mono h in
    mask_is (λ b. ltb b m) (2 ^ m - 1) n (omega (arith, pow_pos m)) (λ b l. below_bit m b)

-- a word with the numbers that pass, and without them
pub mask_with : (test : ℕ → Bool) (x n : ℕ) → x < 2 ^ n → bit_or x (mask_of test n) ≡ mask_of (λ b. bit_at x b || test b) n
mask_with test x n h =
    mask_is (λ b. bit_at x b || test b) (bit_or x (mask_of test n)) n (or_lt n x (mask_of test n) h (mask_lt test n 0))
    (λ b l. or_bit x (mask_of test n) b ∙ ap (λ (t : Bool). bit_at x b || t) (own_bit test n b l))

pub mask_without : (test : ℕ → Bool) (x n : ℕ) → x < 2 ^ n → bit_and x ((2 ^ n - 1) - mask_of test n) ≡ mask_of (λ b. bit_at x b && not (test b)) n
mask_without test x n h =
    let less = and_le_l x ((2 ^ n - 1) - mask_of test n) in
    mask_is (λ b. bit_at x b && not (test b)) (bit_and x ((2 ^ n - 1) - mask_of test n)) n (omega (arith, less, h))
    (λ b l. and_bit x ((2 ^ n - 1) - mask_of test n) b
    ∙ ap (λ (t : Bool). bit_at x b && t) (not_bit n (mask_of test n) b (mask_lt test n 0) l ∙ ap not (own_bit test n b l)))

-- ---- the lowest of the set, and how many it has

-- the trailing zeros: the first that passes, past the last if none does
trailing_along : (test : ℕ → Bool) (n u : ℕ) → count_trailing_zeros n (mask_along test n u) + u ≡ unwrap_or (first_along suc test n u) (n + u)
unfolding mask_along first_along count_trailing_zeros
trailing_along test zero u = refl
trailing_along test (suc n) u =
    ap₂ (λ (d y : ℕ). under d (count_trailing_zeros n y) + u) (digits_mod (mask_along test n (suc u)) (one_lt (test u))) (digits_div (mask_along test n (suc u)) (one_lt (test u)))
    ∙ go (test u) (trailing_along test n (suc u))
  where
    go : (t : Bool) → count_trailing_zeros n (mask_along test n (suc u)) + suc u ≡ unwrap_or (first_along suc test n (suc u)) (n + suc u)
        → under (one_if t) (count_trailing_zeros n (mask_along test n (suc u))) + u ≡ unwrap_or (cond t (Some u) (first_along suc test n (suc u))) (suc n + u)
    go true e = omega arith
    go false e = omega arith ∙ e ∙ ap (unwrap_or (first_along suc test n (suc u))) (omega arith)

pub trailing_first : (x n : ℕ) → x < 2 ^ n → count_trailing_zeros n x ≡ unwrap_or (first_along suc (bit_at x) n 0) n
trailing_first x n h =
    let along : count_trailing_zeros n (mask_of (bit_at x) n) + 0 ≡ unwrap_or (first_along suc (bit_at x) n 0) (n + 0) = trailing_along (bit_at x) n 0 in
    ap (count_trailing_zeros n) (sym (mask_own x n h)) ∙ omega arith ∙ along ∙ ap (unwrap_or (first_along suc (bit_at x) n 0)) (omega arith)

-- the ones: how many pass
ones_along : (test : ℕ → Bool) (n u : ℕ) → ones (mask_along test n u) ≡ count_along suc test n u
unfolding mask_along count_along ones
ones_along test zero u = refl
ones_along test (suc n) u =
    ones_step (mask_along test n (suc u) * 2 + one_if (test u))
    ∙ ap₂ (λ (d y : ℕ). d + ones y) (digits_mod (mask_along test n (suc u)) (one_lt (test u))) (digits_div (mask_along test n (suc u)) (one_lt (test u)))
    ∙ ap (λ (k : ℕ). one_if (test u) + k) (ones_along test n (suc u))

pub ones_count : (x n : ℕ) → x < 2 ^ n → ones x ≡ count_along suc (bit_at x) n 0
ones_count x n h = ap ones (sym (mask_own x n h)) ∙ ones_along (bit_at x) n 0
