-- Carry-back addition over its width k: it stays within k bits, 0 is neutral, and it is commutative and associative; it is the plain
-- sum with every carry put back at once. Then what the machine computes of it. Assumes nothing.
use Rattle.std.proofs.Common.{◌≡◌, ℕ, zero, suc, ◌+◌, ◌-◌, ◌*◌, ◌/◌, ◌%◌, ◌^◌, ◌<◌, ◌≤◌, sym, refl, ap, ◌∙◌, subst, lt_of_lt_of_le, le_of_suc-le-suc, add-zero, add_assoc, mod-lt, mod-eq_of_lt, zero-lt-suc, suc-mul, add_comm, suc-add, one-mul, zero-mul, mul-suc, add-one, one-add, arith, lit<, pow_pos, pow_mono, shl_exact, lt_of_le_ones}
use native.Mathlib.Nat.{mod-add-mod, mul-add-mod_self_right}
use lib.Pow.{pow-lt, split, suc_ones, le_ones}
use lib.Bits.{bit_and, and_mask}
use Rattle.word.specs.Sums.{carry_back}
use Rattle.word.specs.Totals.{reduced}

-- ---- within k bits

wraps : (P a b q r : ℕ) → q * P + r ≡ a + b → r < P → a < P → b < P → r + q < P
wraps P a b zero r e h ha hb = omega (arith, zero-mul P)
wraps P a b (suc zero) r e h ha hb = omega (arith, suc-mul zero P, zero-mul P)
wraps P a b (suc (suc q)) r e h ha hb = omega (arith, suc-mul (suc q) P, suc-mul q P)

pub carry_lt : (k a b : ℕ) → a < 2 ^ k → b < 2 ^ k → carry_back k a b < 2 ^ k
unfolding carry_back
carry_lt k a b ha hb = wraps (2 ^ k) a b ((a + b) / 2 ^ k) ((a + b) % 2 ^ k) (split (a + b) k) (mod-lt (a + b) (pow_pos k)) ha hb

-- ---- every carry put back at once

-- putting a part's carries back first changes nothing
pub reduced_add : (m a b : ℕ) → reduced m (reduced m a + b) ≡ reduced m (a + b)
unfolding reduced
reduced_add m zero b = refl
reduced_add m (suc a) b = ap (reduced m) (suc-add (a % m) b) ∙ ap suc (mod-add-mod a m b) ∙ sym (ap (reduced m) (suc-add a b))

-- a number up to m has no carry
pub reduced_small : (m a : ℕ) → a ≤ m → reduced m a ≡ a
unfolding reduced
reduced_small m zero h = refl
reduced_small m (suc a) h = ap suc (mod-eq_of_lt h)

pub reduced_lt : (k n : ℕ) → reduced (2 ^ suc k - 1) n < 2 ^ suc k
unfolding reduced
reduced_lt k zero = pow_pos (suc k)
reduced_lt k (suc n) = lt_of_le_ones (suc k) (mod-lt n (omega (arith, pow-lt (zero-lt-suc k))))

-- q carries out of the top of m + 1 come back as q
reduced_carries : (m q r : ℕ) → reduced m (q * suc m + r) ≡ reduced m (r + q)
unfolding reduced
reduced_carries m zero r =
    let e : zero * suc m + r ≡ r + zero = omega (arith, zero-mul (suc m)) in
    ap (reduced m) e
reduced_carries m (suc q) r =
    let e : suc q * suc m + r ≡ suc (suc q * m + (r + q)) = omega (arith, mul-suc (suc q) m) in
    let f : r + suc q ≡ suc (r + q) = omega arith in
    ap (reduced m) e ∙ ap suc (mul-add-mod_self_right (suc q) m (r + q)) ∙ sym (ap (reduced m) f)

pub carry_reduced : (k a b : ℕ) → a < 2 ^ k → b < 2 ^ k → carry_back k a b ≡ reduced (2 ^ k - 1) (a + b)
unfolding carry_back
carry_reduced k a b ha hb =
    let m : ℕ = 2 ^ k - 1 in
    let q : ℕ = (a + b) / 2 ^ k in
    let r : ℕ = (a + b) % 2 ^ k in
    sym (reduced_small m (r + q) (le_ones k (carry_lt k a b ha hb)))
    ∙ sym (reduced_carries m q r)
    ∙ ap (λ (p : ℕ). reduced m (q * p + r)) (suc_ones k)
    ∙ ap (reduced m) (split (a + b) k)

-- ---- the laws of an addition

pub carry_comm : (k a b : ℕ) → carry_back k a b ≡ carry_back k b a
unfolding carry_back
carry_comm k a b = ap (λ (s : ℕ). s % 2 ^ k + s / 2 ^ k) (add_comm a b)

pub carry_zero : (k a : ℕ) → a < 2 ^ k → carry_back k a 0 ≡ a
carry_zero k a ha =
    carry_reduced k a 0 ha (pow_pos k) ∙ ap (reduced (2 ^ k - 1)) (add-zero a) ∙ reduced_small (2 ^ k - 1) a (le_ones k ha)

pub zero_carry : (k a : ℕ) → a < 2 ^ k → carry_back k 0 a ≡ a
zero_carry k a ha = carry_comm k 0 a ∙ carry_zero k a ha

pub carry_assoc : (k a b c : ℕ) → a < 2 ^ k → b < 2 ^ k → c < 2 ^ k → carry_back k (carry_back k a b) c ≡ carry_back k a (carry_back k b c)
carry_assoc k a b c ha hb hc =
    let m : ℕ = 2 ^ k - 1 in
    carry_reduced k (carry_back k a b) c (carry_lt k a b ha hb) hc
    ∙ ap (λ (n : ℕ). reduced m (n + c)) (carry_reduced k a b ha hb)
    ∙ reduced_add m (a + b) c
    ∙ ap (reduced m) (add_assoc a b c ∙ add_comm a (b + c))
    ∙ sym (reduced_add m (b + c) a)
    ∙ ap (λ (n : ℕ). reduced m (n + a)) (sym (carry_reduced k b c hb hc))
    ∙ sym (carry_reduced k (carry_back k b c) a (carry_lt k b c hb hc) ha)
    ∙ carry_comm k (carry_back k b c) a

-- ---- what the machine computes

-- a number of fewer than 64 bits leaves room for a sum
pub narrow : (k a : ℕ) → k < 64 → a < 2 ^ k → a < 2 ^ 63
narrow k a hk ha = lt_of_lt_of_le ha (pow_mono (le_of_suc-le-suc hk))

one_shl : (k : ℕ) → k < 64 → (1 * 2 ^ k) % 2 ^ 64 ≡ 2 ^ k
one_shl k h = shl_exact {a = 1} 1 k 64 (lit< tt) (subst (λ (x : ℕ). x ≤ 64) (sym (one-add k)) h) ∙ one-mul (2 ^ k)

-- `1 << k` has a bit
pub one_shl_pos : (k : ℕ) → k < 64 → 1 ≤ (1 * 2 ^ k) % 2 ^ 64
one_shl_pos k h = subst (λ (n : ℕ). 1 ≤ n) (sym (one_shl k h)) (pow_pos k)

-- `(s & ((1 << k) - 1)) + (s >> k)` of a sum s
pub machine_carry : (k a b : ℕ) → k < 64 → bit_and (a + b) ((1 * 2 ^ k) % 2 ^ 64 - 1) + (a + b) / 2 ^ k ≡ carry_back k a b
unfolding carry_back
machine_carry k a b h =
    ap (λ (n : ℕ). n + (a + b) / 2 ^ k) (ap (λ (n : ℕ). bit_and (a + b) (n - 1)) (one_shl k h) ∙ and_mask (a + b) k)

-- `(t - 1) % m + 1` of a t that is not 0
pub machine_reduced : (m t : ℕ) → (t ≡ 0 → ⊥) → (t - 1) % m + 1 ≡ reduced m t
unfolding reduced
machine_reduced m zero h = absurd (h refl)
machine_reduced m (suc n) h =
    let e : suc n - 1 ≡ n = omega arith in
    ap (λ (x : ℕ). x % m + 1) e ∙ add-one (n % m)
