-- Laws of a desk's masks: a bit set, one not set, and what one pass over the units makes; and of the scan of a mask. Assumes nothing.
use mathlib.Core.Path.{◌≡◌, refl, sym, ap, ap₂, ◌∙◌}
use mathlib.Core.Bool.{Bool, true, false, not, cond, ◌&&◌, ◌||◌}
use Prim.Native.Nat.{ℕ, zero, suc, ◌+◌, ◌-◌, ◌*◌, ◌%◌, ◌^◌, ◌≤◌, ◌<◌}
use native.Mathlib.Omega.{arith}
use lib.Dec.{eqb, ltb}
use lib.Pow.{pow-lt, shl_exact}
use lib.Bits.{bit_and, bit_or, and_le_l, or_lt}
use borrow.Author.Tests.{eqb-true, eqb-false, lt-ltb, le-ltb, ltb-true, ltb-false}
use Rattle.area.specs.Lists.{first_along}
use Rattle.area.specs.Masks.{bit_at, mask_of}
use Rattle.area.proofs.Walks.{by_test}
use Rattle.area.proofs.Masks.{zero_bit, one_bit, or_bit, and_bit, not_bit, own_bit, mask_is}
use Rattle.channel_turns.specs.Scans.{next_unit, begin_of}
use Rattle.channel_turns.specs.Desks.{desk_bits, scan_of, with_bit}
use Rattle.channel_turns.proofs.Laws.Scans.{next_below, begin_below}
use Rattle.std.specs.declared.option.Option.{Option}
use Rattle.std.specs.declared.option.Option.TheVariants.{Some, None}

-- ---- one bit

-- a test that says no but for u, and one that says what a word says but for u
set_here : (e a : Bool) → (a || e) ≡ cond e true a
set_here true a = go a
  where
    go : (a : Bool) → (a || true) ≡ true
    go true = refl
    go false = refl
set_here false a = go a
  where
    go : (a : Bool) → (a || false) ≡ a
    go true = refl
    go false = refl

cleared_here : (e a : Bool) → (a && not e) ≡ cond e false a
cleared_here true true = refl
cleared_here true false = refl
cleared_here false true = refl
cleared_here false false = refl

module _ (mask u : ℕ) (word : mask < 2 ^ desk_bits) (among : u < desk_bits) where
  one_word : 2 ^ u < 2 ^ desk_bits
  one_word = pow-lt among

  pub bit_set : bit_or mask (2 ^ u) ≡ with_bit mask u true
  unfolding with_bit
  bit_set =
      mask_is (λ b. cond (eqb u b) true (bit_at mask b)) (bit_or mask (2 ^ u)) desk_bits (or_lt desk_bits mask (2 ^ u) word one_word)
      (λ b l. or_bit mask (2 ^ u) b ∙ ap (λ (e : Bool). bit_at mask b || e) (one_bit u b) ∙ set_here (eqb u b) (bit_at mask b))

  pub bit_cleared : bit_and mask ((2 ^ desk_bits - 1) - 2 ^ u) ≡ with_bit mask u false
  unfolding with_bit
  bit_cleared =
      let less = and_le_l mask ((2 ^ desk_bits - 1) - 2 ^ u) in
      mask_is (λ b. cond (eqb u b) false (bit_at mask b)) (bit_and mask ((2 ^ desk_bits - 1) - 2 ^ u)) desk_bits (omega (arith, less, word))
      (λ b l.
      and_bit mask ((2 ^ desk_bits - 1) - 2 ^ u) b
      ∙ ap (λ (e : Bool). bit_at mask b && e) (not_bit desk_bits (2 ^ u) b one_word l ∙ ap not (one_bit u b))
      ∙ cleared_here (eqb u b) (bit_at mask b))

-- one, shifted
pub one_shifted : (u : ℕ) → u < desk_bits → (1 * 2 ^ u) % 2 ^ desk_bits ≡ 2 ^ u
one_shifted u h = shl_exact 1 u desk_bits (omega arith) (omega arith) ∙ omega arith

module _ (mask u : ℕ) (word : mask < 2 ^ desk_bits) (among : u < desk_bits) (on : Bool) where
  pub also_set : on ≡ true → bit_or mask ((1 * 2 ^ u) % 2 ^ desk_bits) ≡ cond on (bit_or mask (2 ^ u)) mask
  also_set e = rw e (ap (bit_or mask) (one_shifted u among))

  pub bit_on : on ≡ true → bit_or mask ((1 * 2 ^ u) % 2 ^ desk_bits) ≡ with_bit mask u on
  bit_on e = ap (bit_or mask) (one_shifted u among) ∙ bit_set mask u word among ∙ ap (with_bit mask u) (sym e)

  pub bit_off : on ≡ false → bit_and mask ((2 ^ desk_bits - 1) - (1 * 2 ^ u) % 2 ^ desk_bits) ≡ with_bit mask u on
  bit_off e = ap (λ (x : ℕ). bit_and mask ((2 ^ desk_bits - 1) - x)) (one_shifted u among) ∙ bit_cleared mask u word among ∙ ap (with_bit mask u) (sym e)

-- ---- one pass: of the numbers below i those that pass are set, and no other

abbrev pub Passed : (ℕ → Bool) → ℕ → ℕ → Type 0
Passed test i mask = (mask < 2 ^ desk_bits) × ((b : ℕ) → b < desk_bits → bit_at mask b ≡ (ltb b i && test b))

pub passed_none : (test : ℕ → Bool) → Passed test 0 0
passed_none test = (omega arith, λ b l. zero_bit b ∙ sym (ap (λ (t : Bool). t && test b) (le-ltb b 0 (omega arith))))

or_none : (a : Bool) → (a || false) ≡ a
or_none true = refl
or_none false = refl

-- what is said of b below i + 1 is what is said of it below i, or b is i
upto : (b i : ℕ) (t here : Bool) → (i ≡ b → here ≡ t) → ((ltb b i && t) || (eqb i b && here)) ≡ (ltb b (i + 1) && t)
upto b i t here known = by_test (λ e. ((ltb b i && t) || (e && here)) ≡ (ltb b (i + 1) && t)) (eqb i b) same other
  where
    same : eqb i b ≡ true → ((ltb b i && t) || (true && here)) ≡ (ltb b (i + 1) && t)
    same e =
        let at : i ≡ b = eqb-true i b e in
        let below : ltb b i ≡ false = le-ltb b i (omega arith) in
        let within : ltb b (i + 1) ≡ true = lt-ltb b (i + 1) (omega arith) in
        rw (below, within) (known at)

    other : eqb i b ≡ false → ((ltb b i && t) || (false && here)) ≡ (ltb b (i + 1) && t)
    other e =
        let apart : i ≡ b → ⊥ = eqb-false i b e in
        or_none (ltb b i && t)
        ∙ ap (λ (a : Bool). a && t)
        (by_test (λ a. a ≡ ltb b (i + 1)) (ltb b i)
        (λ l. sym (lt-ltb b (i + 1) (let h = ltb-true b i l in omega arith)))
        (λ l. sym (le-ltb b (i + 1) (let h = ltb-false b i l in omega (arith, apart)))))

pub passed_more : (test : ℕ → Bool) (i mask : ℕ) (here : Bool) → here ≡ test i → i < desk_bits → Passed test i mask
    → Passed test (i + 1) (cond here (bit_or mask (2 ^ i)) mask)
passed_more test i mask here known among inv = go here refl
  where
    bits : (h : Bool) → h ≡ here → (b : ℕ) → b < desk_bits → (bit_at mask b || (eqb i b && h)) ≡ (ltb b (i + 1) && test b)
    bits h q b l =
        ap (λ (a : Bool). a || (eqb i b && h)) (inv.1 b l)
        ∙ upto b i (test b) h (λ at. q ∙ known ∙ ap test at)

    and_true : (a : Bool) → a ≡ (a && true)
    and_true true = refl
    and_true false = refl

    and_none : (a : Bool) → false ≡ (a && false)
    and_none true = refl
    and_none false = refl

    go : (h : Bool) → h ≡ here → Passed test (i + 1) (cond h (bit_or mask (2 ^ i)) mask)
    go true q = (
      or_lt desk_bits mask (2 ^ i) inv.0 (pow-lt among),
      λ b l. or_bit mask (2 ^ i) b ∙ ap (λ (e : Bool). bit_at mask b || e) (one_bit i b ∙ and_true (eqb i b)) ∙ bits true q b l,
    )
    go false q = (inv.0, λ b l. sym (or_none (bit_at mask b)) ∙ ap (λ (e : Bool). bit_at mask b || e) (and_none (eqb i b)) ∙ bits false q b l)

-- all numbers below n are passed, and the test says no past them
pub passed_all : (test : ℕ → Bool) (n mask : ℕ) → ((b : ℕ) → n ≤ b → test b ≡ false) → Passed test n mask → mask ≡ mask_of test desk_bits
passed_all test n mask past inv = mask_is test mask desk_bits inv.0 (λ b l. inv.1 b l ∙ within b)
  where
    within : (b : ℕ) → (ltb b n && test b) ≡ test b
    within b =
        by_test (λ a. (a && test b) ≡ test b) (ltb b n) (λ e. refl) (λ e. sym (past b (ltb-false b n e)))

-- ---- the scan

module _ (next : ℕ → ℕ) (s t : ℕ → Bool) (P : ℕ → Type 0) (goes : (u : ℕ) → P u → P (next u)) (alike : (u : ℕ) → P u → s u ≡ t u) where
  -- tests that agree on the way find the same
  pub first_alike : (k u : ℕ) → P u → first_along next s k u ≡ first_along next t k u
  unfolding first_along
  first_alike zero u p = refl
  first_alike (suc k) u p = ap₂ (λ (b : Bool) (x : Option ℕ). cond b (Some u) x) (alike u p) (first_alike k (next u) (goes u p))

-- a test that always says no finds nothing
pub first_no : (next : ℕ → ℕ) (test : ℕ → Bool) → ((u : ℕ) → test u ≡ false) → (k u : ℕ) → first_along next test k u ≡ None
unfolding first_along
first_no next test none zero u = refl
first_no next test none (suc k) u = rw (none u) (first_no next test none k (next u))

pub scan_none : (n mark : ℕ) → scan_of n 0 mark ≡ None
unfolding scan_of
scan_none n mark = first_no (next_unit n) (bit_at 0) zero_bit n (begin_of n mark)

-- the scan of the units that pass a test is the scan of their bits
pub scan_bits : (test : ℕ → Bool) (n mark : ℕ) → 0 < n → n ≤ desk_bits
    → first_along (next_unit n) test n (begin_of n mark) ≡ scan_of n (mask_of test desk_bits) mark
unfolding scan_of
scan_bits test n mark some few =
    first_alike (next_unit n) test (bit_at (mask_of test desk_bits)) (λ u. u < n) (λ u h. next_below n u some)
    (λ u h. sym (own_bit test desk_bits u (omega arith))) n (begin_of n mark) (begin_below n mark some)

-- where the scan begins
pub scan_starts : (n mask mark at : ℕ) → at ≡ begin_of n mark → scan_of n mask mark ≡ first_along (next_unit n) (bit_at mask) n at
unfolding scan_of
scan_starts n mask mark at e = ap (first_along (next_unit n) (bit_at mask) n) (sym e)
