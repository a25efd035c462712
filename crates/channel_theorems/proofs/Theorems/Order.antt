-- Laws of `Before`, the order of a scan: a scan that goes on above w keeps the order of the scan that came to w. Assumes nothing.
use mathlib.Core.Logic.{◌≢◌}
use mathlib.Core.Path.{◌≡◌, sym}
use Prim.Native.Nat.{ℕ, ◌+◌, ◌≤◌, ◌<◌}
use native.Mathlib.Decide.{dec_lt}
use native.Mathlib.Omega.{arith}
use Rattle.channel_turns.specs.Scans.{next_unit, Before, upward, unwrapped, wrapped}
use Rattle.channel_turns.proofs.Laws.Scans.{next_up, next_wraps}

-- the unit m after w, of n
pub data Next (n w m : ℕ) : Type 0 where
  above : w + 1 < n → m ≡ w + 1 → Next n w m
  round : n ≤ w + 1 → m ≡ 0 → Next n w m

pub next_is : (n w : ℕ) → Next n w (next_unit n w)
next_is n w = go (dec_lt (w + 1) n)
  where
    go : Dec (w + 1 < n) → Next n w (next_unit n w)
    go (yes h) = above h (next_up n w h)
    go (no h) = let k : n ≤ w + 1 = omega (arith, h) in round k (next_wraps n w k)

pub before_not_self : (b u : ℕ) → Before b u u → ⊥
before_not_self b u (upward h k) = omega arith
before_not_self b u (unwrapped h k) = omega arith
before_not_self b u (wrapped h k) = omega arith

-- the unit below the first is the last
pub before_not_last : {n w m u : ℕ} → u < n → Next n w m → Before m u w → ⊥
before_not_last l (above i e) (upward h k) = omega arith
before_not_last l (above i e) (unwrapped h k) = omega arith
before_not_last l (above i e) (wrapped h k) = omega arith
before_not_last l (round i e) (upward h k) = omega arith
before_not_last l (round i e) (unwrapped h k) = omega arith
before_not_last l (round i e) (wrapped h k) = omega arith

pub before_trans : {n b u w m x : ℕ} → u < n → Next n w m → Before b u w → Before m u x → Before b u x
before_trans l (above i e) (upward h k) (upward p q) = upward (omega arith) q
before_trans l (above i e) (upward h k) (unwrapped p q) = absurd (omega arith)
before_trans l (above i e) (upward h k) (wrapped p q) = absurd (omega arith)
before_trans l (above i e) (unwrapped h k) (upward p q) = wrapped h q
before_trans l (above i e) (unwrapped h k) (unwrapped p q) = unwrapped h (omega arith)
before_trans l (above i e) (unwrapped h k) (wrapped p q) = wrapped h q
before_trans l (above i e) (wrapped h k) (upward p q) = wrapped h q
before_trans l (above i e) (wrapped h k) (unwrapped p q) = absurd (omega arith)
before_trans l (above i e) (wrapped h k) (wrapped p q) = wrapped h q
before_trans l (round i e) (upward h k) s = absurd (omega arith)
before_trans l (round i e) (unwrapped h k) (upward p q) = wrapped h q
before_trans l (round i e) (unwrapped h k) (unwrapped p q) = absurd (omega arith)
before_trans l (round i e) (unwrapped h k) (wrapped p q) = absurd (omega arith)
before_trans l (round i e) (wrapped h k) s = absurd (omega arith)

-- of two units one comes first
pub data Compared (b x y : ℕ) : Type 0 where
  same : x ≡ y → Compared b x y
  first : Before b y x → Compared b x y
  later : Before b x y → Compared b x y

pub compare_before : (b x y : ℕ) → Compared b x y
compare_before b x y = go (dec_lt x y) (dec_lt y x) (dec_lt x b) (dec_lt y b)
  where
    go : Dec (x < y) → Dec (y < x) → Dec (x < b) → Dec (y < b) → Compared b x y
    go (yes h) k (yes p) (yes q) = first (wrapped q h)
    go (yes h) k (yes p) (no q) = later (unwrapped p (omega (arith, q)))
    go (yes h) k (no p) q = first (upward (omega (arith, p)) h)
    go (no h) (yes k) (yes p) (yes q) = later (wrapped p k)
    go (no h) (yes k) (yes p) (no q) = absurd (omega (arith, q))
    go (no h) (yes k) (no p) (yes q) = first (unwrapped q (omega (arith, p)))
    go (no h) (yes k) (no p) (no q) = later (upward (omega (arith, q)) k)
    go (no h) (no k) p q = same (omega (arith, h, k))

-- a scan that begins above x "comes to that unit last"
pub last_comes_last : (n x y : ℕ) → x < n → y < n → y ≢ x → Before (next_unit n x) x y
last_comes_last n x y l k ne = go (compare_before (next_unit n x) x y)
  where
    go : Compared (next_unit n x) x y → Before (next_unit n x) x y
    go (same e) = absurd (ne (sym e))
    go (first b) = absurd (before_not_last k (next_is n x) b)
    go (later b) = b
