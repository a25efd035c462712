-- The scan finds whom it should: the unit found passes and no unit that passes comes before it; and only one answer meets that.
-- Assumes nothing.
use mathlib.Core.Path.{◌≡◌, refl, sym, ap, ◌∙◌}
use mathlib.Core.Bool.{Bool, false}
use mathlib.Core.Logic.{◌⊎◌, inl, inr}
use Prim.Native.Nat.{ℕ, zero, suc, ◌+◌, ◌-◌, ◌≤◌, ◌<◌}
use native.Mathlib.Decide.{dec_lt}
use native.Mathlib.Omega.{arith}
use Rattle.area.specs.Lists.{first_along, along}
use Rattle.area.proofs.Walks.{true_not_false}
use Rattle.area.proofs.Firsts.{First, first_finds, first_misses}
use Rattle.channel.specs.declared.Channel.{Channel}
use Rattle.channel.specs.Units.{size}
use Rattle.channel_turns.specs.Scans.{next_unit, begin_of, stands, scan_from, Before, upward, unwrapped, wrapped, Scanned, finds, misses}
use Rattle.channel_turns.proofs.Laws.Scans.{begin_below}
use Rattle.channel_theorems.proofs.Theorems.Order.{Next, above, round, next_is, Compared, same, first, later, compare_before}
use Rattle.std.specs.declared.option.Option.{Option}
use Rattle.std.specs.declared.option.Option.TheVariants.{Some, None}

-- x is the j-th unit of a scan of n that begins at b
data Place (n b j x : ℕ) : Type 0 where
  up : x ≡ b + j → x < n → Place n b j x
  over : x + n ≡ b + j → Place n b j x

along_place : (n : ℕ) (j b : ℕ) → b < n → j < n → Place n b j (along (next_unit n) j b)
unfolding along
along_place n zero b l h = up (omega arith) l
along_place n (suc j) b l h = go (next_unit n b) (next_is n b) (λ m k. along_place n j m k (omega arith))
  where
    go : (m : ℕ) → Next n b m → ((m : ℕ) → m < n → Place n m j (along (next_unit n) j m)) → Place n b (suc j) (along (next_unit n) j m)
    go m (above i e) ih = shift (ih m (omega arith))
      where
        shift : Place n m j (along (next_unit n) j m) → Place n b (suc j) (along (next_unit n) j m)
        shift (up p q) = up (omega arith) q
        shift (over p) = over (omega arith)
    go m (round i e) ih = shift (ih m (omega arith))
      where
        shift : Place n m j (along (next_unit n) j m) → Place n b (suc j) (along (next_unit n) j m)
        shift (up p q) = over (omega arith)
        shift (over p) = absurd (omega arith)

-- every unit has its place in the scan
record Comes (n b y : ℕ) : Type 0 where
  place : ℕ
  among : place < n
  there : along (next_unit n) place b ≡ y

comes : (n b y : ℕ) → b < n → y < n → Comes n b y
comes n b y l h = go (dec_lt y b)
  where
    at : (j : ℕ) → j < n → (j + b ≡ y) ⊎ (j + b ≡ y + n) → Comes n b y
    at j k w = record { place = j; among = k; there = fits w (along_place n j b l k) }
      where
        fits : (j + b ≡ y) ⊎ (j + b ≡ y + n) → Place n b j (along (next_unit n) j b) → along (next_unit n) j b ≡ y
        fits (inl e) (up p q) = omega arith
        fits (inl e) (over p) = absurd (omega arith)
        fits (inr e) (up p q) = absurd (omega arith)
        fits (inr e) (over p) = omega arith

    go : Dec (y < b) → Comes n b y
    go (yes k) = at (y + n - b) (omega arith) (inr (omega arith))
    go (no k) = let m : b ≤ y = omega (arith, k) in at (y - b) (omega arith) (inl (omega arith))

-- a unit that comes before another has a lower place
comes_before : (n b x y : ℕ) → b < n → (j : ℕ) → j < n → along (next_unit n) j b ≡ x → (i : Comes n b y) → y < n → Before b x y → i.place < j
comes_before n b x y l j h e i m o = go (along_place n j b l h) (along_place n i.place b l i.among) o
  where
    go : Place n b j (along (next_unit n) j b) → Place n b i.place (along (next_unit n) i.place b) → Before b x y → i.place < j
    go (up p q) (up r s) (upward v w) = omega (arith, i.there)
    go (up p q) (up r s) (unwrapped v w) = absurd (omega arith)
    go (up p q) (up r s) (wrapped v w) = absurd (omega arith)
    go (up p q) (over r) (upward v w) = absurd (omega (arith, i.there, i.among))
    go (up p q) (over r) (unwrapped v w) = absurd (omega arith)
    go (up p q) (over r) (wrapped v w) = absurd (omega arith)
    go (over p) (up r s) (upward v w) = absurd (omega (arith, i.there))
    go (over p) (up r s) (unwrapped v w) = omega (arith, i.there)
    go (over p) (up r s) (wrapped v w) = absurd (omega (arith, i.there))
    go (over p) (over r) (upward v w) = absurd (omega (arith, i.there))
    go (over p) (over r) (unwrapped v w) = absurd (omega (arith, i.there, i.among))
    go (over p) (over r) (wrapped v w) = omega (arith, i.there)

-- a walk of n units from b on is a scan
pub along_scans : (test : ℕ → Bool) (n b : ℕ) → (0 < n → b < n) → Scanned test n b (first_along (next_unit n) test n b)
along_scans test n b starts = go (first_along (next_unit n) test n b) refl
  where
    go : (f : Option ℕ) → first_along (next_unit n) test n b ≡ f → Scanned test n b f
    go (Some x) e = finds x within f.passes (λ y m o. passed y m o (comes n b y l m))
      where
        f : First (next_unit n) test n b x
        f = first_finds (next_unit n) test n b x e

        l : b < n
        l = starts (omega (arith, f.among))

        within : x < n
        within = in_range_lem (along_place n f.steps b l f.among)
          where
            in_range_lem : Place n b f.steps (along (next_unit n) f.steps b) → x < n
            in_range_lem (up p q) = omega (arith, f.reached)
            in_range_lem (over p) = omega (arith, f.reached, f.among, l)

        passed : (y : ℕ) → y < n → Before b x y → Comes n b y → test y ≡ false
        passed y m o i = ap test (sym i.there) ∙ f.before i.place (comes_before n b x y l f.steps f.among f.reached i m o)
    go None e = misses (λ y m. none y m (comes n b y (starts (omega arith)) m))
      where
        none : (y : ℕ) → y < n → Comes n b y → test y ≡ false
        none y m i = ap test (sym i.there) ∙ first_misses (next_unit n) test n b e i.place i.among

-- the scan of a channel
pub scan_is : (c : Channel) (want mark : ℕ) → Scanned (stands c want) (size c) (begin_of (size c) mark) (scan_from c want mark)
unfolding scan_from
scan_is c want mark = along_scans (stands c want) (size c) (begin_of (size c) mark) (λ h. begin_below (size c) mark h)

-- two answers that both meet the statement are one
pub scan_unique : {test : ℕ → Bool} {n b : ℕ} {f g : Option ℕ} → Scanned test n b f → Scanned test n b g → f ≡ g
scan_unique {test} {n} {b} {f} {g} (finds x h e p) (finds y k i q) = go (compare_before b x y)
  where
    go : Compared b x y → Some x ≡ Some y
    go (same w) = ap Some w
    go (first w) = true_not_false e (q x h w)
    go (later w) = true_not_false i (p y k w)
scan_unique (finds x h e p) (misses q) = true_not_false e (q x h)
scan_unique (misses p) (finds y k i q) = true_not_false i (p y k)
scan_unique (misses p) (misses q) = refl

-- the same of another test that is everywhere the same
pub scanned_as : {test other : ℕ → Bool} {n b : ℕ} {f : Option ℕ} → ((x : ℕ) → test x ≡ other x) → Scanned test n b f → Scanned other n b f
scanned_as alike (finds x h e p) = finds x h (sym (alike x) ∙ e) (λ y k o. sym (alike y) ∙ p y k o)
scanned_as alike (misses p) = misses (λ y k. sym (alike y) ∙ p y k)
