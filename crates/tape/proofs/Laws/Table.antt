-- The number of a fault is the highest of its rows that applies. Assumes nothing.
use mathlib.Core.Path.{◌≡◌, refl, ap, subst}
use mathlib.Core.Bool.{Bool, true, false, cond}
use mathlib.Core.List.{[], ◌∷◌}
use Prim.Native.Nat.{ℕ, ◌<◌, ◌≤◌, max}
use native.Mathlib.Decide.{dec_lt}
use native.Mathlib.Omega.{arith}
use Rattle.area.specs.Refusals.{Rows, Row, here, later}
use Rattle.tape.specs.Faults.{highest}

-- the row n applies, and no row with a higher number does
pub record Topmost (rows : Rows) (n : ℕ) : Type 0 where
  pub row : Row n true rows
  pub no_higher : (k : ℕ) (b : Bool) → Row k b rows → n < k → b ≡ false

-- a row that applies is never above the highest
row_below : {k : ℕ} {b : Bool} {rows : Rows} → Row k b rows → b ≡ true → k ≤ highest rows
unfolding highest
row_below {k} {b} {rows} (here {rows = rest}) e = let c : cond b k 0 ≡ k = ap (λ (t : Bool). cond t k 0) e in omega arith
row_below (later p) e = let h = row_below p e in omega arith

no_higher_lem : (rows : Rows) (n : ℕ) → highest rows ≡ n → (k : ℕ) (b : Bool) → Row k b rows → n < k → b ≡ false
no_higher_lem rows n e k true p l = absurd (omega (arith, row_below p refl))
no_higher_lem rows n e k false p l = refl

-- a number that is given has a row that applies
given_row : (rows : Rows) → 0 < highest rows → Row (highest rows) true rows
unfolding highest
given_row [] h = absurd (omega arith)
given_row ((k, true) ∷ rows) h = go (dec_lt (highest rows) k) (given_row rows)
  where
    go : Dec (highest rows < k) → (0 < highest rows → Row (highest rows) true rows) → Row (max k (highest rows)) true ((k, true) ∷ rows)
    go (yes l) rest = let e : k ≡ max k (highest rows) = omega arith in subst (λ (m : ℕ). Row m true ((k, true) ∷ rows)) e here
    go (no l) rest =
        let e : highest rows ≡ max k (highest rows) = omega (arith, l) in
        subst (λ (m : ℕ). Row m true ((k, true) ∷ rows)) e (later (rest (omega arith)))
given_row ((k, false) ∷ rows) h =
    let e : highest rows ≡ max 0 (highest rows) = omega arith in
    subst (λ (m : ℕ). Row m true ((k, false) ∷ rows)) e (later (given_row rows (omega arith)))

pub highest_given : (rows : Rows) (n : ℕ) → 0 < n → highest rows ≡ n → Topmost rows n
highest_given rows n some e =
    record { row = subst (λ (m : ℕ). Row m true rows) e (given_row rows (omega arith)); no_higher = no_higher_lem rows n e }

-- no number is given only if no row applies
pub highest_none : (rows : Rows) → highest rows ≡ 0 → (k : ℕ) (b : Bool) → Row k b rows → 0 < k → b ≡ false
highest_none rows e = no_higher_lem rows 0 e
