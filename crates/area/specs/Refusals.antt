-- Which refusal a call is given (document 01, "Refusal numbers"). Assumes nothing.
use Rattle.std.specs.Prelude.{◌≡◌, Bool, true, false, cond, List, [], ◌∷◌, ℕ, ◌<◌}

-- A call's rows of the table, in rising order: a number, and whether it applies.
abbrev pub Rows : Type 0
Rows = List (ℕ × Bool)

-- "If several apply, the lowest number is given." 0 where none applies.
unfoldable pub lowest : Rows → ℕ
lowest [] = 0
lowest (x ∷ xs) = cond x.1 x.0 (lowest xs)

-- ---- the same said plainly

-- the table has the row (n, applies)
pub data Row (n : ℕ) (applies : Bool) : Rows → Type 0 where
  here : {rows : Rows} → Row n applies ((n, applies) ∷ rows)
  later : {k : ℕ} {b : Bool} {rows : Rows} → Row n applies rows → Row n applies ((k, b) ∷ rows)

-- the row n applies, and no row with a lower number does
pub record Given (rows : Rows) (n : ℕ) : Type 0 where
  pub condition : Bool
  pub row : Row n condition rows
  pub applies : condition ≡ true
  pub no_lower : (k : ℕ) (b : Bool) → Row k b rows → k < n → b ≡ false

-- no row applies
abbrev pub NoneApplies : Rows → Type 0
NoneApplies rows = (k : ℕ) (b : Bool) → Row k b rows → b ≡ false

-- "Given exactly when": a number is given exactly if its row applies and none with a lower number does, and 0 exactly if none applies
pub record Exactly (rows : Rows) : Type 0 where
  pub given : (n : ℕ) → 0 < n → lowest rows ≡ n → Given rows n
  pub gives : (n : ℕ) → Given rows n → lowest rows ≡ n
  pub none : lowest rows ≡ 0 → NoneApplies rows
  pub nothing : NoneApplies rows → lowest rows ≡ 0
