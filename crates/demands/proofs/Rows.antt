-- Rows of a refusal table, from the number that is given. Assumes nothing.
use mathlib.Core.Path.{◌≡◌, refl, sym}
use mathlib.Core.Logic.{◌≢◌}
use mathlib.Core.Bool.{Bool, true, false}
use mathlib.Core.List.{[], ◌∷◌}
use Prim.Native.Nat.{ℕ, ◌≤◌, ◌<◌}
use native.Mathlib.Omega.{arith}
use Rattle.area.specs.Refusals.{Rows, lowest}
use Rattle.area.proofs.Walks.{true_not_false}

-- a row with another number than the one given does not apply
pub row_past : (n m : ℕ) (b : Bool) (rows : Rows) → n ≢ m → lowest ((m, b) ∷ rows) ≡ n → (b ≡ false) × (lowest rows ≡ n)
unfolding lowest
row_past n m true rows ne e = absurd (ne (sym e))
row_past n m false rows ne e = (refl, e)

-- a row is given that no later row gives, so it applies
pub row_given : (n : ℕ) (b : Bool) (rows : Rows) → (lowest rows ≡ n → ⊥) → lowest ((n, b) ∷ rows) ≡ n → b ≡ true
unfolding lowest
row_given n true rows other e = refl
row_given n false rows other e = absurd (other e)

-- later rows that all have another number
pub none_gives : (n : ℕ) → 0 < n → lowest [] ≡ n → ⊥
unfolding lowest
none_gives n l e = omega arith

pub not_gives : (n m : ℕ) (b : Bool) (rows : Rows) → n ≢ m → (lowest rows ≡ n → ⊥) → lowest ((m, b) ∷ rows) ≡ n → ⊥
not_gives n m b rows ne other e = other (row_past n m b rows ne e).1

-- a row applies, so its number or a lower one is given
pub row_most : (n m : ℕ) (b : Bool) (rows : Rows) → n ≤ m → lowest rows ≤ m → lowest ((n, b) ∷ rows) ≤ m
unfolding lowest
row_most n m true rows l k = l
row_most n m false rows l k = k

pub row_here : (n m : ℕ) (b : Bool) (rows : Rows) → n ≤ m → b ≡ true → lowest ((n, b) ∷ rows) ≤ m
unfolding lowest
row_here n m true rows l e = l
row_here n m false rows l e = true_not_false e refl
