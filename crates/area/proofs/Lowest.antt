-- Laws of `lowest`: the first row of a call's table that applies gives the number. Assumes nothing.
use mathlib.Core.Path.{◌≡◌, refl}
use mathlib.Core.Bool.{Bool, true, false, cond}
use mathlib.Core.List.{[], ◌∷◌}
use Prim.Native.Nat.{ℕ}
use Rattle.area.specs.Refusals.{Rows, lowest}
use Rattle.area.proofs.Walks.{by_test}

module _ (n : ℕ) (applies : Bool) (rows : Rows) where
  -- the first row applies
  pub lowest_here : applies ≡ true → lowest ((n, applies) ∷ rows) ≡ n
  unfolding lowest
  lowest_here e = rw e

  -- it does not
  pub lowest_past : applies ≡ false → lowest ((n, applies) ∷ rows) ≡ lowest rows
  unfolding lowest
  lowest_past e = rw e

  -- no refusal is given: the row does not apply, nor any after it. A row's number is not 0
  pub lowest_none : (n ≡ 0 → ⊥) → lowest ((n, applies) ∷ rows) ≡ 0 → (applies ≡ false) × (lowest rows ≡ 0)
  unfolding lowest
  lowest_none nz e =
      by_test (λ b. cond b n (lowest rows) ≡ 0 → (b ≡ false) × (lowest rows ≡ 0)) applies
      (λ t z. absurd (nz z)) (λ f z. (refl, z)) e

pub lowest_end : lowest [] ≡ 0
unfolding lowest
lowest_end = refl
