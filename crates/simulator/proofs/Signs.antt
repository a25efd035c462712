-- A refusal as a call gives it: minus its number. Assumes nothing.
use lib.IntN.{ℤ, pos, negsuc, ◌-ℤ◌}
use lib.Signed.{mag}
use lib.Dec.{eqb}
use borrow.Author.Tests.{eq-eqb, ne_eqb, lt-ltb}
use mir.Syntax.{w64}
use mir.Val.{to_z, of_z, SFits}
use mir.ValLaws.{to_z_pos, to_z-of_z}
use mathlib.Core.Path.{◌≡◌, refl, sym, ap, ◌∙◌, subst}
use mathlib.Core.Bool.{Bool, true, false, cond}
use Prim.Native.Nat.{ℕ, zero, suc, ◌-◌, ◌<◌, ◌^◌}
use native.Mathlib.Omega.{arith}
use Rattle.area.proofs.Marks.{cond_true, cond_false}
use Rattle.area.proofs.Walks.{by_test}
use Rattle.simulator.specs.Calls.{minus, result_of}

pub zero_minus : (n : ℕ) → (n ≡ 0 → ⊥) → pos 0 -ℤ pos n ≡ minus n
zero_minus zero h = absurd (h refl)
zero_minus (suc n) h = cond_true _ _ (lt-ltb 0 (suc n) (let z : 0 < suc n = omega arith in z))

small : (n : ℕ) → n < 256 → to_z w64 n ≡ pos n
small n h = to_z_pos w64 n (let z : n < 9223372036854775808 = omega arith in z)

-- it fits an i64
pub minus_fits : (n : ℕ) → n < 256 → SFits w64 (minus n)
minus_fits n h = record { sfits = let z : n - 1 < 9223372036854775808 = omega arith in z }

pos_fits : (n : ℕ) → n < 256 → SFits w64 (pos n)
pos_fits n h = record { sfits = let z : n < 9223372036854775808 = omega arith in z }

result_fits : (refusal value : ℕ) → refusal < 256 → value < 256 → SFits w64 (result_of refusal value)
result_fits refusal value h k = by_test (λ (b : Bool). SFits w64 (cond b (pos value) (minus refusal))) (eqb refusal 0) (λ e. pos_fits value k) (λ e. minus_fits refusal h)

-- ---- as the code has it

module _ (refusal value : ℕ) (h : refusal < 256) (k : value < 256) where
  pub not_refused : refusal ≡ 0 → to_z w64 value ≡ result_of refusal value
  not_refused e = small value k ∙ sym (cond_true _ _ (eq-eqb refusal 0 e))

  module _ (some : refusal ≡ 0 → ⊥) where
    turned : pos 0 -ℤ to_z w64 refusal ≡ minus refusal
    turned = ap (λ (z : ℤ). pos 0 -ℤ z) (small refusal h) ∙ zero_minus refusal some

    pub refused_fits : SFits w64 (pos 0 -ℤ to_z w64 refusal)
    refused_fits = subst (SFits w64) (sym turned) (minus_fits refusal h)

    pub refused_as : to_z w64 (of_z w64 (pos 0 -ℤ to_z w64 refusal)) ≡ result_of refusal value
    refused_as = to_z-of_z w64 _ refused_fits ∙ turned ∙ sym (cond_false _ _ (ne_eqb refusal 0 some))

  pub result_back : (z : ℤ) → z ≡ result_of refusal value → to_z w64 (of_z w64 z) ≡ result_of refusal value
  result_back z e = to_z-of_z w64 z (subst (SFits w64) (sym e) (result_fits refusal value h k)) ∙ e
