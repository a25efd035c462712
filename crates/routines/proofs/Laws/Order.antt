-- Laws of `precedes` and `higher`: of two programs neither of which comes before the other both have the same rank, channel and unit; `higher` gives one of two,
-- and neither comes before it. Assumes nothing.
use mathlib.Core.Path.{◌≡◌, refl}
use mathlib.Core.Bool.{Bool, true, false, cond, ◌&&◌, ◌||◌}
use Prim.Native.Nat.{◌≤◌}
use native.Mathlib.Nat.{le_refl, le_trans}
use native.Mathlib.Omega.{arith}
use borrow.Author.Tests.{ltb-true, ltb-false, eqb-true, eq-eqb}
use lib.Dec.{ltb, eqb}
use Rattle.area.proofs.Walks.{by_test, or_left, or_right, or_either, and_left, and_right}
use Rattle.routines.specs.declared.Program.{Program}
use Rattle.routines.specs.Ranks.{precedes, higher}
use Rattle.routines.specs.Order.{NotBefore}

-- what the test says
module _ (x y : Program) where
  abbrev tied : Bool
  tied = ltb x.channel y.channel || (eqb x.channel y.channel && ltb x.unit y.unit)

  untied : y.rank ≤ x.rank → precedes x y ≡ false → tied ≡ false
  untied h e =
      let l : x.rank ≤ y.rank = ltb-false _ _ (or_left (ltb y.rank x.rank) _ e) in
      let same : eqb x.rank y.rank ≡ true = eq-eqb x.rank y.rank (omega arith) in
      rw same at (or_right (ltb y.rank x.rank) _ e)

  pub not_before : precedes x y ≡ false → NotBefore x y
  not_before e = record {
    ranked = ltb-false _ _ (or_left (ltb y.rank x.rank) _ e);
    channels = λ h. ltb-false _ _ (or_left (ltb x.channel y.channel) _ (untied h e));
    units = λ h k.
        let l : y.channel ≤ x.channel = ltb-false _ _ (or_left (ltb x.channel y.channel) _ (untied h e)) in
        let same : eqb x.channel y.channel ≡ true = eq-eqb x.channel y.channel (omega arith) in
        ltb-false _ _ (rw same at (or_right (ltb x.channel y.channel) _ (untied h e)));
  }

-- one program is not before itself, and the order is transitive
pub not_before_self : (x : Program) → NotBefore x x
not_before_self x = record { ranked = le_refl _; channels = λ h. le_refl _; units = λ h k. le_refl _ }

pub not_before_trans : {x y z : Program} → NotBefore x y → NotBefore y z → NotBefore x z
not_before_trans {x} {y} {z} p q = record {
  ranked = le_trans p.ranked q.ranked;
  channels = λ h. let a = p.ranked in let b = q.ranked in le_trans (q.channels (omega arith)) (p.channels (omega arith));
  units = λ h k.
      let a = p.ranked in
      let b = q.ranked in
      let s = q.channels (omega arith) in
      let t = p.channels (omega arith) in
      le_trans (q.units (omega arith) (omega arith)) (p.units (omega arith) (omega arith));
}

-- the other way round
before_strict : (x y : Program) → precedes x y ≡ true → precedes y x ≡ false
before_strict x y e = by_test (λ b. b ≡ false) (precedes y x) (λ f. absurd (clash e f)) (λ f. refl)
  where
    clash : precedes x y ≡ true → precedes y x ≡ true → ⊥
    clash e f =
        or_either (ltb y.rank x.rank) _ e
        (λ p. or_either (ltb x.rank y.rank) _ f
        (λ q. omega (arith, ltb-true y.rank x.rank p, ltb-true x.rank y.rank q))
        (λ q. omega (arith, ltb-true y.rank x.rank p, eqb-true y.rank x.rank (and_left (eqb y.rank x.rank) _ q))))
        (λ p. or_either (ltb x.rank y.rank) _ f
        (λ q. omega (arith, ltb-true x.rank y.rank q, eqb-true x.rank y.rank (and_left (eqb x.rank y.rank) _ p)))
        (λ q. or_either (ltb x.channel y.channel) _ (and_right (eqb x.rank y.rank) _ p)
        (λ a. or_either (ltb y.channel x.channel) _ (and_right (eqb y.rank x.rank) _ q)
        (λ b. omega (arith, ltb-true x.channel y.channel a, ltb-true y.channel x.channel b))
        (λ b. omega (arith, ltb-true x.channel y.channel a, eqb-true y.channel x.channel (and_left (eqb y.channel x.channel) _ b))))
        (λ a. or_either (ltb y.channel x.channel) _ (and_right (eqb y.rank x.rank) _ q)
        (λ b. omega (arith, ltb-true y.channel x.channel b, eqb-true x.channel y.channel (and_left (eqb x.channel y.channel) _ a)))
        (λ b. omega (arith, ltb-true x.unit y.unit (and_right (eqb x.channel y.channel) _ a), ltb-true y.unit x.unit (and_right (eqb y.channel x.channel) _ b))))))

-- `higher` gives one of the two
pub higher_one : (P : Program → Type 0) (a b : Program) → P a → P b → P (higher a b)
higher_one P a b p q = by_test (λ t. P (cond t b a)) (precedes b a) (λ e. q) (λ e. p)

-- and neither of them comes before it
pub higher_first : (a b : Program) → NotBefore a (higher a b) × NotBefore b (higher a b)
higher_first a b =
    by_test (λ t. NotBefore a (cond t b a) × NotBefore b (cond t b a)) (precedes b a)
    (λ e. (not_before a b (before_strict b a e), not_before_self b))
    (λ e. (not_before_self a, not_before b a e))
