-- `state_sound::units_served` meets its contract, branch by branch, from the contract of `unit_served`. Assumes nothing.
use borrow.Author.Rules.{rules}
use mathlib.Core.Path.{refl, sym, ◌∙◌}
use mathlib.Core.Bool.{false}
use Prim.Native.Nat.{◌≤◌, ◌<◌}
use native.Mathlib.Omega.{arith}
use lib.ListN.{length}
use Rattle.area.proofs.Numbered.{from_hit, from_miss, from_done}
use Rattle.channel.specs.Units.{idle_unit}
use Rattle.state_sound.proofs.channels.units_served.Goals as goal

pub loop-u-init : goal.loop-u-init
loop-u-init c = (search rules, refl)

pub returns-then-not-unit_served : goal.returns-then-not-unit_served
returns-then-not-unit_served c = let h : c.loop-u.u < length c.args.units = omega arith in
    from_hit _ _ _ _ _ h c.loop-u.invariant.1 (sym c.unit_served.ensures ∙ c.if-not-unit_served.true)

pub loop-u-preserved : goal.loop-u-preserved
loop-u-preserved c = let h : c.loop-u.u < length c.args.units = omega arith in
    (c.loop-u.invariant.0, from_miss _ _ _ _ _ h c.loop-u.invariant.1 (sym c.unit_served.ensures ∙ c.if-not-unit_served.false))

pub returns : goal.returns
returns c = let h : length c.args.units ≤ c.loop-u.u = omega arith in
    from_done _ _ (idle_unit false) _ _ h c.loop-u.invariant.1
