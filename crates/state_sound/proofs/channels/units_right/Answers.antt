-- `state_sound::units_right` meets its contract, branch by branch, from the contract of `unit_right`. Assumes nothing.
use mathlib.Core.Path.{refl, sym, ◌∙◌}
use Prim.Native.Nat.{◌≤◌, ◌<◌}
use native.Mathlib.Omega.{arith}
use lib.ListN.{length}
use Rattle.area.proofs.Walks.{all_hit, all_miss, all_done}
use mathlib.Core.Bool.{false}
use Rattle.channel.specs.Units.{idle_unit}
use Rattle.state_sound.proofs.channels.units_right.Goals as goal

pub loop-x-init : goal.loop-x-init
loop-x-init c = refl

pub returns-then-not-unit_right : goal.returns-then-not-unit_right
returns-then-not-unit_right c = let h : c.loop-x.x-index < length c.args.units = omega arith in
    all_hit _ _ _ _ _ h c.loop-x.invariant (sym c.unit_right.ensures ∙ c.if-not-unit_right.true)

pub loop-x-preserved : goal.loop-x-preserved
loop-x-preserved c = let h : c.loop-x.x-index < length c.args.units = omega arith in
    all_miss _ _ _ _ _ h c.loop-x.invariant (sym c.unit_right.ensures ∙ c.if-not-unit_right.false)

pub returns : goal.returns
returns c = let h : length c.args.units ≤ c.loop-x.x-index = omega arith in
    all_done _ _ (idle_unit false) _ _ h c.loop-x.invariant
