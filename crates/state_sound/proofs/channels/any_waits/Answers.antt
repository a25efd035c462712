-- `state_sound::any_waits` meets its contract, branch by branch, from the contract of `is_waiting`. Assumes nothing.
use mathlib.Core.Path.{refl, sym, ◌∙◌}
use Prim.Native.Nat.{◌≤◌, ◌<◌}
use native.Mathlib.Omega.{arith}
use lib.ListN.{length}
use Rattle.area.proofs.Walks.{any_hit, any_miss, any_done}
use mathlib.Core.Bool.{false}
use Rattle.channel.specs.Units.{idle_unit}
use Rattle.state_sound.specs.Soundness.{unit_waits}
use Rattle.state_sound.proofs.channels.any_waits.Goals as goal

pub loop-x-init : goal.loop-x-init
loop-x-init c = refl

pub returns-then-is_waiting : goal.returns-then-is_waiting
returns-then-is_waiting c = let h : c.loop-x.x-index < length c.args.units = omega arith in
    any_hit unit_waits _ (idle_unit false) _ _ h c.loop-x.invariant (sym c.is_waiting.ensures ∙ c.if-is_waiting.true)

pub loop-x-preserved : goal.loop-x-preserved
loop-x-preserved c = let h : c.loop-x.x-index < length c.args.units = omega arith in
    any_miss unit_waits _ (idle_unit false) _ _ h c.loop-x.invariant (sym c.is_waiting.ensures ∙ c.if-is_waiting.false)

pub returns : goal.returns
returns c = let h : length c.args.units ≤ c.loop-x.x-index = omega arith in
    any_done unit_waits _ (idle_unit false) _ _ h c.loop-x.invariant
