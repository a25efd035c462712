-- `state_sound::work_count` meets its contract, branch by branch, from the contract of `is_working`. Assumes nothing.
use mathlib.Core.Path.{sym, ◌∙◌}
use mathlib.Core.Bool.{false}
use Prim.Native.Nat.{◌≤◌, ◌<◌}
use native.Mathlib.Omega.{arith}
use lib.ListN.{length}
use Rattle.area.proofs.Walks.{count_hit, count_miss, count_done}
use Rattle.channel.specs.Units.{idle_unit, unit_works}
use Rattle.state_sound.proofs.channels.work_count.Goals as goal
use Rattle.state_sound.proofs.channels.work_count.Goals.{then-is_working, else-is_working}

pub loop-x-init : goal.loop-x-init
loop-x-init c = (omega arith, omega arith)

pub overflow_add-n : goal.overflow_add-n
overflow_add-n c = omega arith

pub loop-x-preserved : goal.loop-x-preserved
loop-x-preserved c =
    let h : c.loop-x.x-index < length c.args.units = omega arith in
    elim c.if-is_working.branch [
      | then-is_working w ↦ (omega arith, rw w.n-is (count_hit unit_works _ (idle_unit false) _ _ _ h c.loop-x.invariant.1 (sym c.is_working.ensures ∙ w.if-is_working.true)))
      | else-is_working w ↦ (omega arith, rw w.n-is (count_miss unit_works _ (idle_unit false) _ _ _ h c.loop-x.invariant.1 (sym c.is_working.ensures ∙ w.if-is_working.false)))
    ]

pub returns : goal.returns
returns c = let h : length c.args.units ≤ c.loop-x.x-index = omega arith in (count_done unit_works _ (idle_unit false) _ _ _ h c.loop-x.invariant.1, omega arith)
