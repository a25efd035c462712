-- `planner::walk::check_from` meets its contract. What is left of the events and rows gives the verdict of the whole, turn by turn. Assumes nothing.
use mathlib.Core.Path.{refl, sym, ◌∙◌}
use native.Mathlib.Omega.{arith}
use Rattle.planner.proofs.Turns.{check_fault, check_turn, check_left, check_done}
use borrow.Author.Rules.{rules}
use Rattle.planner.proofs.walk.check_from.Goals as goal

pub loop-e-init : goal.loop-e-init
loop-e-init c = (search rules, refl)

pub loop-e-preserved : goal.loop-e-preserved
loop-e-preserved c = (
  omega (arith, c.count_after-n.ensures.1),
  check_turn _ _ _ _ _ _ _ c.loop-e.invariant.1 _ _ c.loop-e-test.true (sym c.event_fault.ensures ∙ c.in_default.is) c.owners_next-after.ensures c.count_after-n.ensures.0,
)

pub returns-in-Err : goal.returns-in-Err
returns-in-Err c = check_fault _ _ _ _ _ _ _ c.loop-e.invariant.1 _ c.loop-e-test.true (sym c.event_fault.ensures ∙ c.in-Err.is)

pub returns-then-n-rows : goal.returns-then-n-rows
returns-then-n-rows c = check_left _ _ _ _ _ _ _ c.loop-e.invariant.1 c.loop-e-test.false c.if-n-rows.true

pub returns : goal.returns
returns c = check_done _ _ _ _ _ _ _ c.loop-e.invariant.1 c.loop-e-test.false c.if-n-rows.false
