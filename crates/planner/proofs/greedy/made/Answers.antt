-- `planner::greedy::made` meets its contract. What is made so far, with what is left of the list, is the whole: `Upto` of `Rises`. Assumes nothing.
use mathlib.Core.Path.{ap, ◌∙◌}
use Prim.Native.Nat.{max}
use native.Mathlib.Omega.{arith}
use lib.ListN.{set}
use Rattle.planner.proofs.Rises.{upto_start, upto_turn, upto_end}
use borrow.Author.Rules.{rules}
use Rattle.planner.proofs.greedy.made.Goals as goal

pub loop-e-init : goal.loop-e-init
loop-e-init c = (search rules, search rules, upto_start _ _ c.requires)

pub loop-e-preserved : goal.loop-e-preserved
loop-e-preserved c = (
  omega (arith, c.count_after-count.ensures.1),
  search rules,
  upto_turn _ _ _ _ _ _ c.loop-e.invariant.2 _ _ _ _ c.loop-e-test.true c.loop-e.invariant.1 (c.max-size.ensures ∙ ap (max _) c.wanted.ensures.0) (c.with_row-more.ensures ∙ ap (set c.loop-e.rows c.loop-e.count) c.row_of.ensures) c.owners_after-after.ensures c.count_after-count.ensures.0,
)

pub returns : goal.returns
returns c = upto_end _ _ _ _ _ _ c.loop-e.invariant.2 c.loop-e-test.false
