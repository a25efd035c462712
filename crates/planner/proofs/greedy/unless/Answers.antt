-- `planner::greedy::unless` meets its contract: by its test. Assumes nothing.
use borrow.Author.Tests.{eq-eqb, ne_eqb}
use Rattle.planner.proofs.greedy.unless.Goals as goal

pub returns-then-x-v : goal.returns-then-x-v
returns-then-x-v c = rw (eq-eqb _ _ c.if-x-v.true)

pub returns : goal.returns
returns c = rw (ne_eqb _ _ c.if-x-v.false)
