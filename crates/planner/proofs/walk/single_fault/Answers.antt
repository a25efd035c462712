-- `planner::walk::single_fault` meets its contract: fault by fault, by the laws of `Faults`. Assumes nothing.
use mathlib.Core.Path.{sym, ◌∙◌}
use Rattle.planner.proofs.Faults.{single_outside, single_serves, single_good}
use borrow.Author.Rules.{rules}
use Rattle.planner.proofs.walk.single_fault.Goals as goal

pub returns-then-size-b : goal.returns-then-size-b
returns-then-size-b c = single_outside _ _ _ c.if-size-b.true

pub returns-then-is_free : goal.returns-then-is_free
returns-then-is_free c = single_good _ _ _ (search rules) (sym c.is_free.ensures ∙ c.if-is_free.true)

pub returns : goal.returns
returns c = single_serves _ _ _ (search rules) (sym c.is_free.ensures ∙ c.if-is_free.false)
