-- `planner_text::lines::after_first` meets its contract: a text without a first line has none after it. Assumes nothing.
use native.Mathlib.Omega.{arith}
use Rattle.planner_text.proofs.Steps.{first_none, first_after}
use borrow.Author.Rules.{rules}
use Rattle.planner_text.proofs.lines.after_first.Goals as goal

pub returns-then-text-eq0 : goal.returns-then-text-eq0
returns-then-text-eq0 c = (first_none _ c.if-text-eq0.true, search rules)

pub returns : goal.returns
returns c = (first_after c.args.text.now _ (omega arith) c.after_line.ensures.0, c.after_line.ensures.2)
