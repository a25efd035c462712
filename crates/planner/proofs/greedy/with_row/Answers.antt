-- `planner::greedy::with_row` meets its contract: a store past the end is none. Assumes nothing.
use mathlib.Core.Path.{sym}
use lib.Seq.{set_out}
use borrow.Author.Rules.{rules}
use Rattle.planner.proofs.greedy.with_row.Goals as goal

pub returns-else-n-lt-FILES : goal.returns-else-n-lt-FILES
returns-else-n-lt-FILES c = sym (set_out _ _ _ (search rules))
