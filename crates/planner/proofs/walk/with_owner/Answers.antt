-- `planner::walk::with_owner` meets its contract: a store past the end is none. Assumes nothing.
use mathlib.Core.Path.{sym}
use lib.Seq.{set_out}
use borrow.Author.Rules.{rules}
use Rattle.planner.proofs.walk.with_owner.Goals as goal

pub returns-else-at-lt-FILES : goal.returns-else-at-lt-FILES
returns-else-at-lt-FILES c = sym (set_out _ _ _ (search rules))
