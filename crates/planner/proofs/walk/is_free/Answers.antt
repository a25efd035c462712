-- `planner::walk::is_free` meets its contract: past the end nothing is owned. Assumes nothing.
use mathlib.Core.Path.{ap}
use lib.Dec.{eqb}
use mathlib.Core.Path.{sym}
use lib.ListN.{get_or-eq_default}
use borrow.Author.Rules.{rules}
use Rattle.planner.proofs.walk.is_free.Goals as goal

pub returns : goal.returns
returns c = sym (ap (λ x. eqb x 0) (get_or-eq_default c.args.owner 0 {n = c.args.b} (search rules)))
