-- `planner::events::opened_after` meets its contract: from the contracts of `file_of` and `opens`. Assumes nothing.
use mathlib.Core.Path.{ap₂}
use lib.ListN.{set}
use Rattle.planner.specs.Events.{opened_after}
use Rattle.planner.proofs.events.opened_after.Goals as goal

pub returns : goal.returns
unfolding opened_after
returns c = ap₂ (λ f b. set c.args.opened f b) c.file_of-file.ensures.0 c.opens.ensures
