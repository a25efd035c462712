-- `planner::events::asked` meets its contract: by the test on the event. Assumes nothing.
use borrow.Author.Tests.{lt-ltb, le-ltb}
use Rattle.planner.proofs.events.asked.Goals as goal

pub returns-then-e-lt-DOUBLE : goal.returns-then-e-lt-DOUBLE
returns-then-e-lt-DOUBLE c = rw (lt-ltb _ _ c.if-e-lt-DOUBLE.true)

pub returns : goal.returns
returns c = rw (le-ltb _ _ c.if-e-lt-DOUBLE.false)
