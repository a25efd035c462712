-- `planner::events::count_after` meets its contract: by the test on the event. Assumes nothing.
use borrow.Author.Tests.{lt-ltb, le-ltb}
use native.Mathlib.Nat.{add-zero}
use borrow.Author.Rules.{rules}
use Rattle.planner.proofs.events.count_after.Goals as goal

pub returns-then-e-lt-CLOSE : goal.returns-then-e-lt-CLOSE
returns-then-e-lt-CLOSE c = (rw (lt-ltb _ _ c.if-e-lt-CLOSE.true), search rules)

pub returns : goal.returns
returns c = (rw (le-ltb _ _ c.if-e-lt-CLOSE.false, add-zero), search rules)
