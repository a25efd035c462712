-- `file_output::after_put` meets its contract, branch by branch, from the contracts of `added`, `is_complete` and `sealed`. Assumes nothing.
use Rattle.file_output.specs.Puts.{after_put}
use Rattle.file_output.proofs.puts.after_put.Goals as goal

pub returns-then-is_complete : goal.returns-then-is_complete
unfolding after_put
returns-then-is_complete c = rw (← c.added-g.ensures, ← c.is_complete.ensures, c.if-is_complete.true) c.sealed.ensures

pub returns : goal.returns
unfolding after_put
returns c = rw (← c.added-g.ensures, ← c.is_complete.ensures, c.if-is_complete.false)
