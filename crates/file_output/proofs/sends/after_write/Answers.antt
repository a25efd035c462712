-- `file_output::after_write` meets its contract, branch by branch, from the contract of `without_oldest`. Assumes nothing.
use Rattle.file_output.specs.Sends.{after_write}
use Rattle.file_output.proofs.sends.after_write.Goals as goal

pub returns-then-sent : goal.returns-then-sent
unfolding after_write
returns-then-sent c = rw c.if-sent.true c.without_oldest.ensures

pub returns : goal.returns
unfolding after_write
returns c = rw c.if-sent.false
