-- `file_input::looked_at` meets its contract, from the contract of `passed`. Assumes nothing.
use Rattle.file_input.specs.Gets.{looked_at}
use Rattle.file_input.proofs.gets.looked_at.Goals as goal

pub returns : goal.returns
unfolding looked_at
returns c = simp (c.passed-2.ensures, c.passed.ensures)
