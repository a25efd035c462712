-- `file_input::after_get` meets its contract, from the contracts of `after_found` and `looked_at`. Assumes nothing.
use Rattle.file_input.specs.Gets.{after_get}
use Rattle.file_input.proofs.gets.after_get.Goals as goal

pub returns : goal.returns
unfolding after_get
returns c = simp (c.after_found.ensures, c.looked_at.ensures)
