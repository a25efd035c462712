-- `file_input::get` meets its contract, from the contracts of `after_found`, `found` and `looked_at`. Assumes nothing.
use Rattle.file_input.specs.Gets.{get_from}
use Rattle.file_input.proofs.gets.get.Goals as goal

pub returns : goal.returns
unfolding get_from
returns c = simp (c.found.ensures, c.after_found.ensures, c.looked_at-g.ensures)
