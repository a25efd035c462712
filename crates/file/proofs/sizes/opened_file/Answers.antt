-- `file::opened_file` meets its contract, from the contracts of `empty_buffer` and `second_number`. Assumes nothing.
use Rattle.file.specs.Sizes.{opened_file}
use Rattle.file.proofs.sizes.opened_file.Goals as goal

pub returns : goal.returns
unfolding opened_file
returns c = simp (c.empty_buffer.ensures, c.empty_buffer-2.ensures, c.second_number.ensures)
