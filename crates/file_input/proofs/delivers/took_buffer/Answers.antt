-- `file_input::took_buffer` meets its contract, from the contracts of `empty_side` and `with_slot`. Assumes nothing.
use Rattle.file_input.specs.Delivers.{took_buffer}
use Rattle.file_input.proofs.delivers.took_buffer.Goals as goal

pub returns : goal.returns
unfolding took_buffer
returns c = simp (c.with_slot.ensures, c.empty_side.ensures)
