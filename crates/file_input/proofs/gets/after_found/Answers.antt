-- `file_input::after_found` meets its contract, from the contracts of `slot_after`, `oldest`, `slot_at` and `with_slot`. Assumes nothing.
use Rattle.file_input.specs.Gets.{after_found}
use Rattle.file_input.proofs.gets.after_found.Goals as goal

pub returns : goal.returns
unfolding after_found
returns c = simp (c.with_slot.ensures, c.slot_after-y.ensures, c.slot_at.ensures, c.oldest-k.ensures)
