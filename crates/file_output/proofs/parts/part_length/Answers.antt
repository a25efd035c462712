-- `file_output::part_length` meets its contract, from the contracts of `part_side`, `slot_at` and `part_words`. Assumes nothing.
use Rattle.file_output.specs.Parts.{part_length}
use Rattle.file_output.proofs.parts.part_length.Goals as goal

pub returns : goal.returns
unfolding part_length
returns c = simp (c.part_words.ensures, c.slot_at.ensures, c.part_side.ensures)
