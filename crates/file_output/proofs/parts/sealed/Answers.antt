-- `file_output::sealed` meets its contract, from the contracts of `part_length`, `no_arrival`, `filled_at` and `part_side`. Assumes nothing.
use Rattle.file_output.specs.Parts.{sealed_file}
use Rattle.file_output.proofs.parts.sealed.Goals as goal

pub returns : goal.returns
unfolding sealed_file
returns c = simp (c.filled_at.ensures, c.no_arrival.ensures, c.part_length-words.ensures, c.part_side.ensures)
