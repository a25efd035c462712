-- `file::part_side` meets its contract, from the contracts of `lower_of` and `is_part`. Assumes nothing.
use Rattle.file.specs.Sides.{part_side}
use Rattle.file.proofs.sides.part_side.Goals as goal

pub returns : goal.returns
unfolding part_side
returns c = simp (c.lower_of.ensures, c.is_part.ensures, c.is_part-2.ensures)
