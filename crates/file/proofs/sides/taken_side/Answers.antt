-- `file::taken_side` meets its contract, from the contracts of `lower_of` and `is_taken`. Assumes nothing.
use Rattle.file.specs.Sides.{taken_side}
use Rattle.file.proofs.sides.taken_side.Goals as goal

pub returns : goal.returns
unfolding taken_side
returns c = simp (c.lower_of.ensures, c.is_taken.ensures, c.is_taken-2.ensures)
