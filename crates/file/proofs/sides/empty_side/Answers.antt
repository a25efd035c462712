-- `file::empty_side` meets its contract, from the contracts of `lower_of` and `is_empty`. Assumes nothing.
use Rattle.file.specs.Sides.{empty_side}
use Rattle.file.proofs.sides.empty_side.Goals as goal

pub returns : goal.returns
unfolding empty_side
returns c = simp (c.lower_of.ensures, c.is_empty.ensures, c.is_empty-2.ensures)
