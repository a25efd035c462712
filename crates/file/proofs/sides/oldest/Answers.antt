-- `file::oldest` meets its contract, from the contracts of `lower_of` and `is_full`. Assumes nothing.
use Rattle.file.specs.Sides.{oldest}
use Rattle.file.proofs.sides.oldest.Goals as goal

pub returns : goal.returns
unfolding oldest
returns c = simp (c.lower_of.ensures, c.is_full-low.ensures, c.is_full-high.ensures)
