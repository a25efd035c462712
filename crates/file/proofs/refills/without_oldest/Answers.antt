-- `file::without_oldest` meets its contract, from the contracts of `emptied_at` and `oldest`. Assumes nothing.
use Rattle.file.specs.Fills.{without_oldest}
use Rattle.file.proofs.refills.without_oldest.Goals as goal

pub returns : goal.returns
unfolding without_oldest
returns c = simp (c.emptied_at.ensures, c.oldest.ensures)
