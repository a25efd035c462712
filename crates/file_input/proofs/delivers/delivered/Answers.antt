-- `file_input::delivered` meets its contract, from the contracts of `filled_at` and `taken_side`. Assumes nothing.
use Rattle.file_input.specs.Delivers.{delivered}
use Rattle.file_input.proofs.delivers.delivered.Goals as goal

pub returns : goal.returns
unfolding delivered
returns c = simp (c.filled_at.ensures, c.taken_side.ensures)
