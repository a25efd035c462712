-- `file_input::gave_back` meets its contract, from the contracts of `emptied_at` and `taken_side`. Assumes nothing.
use Rattle.file_input.specs.Delivers.{gave_back}
use Rattle.file_input.proofs.delivers.gave_back.Goals as goal

pub returns : goal.returns
unfolding gave_back
returns c = simp (c.emptied_at.ensures, c.taken_side.ensures)
