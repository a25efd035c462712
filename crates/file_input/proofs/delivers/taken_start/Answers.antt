-- `file_input::taken_start` meets its contract, from the contracts of `start_at` and `taken_side`. Assumes nothing.

use Rattle.file_input.proofs.delivers.taken_start.Goals as goal

pub returns : goal.returns
returns c = (simp (c.start_at.ensures.0, c.taken_side.ensures), c.start_at.ensures.1)
