-- `file_output::part_start` meets its contract, from the contracts of `part_side` and `start_at`. Assumes nothing.
use Rattle.file_output.specs.Parts.{part_start}
use Rattle.file_output.proofs.parts.part_start.Goals as goal

pub returns : goal.returns
unfolding part_start
returns c = (simp (c.start_at.ensures.0, c.part_side.ensures), c.start_at.ensures.1)
