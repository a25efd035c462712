-- `state_sound::part_right` meets its contract, from the contracts of `part_fits` and `parts_held`. Assumes nothing.
use Rattle.state_sound.proofs.Truths.{from_one_if}
use Rattle.state_sound.proofs.files.part_right.Goals as goal

pub returns : goal.returns
returns c = simp (c.parts_held.ensures, c.from.ensures, from_one_if, c.part_fits-a.ensures, c.part_fits-b.ensures)
