-- `state_sound::parts_held` meets its contract, from the contract of `is_part`. Assumes nothing.
use Rattle.state_sound.proofs.Truths.{from_one_if}
use Rattle.state_sound.proofs.files.parts_held.Goals as goal

pub returns : goal.returns
returns c = simp (c.from.ensures, c.from-2.ensures, from_one_if, c.is_part.ensures, c.is_part-2.ensures)
