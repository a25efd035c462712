-- `state_sound::taken_right` meets its contract, from the contract of `taken_count`. Assumes nothing.
use Rattle.state_sound.proofs.Truths.{from_one_if}
use Rattle.state_sound.proofs.files.taken_right.Goals as goal

pub returns : goal.returns
returns c = simp (c.taken_count.ensures.0, c.from.ensures, from_one_if)
