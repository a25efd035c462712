-- `state_sound::position_right` meets its contract, from the contracts of `position_in_range` and `noise_right`.
-- Assumes nothing.
use Rattle.state_sound.specs.Soundness.{position_right}
use Rattle.state_sound.proofs.channels.position_right.Goals as goal

pub returns : goal.returns
unfolding position_right
returns c = rw (c.position_in_range-inside.ensures, c.noise_right-noise.ensures)
