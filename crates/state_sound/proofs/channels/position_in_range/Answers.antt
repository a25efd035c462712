-- `state_sound::position_in_range` meets its contract, from the contract of `is_at_start`.
-- Assumes nothing.

use Rattle.state_sound.proofs.channels.position_in_range.Goals as goal

pub returns : goal.returns
returns c = rw c.is_at_start-zero.ensures
