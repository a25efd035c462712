-- `state_sound::is_no_buffer` meets its contract, from the contract of `is_empty`. Assumes nothing.

use Rattle.state_sound.proofs.files.is_no_buffer.Goals as goal

pub returns : goal.returns
returns c = simp c.is_empty.ensures
