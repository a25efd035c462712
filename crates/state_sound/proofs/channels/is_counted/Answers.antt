-- `state_sound::is_counted` meets its contract, from the contracts of `attempt_limit`, `incomplete_limit` and `noise_limit`. Assumes nothing.

use Rattle.state_sound.proofs.channels.is_counted.Goals as goal

pub returns : goal.returns
returns c = simp (c.attempt_limit-most.ensures, c.incomplete_limit-words.ensures, c.noise_limit-noise.ensures)
