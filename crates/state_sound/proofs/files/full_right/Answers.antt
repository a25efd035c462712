-- `state_sound::full_right` meets its contract, from the contract of `full_fits`. Assumes nothing.

use Rattle.state_sound.proofs.files.full_right.Goals as goal

pub returns : goal.returns
returns c = simp (c.full_fits.ensures, c.full_fits-2.ensures)
