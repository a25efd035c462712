-- `state_sound::place_right` meets its contract, from the contract of `place_fits`. Assumes nothing.

use Rattle.state_sound.proofs.files.place_right.Goals as goal

pub returns : goal.returns
returns c = simp (c.place_fits.ensures, c.place_fits-2.ensures)
