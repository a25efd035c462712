-- `state_sound::place_fits` meets its contract, case by case. Assumes nothing.

use Rattle.state_sound.proofs.files.place_fits.Goals as goal

pub returns-in-Full : goal.returns-in-Full
returns-in-Full c = rw c.in-Full.is
