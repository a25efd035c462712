-- `state_sound::full_fits` meets its contract, case by case. Assumes nothing.

use Rattle.state_sound.proofs.files.full_fits.Goals as goal

pub returns-in-Full : goal.returns-in-Full
returns-in-Full c = rw c.in-Full.is
