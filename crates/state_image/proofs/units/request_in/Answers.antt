-- `state_image::units::request_in` meets its contract. One line for each way a unit stands. Assumes nothing.

use Rattle.state_image.proofs.units.request_in.Goals as goal

pub returns-in-Idle : goal.returns-in-Idle
returns-in-Idle c = rw c.in-Idle.is
