-- `state_image::units::position_at` meets its contract, number by number. Assumes nothing.
use Rattle.state_image.proofs.Joined.{two_there}
use lib.Seq.{get_or-drop}
use Rattle.state_image.proofs.units.position_at.Goals as goal

pub returns : goal.returns
returns c = let a = c.args in rw (c.two_at-records.ensures, c.two_at-marks.ensures, two_there a.b.now a.at 8, two_there a.b.now a.at 10, get_or-drop a.at a.b.now 7 0)
