-- `state_image::units::request_at` meets its contract, number by number. Assumes nothing.
use lib.Seq.{get_or-drop}
use Rattle.state_image.proofs.units.request_at.Goals as goal

pub returns : goal.returns
returns c = let a = c.args in rw (c.op_of-op.ensures, get_or-drop a.at a.b.now 2 0, get_or-drop a.at a.b.now 3 0, get_or-drop a.at a.b.now 4 0, get_or-drop a.at a.b.now 5 0, get_or-drop a.at a.b.now 6 0)
