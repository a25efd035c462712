-- `state_image::units::unit_at` meets its contract, number by number. Assumes nothing.
use Rattle.state_image.proofs.Joined.{first_there, byte_there}
use Rattle.state_image.proofs.units.unit_at.Goals as goal

pub returns : goal.returns
returns c = let a = c.args in rw (c.turn_of-turn.ensures, c.position_at-position.ensures, c.request_at-q.ensures, first_there a.b.now a.at, byte_there a.b.now a.at 1)
