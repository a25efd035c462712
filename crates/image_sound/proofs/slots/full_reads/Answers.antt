use Rattle.state_image.proofs.Joined.{two_there}
use Rattle.image_sound.proofs.slots.full_reads.Goals as goal

pub returns : goal.returns
returns c = let a = c.args in rw (c.is_arrival-arrived.ensures, c.two_at-place.ensures, c.arrival_at-a.ensures, two_there a.b.now a.at 6)
