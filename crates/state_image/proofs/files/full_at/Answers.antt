-- `state_image::files::full_at` meets its contract, number by number. Assumes nothing.
use Rattle.state_image.proofs.Joined.{two_there}
use Rattle.state_image.proofs.files.full_at.Goals as goal

pub returns : goal.returns
returns c = let a = c.args in rw (c.arrival_at-arrival.ensures, c.two_at-place.ensures, c.two_at-words.ensures, two_there a.b.now a.at 4, two_there a.b.now a.at 6)
