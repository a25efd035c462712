-- `state_image::files::buffer_at` meets its contract, number by number. Assumes nothing.
use Rattle.state_image.proofs.Joined.{first_there, byte_there, two_there}
use Rattle.state_image.proofs.files.buffer_at.Goals as goal

pub returns : goal.returns
returns c = let a = c.args in rw (c.slot_of-slot.ensures, c.full_at-full.ensures, c.two_at-words.ensures, first_there a.b.now a.at, byte_there a.b.now a.at 1, two_there a.b.now a.at 4)
