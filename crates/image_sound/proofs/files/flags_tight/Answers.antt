use Rattle.state_image.proofs.Joined.{first_there, byte_there}
use Rattle.image_sound.proofs.files.flags_tight.Goals as goal

pub returns : goal.returns
returns c = let a = c.args in rw (first_there a.b.now a.at, byte_there a.b.now a.at 3, byte_there a.b.now a.at 4, byte_there a.b.now a.at 5, byte_there a.b.now a.at 6, byte_there a.b.now a.at 7, byte_there a.b.now a.at 8)
