-- `state_image::files::arrival_at` meets its contract, number by number. Assumes nothing.
use Rattle.state_image.proofs.Joined.{two_there, four_there}
use lib.Seq.{get_or-drop}
use Rattle.state_image.proofs.files.arrival_at.Goals as goal

pub returns : goal.returns
returns c = let a = c.args in rw (c.two_at-numberread.ensures, c.four_at-sumread.ensures, c.two_at-number.ensures, c.four_at-sum.ensures, two_there a.b.now a.at 8, two_there a.b.now a.at 10, four_there a.b.now a.at 12, four_there a.b.now a.at 16, get_or-drop a.at a.b.now 2 0, get_or-drop a.at a.b.now 3 0)
