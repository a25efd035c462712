use lib.Seq.{drop-drop}
use Rattle.state_image.proofs.Joined.{two_there, four_there}
use Rattle.image_sound.proofs.slots.has_only_words.Goals as goal

pub returns : goal.returns
returns c = let a = c.args in rw (c.four_at-sum.ensures, c.word_at-found.ensures, c.two_at-place.ensures, c.two_at-first.ensures, two_there a.b.now a.at 2, two_there a.b.now a.at 6, four_there a.b.now a.at 16, drop-drop 8 a.at a.b.now)
