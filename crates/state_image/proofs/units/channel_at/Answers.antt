-- `state_image::units::channel_at` meets its contract. Its own numbers and its units follow one another. Assumes nothing.
use Rattle.state_image.proofs.Joined.{first_there, byte_there}
use lib.Seq.{drop-drop}
use mathlib.Core.Path.{sym}
use Rattle.state_image.proofs.units.channel_at.Goals as goal

pub returns : goal.returns
returns c = let a = c.args in rw (c.units_at-units.ensures, first_there a.b.now a.at, byte_there a.b.now a.at 1, sym (drop-drop 2 a.at a.b.now))
