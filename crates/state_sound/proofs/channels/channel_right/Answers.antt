-- `state_sound::channel_right` meets its contract, from the contracts of its four parts; a channel has ten units. Assumes nothing.
use mathlib.Core.Path.{◌≡◌}
use lib.ListN.{length}
use Rattle.channel.specs.Units.{unit_count}
use Rattle.state_sound.specs.Judged.{channel_right}
use Rattle.state_sound.proofs.channels.channel_right.Goals as goal

pub returns : goal.returns
unfolding channel_right
returns c = let x = c in
    let long : length x.args.c.units ≡ unit_count = x.well_formed.1.1.1.1.0.1.1.0.1.0.1 in
    simp (long, c.units_right-right.ensures, c.works_right-works.ensures, c.units_served-served.ensures)
