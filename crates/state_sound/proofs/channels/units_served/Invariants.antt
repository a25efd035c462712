use mathlib.Core.Path.{◌≡◌}
use lib.ListN.{length, drop}
use Rattle.area.specs.Numbered.{all_from}
use Rattle.channel.specs.Units.{unit_count}
use Rattle.state_sound.specs.Judged.{unit_served}
use Rattle.state_sound.proofs.channels.units_served.Given as goal

abbrev pub invariant-loop-u : goal.invariant-loop-u
invariant-loop-u l = (length l.units ≡ unit_count) × (all_from (unit_served l.files l.number) 0 l.units ≡ all_from (unit_served l.files l.number) l.u (drop l.u l.units))
