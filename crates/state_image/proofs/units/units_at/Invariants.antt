use mathlib.Core.Path.{◌≡◌}
use lib.ListN.{replicate}
use Rattle.codec.proofs.Loops.{HasRead}
use mathlib.Core.Bool.{false}
use Rattle.channel.specs.Units.{unit_count, idle_unit}
use Rattle.state_image.specs.Units.{unit_codec}
use Rattle.state_image.proofs.units.units_at.Given as goal

abbrev pub invariant-loop-i : goal.invariant-loop-i
invariant-loop-i l = (l.initial.units ≡ replicate unit_count (idle_unit false)) × HasRead unit_codec unit_count l.n l.start l.b l.initial.units l.i l.at l.units
