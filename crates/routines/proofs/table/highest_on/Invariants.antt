use mathlib.Core.Path.{◌≡◌}
use mathlib.Core.List.{map}
use lib.ListN.{length, drop}
use Rattle.channel.specs.Units.{unit_count}
use Rattle.routines.specs.Posts.{due_in}
use Rattle.routines.specs.Waits.{highest_on}
use Rattle.routines.proofs.table.highest_on.Given as goal

abbrev pub invariant-loop-i : goal.invariant-loop-i
invariant-loop-i l = (length l.units ≡ unit_count) × (highest_on l.channel 0 (map due_in l.units) l.initial.best ≡ highest_on l.channel l.i (map due_in (drop l.i l.units)) l.best)
