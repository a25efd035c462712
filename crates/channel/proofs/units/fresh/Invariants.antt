use mathlib.Core.Path.{◌≡◌}
use mathlib.Core.List.{◌++◌, map}
use Prim.Native.Nat.{◌-◌}
use lib.ListN.{length, take}
use Rattle.channel.specs.Units.{unit_count, idle_unit, bits_from}
use Rattle.channel.proofs.units.fresh.Given as goal

abbrev pub invariant-loop-i : goal.invariant-loop-i
invariant-loop-i l = (length l.units ≡ unit_count)
    × (take l.i l.units ++ map idle_unit (bits_from l.mask l.i (unit_count - l.i)) ≡ map idle_unit (bits_from l.mask 0 unit_count))
