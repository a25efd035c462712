use mathlib.Core.Path.{◌≡◌}
use Prim.Native.Nat.{◌≤◌, ◌+◌}
use lib.ListN.{drop}
use Rattle.area.specs.Lists.{count_of}
use Rattle.channel.specs.Units.{unit_works}
use Rattle.state_sound.proofs.channels.work_count.Given as goal

abbrev pub invariant-loop-x : goal.invariant-loop-x
invariant-loop-x l = (l.n ≤ l.x-index) × (l.n + count_of unit_works (drop l.x-index l.x-items) ≡ count_of unit_works l.x-items)
