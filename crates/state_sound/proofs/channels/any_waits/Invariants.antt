use mathlib.Core.Path.{◌≡◌}
use lib.ListN.{drop}
use Rattle.area.specs.Lists.{any_of}
use Rattle.state_sound.specs.Soundness.{unit_waits}
use Rattle.state_sound.proofs.channels.any_waits.Given as goal

abbrev pub invariant-loop-x : goal.invariant-loop-x
invariant-loop-x l = any_of unit_waits l.x-items ≡ any_of unit_waits (drop l.x-index l.x-items)
