use mathlib.Core.Path.{◌≡◌}
use mathlib.Core.List.{◌++◌, map}
use lib.ListN.{take, drop}
use Rattle.planner.specs.Walk.{leave}
use Rattle.planner.proofs.walk.release.Given as goal

abbrev pub invariant-loop-x : goal.invariant-loop-x
invariant-loop-x l = map (leave l.v) l.initial.x-items ≡ take l.x-index l.x-items ++ map (leave l.v) (drop l.x-index l.x-items)
