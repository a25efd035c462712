use mathlib.Core.Path.{◌≡◌}
use Prim.Native.Nat.{◌≤◌}
use lib.ListN.{drop}
use Rattle.planner.specs.Walk.{nobody, check_from}
use Rattle.planner.proofs.walk.check_from.Given as goal

abbrev pub invariant-loop-e : goal.invariant-loop-e
invariant-loop-e l = (l.n ≤ l.e-index) × (check_from l.size l.owner l.n (drop l.e-index l.events) (drop l.n l.rows) ≡ check_from l.size nobody 0 l.events l.rows)
