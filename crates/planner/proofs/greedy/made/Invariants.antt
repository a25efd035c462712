use mathlib.Core.Path.{◌≡◌}
use Prim.Native.Nat.{◌≤◌}
use lib.ListN.{length}
use Rattle.planner.proofs.Rises.{Upto}
use Rattle.planner.proofs.greedy.made.Given as goal

abbrev pub invariant-loop-e : goal.invariant-loop-e
invariant-loop-e l = (l.count ≤ l.e-index) × (length l.rows ≡ 64) × Upto l.events l.owner l.rows l.size l.count l.e-index
