-- From every place on the way the same buffer is the lowest free one.
use Rattle.std.proofs.Common.{◌≡◌, ◌+◌}
use lib.ListN.{drop}
use Rattle.planner.specs.Greedy.{first_free}
use Rattle.planner.proofs.greedy.first_free.Given as goal

abbrev pub invariant-loop-i : goal.invariant-loop-i
invariant-loop-i l = l.i + first_free (drop l.i l.owner) ≡ first_free l.owner
