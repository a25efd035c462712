use mathlib.Core.Path.{◌≡◌}
use Prim.Native.Nat.{◌≤◌}
use lib.ListN.{drop}
use Rattle.planner.specs.Events.{judge_from, judge_of}
use Rattle.planner.proofs.events.judge.Given as goal

abbrev pub invariant-loop-i : goal.invariant-loop-i
invariant-loop-i l = (l.n ≤ l.i) × (judge_from l.opened l.n l.i (drop l.i l.events) ≡ judge_of l.limit l.events)
