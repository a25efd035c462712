use mathlib.Core.Path.{◌≡◌}
use Rattle.routines.specs.Ranks.{under}
use Rattle.routines.specs.Right.{descends}
use Rattle.routines.proofs.right.descends.Given as goal

abbrev pub invariant-loop-i : goal.invariant-loop-i
invariant-loop-i l = descends l.initial.above (under l.pushed l.count) ≡ descends l.above (under l.pushed l.i)
