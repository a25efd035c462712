use mathlib.Core.Path.{◌≡◌}
use Prim.Native.Nat.{◌+◌, ◌≤◌}
use lib.ListN.{drop}
use Rattle.area.specs.Lists.{count_of}
use Rattle.planner_text.specs.Fields.{blank}
use Rattle.planner_text.proofs.fields.blanks.Given as goal

abbrev pub invariant-loop-c : goal.invariant-loop-c
invariant-loop-c l = (l.n ≤ l.c-index) × (l.n + count_of blank (drop l.c-index l.line) ≡ count_of blank l.line)
