use mathlib.Core.Path.{◌≡◌}
use Prim.Native.Nat.{◌<◌}
use lib.ListN.{drop}
use Rattle.planner_text.specs.Fields.{digits_from}
use Rattle.planner_text.proofs.fields.digits_from.Given as goal

abbrev pub invariant-loop-c : goal.invariant-loop-c
invariant-loop-c l = (l.v < 256) × (digits_from l.v (drop l.c-index l.field) ≡ digits_from 0 l.field)
