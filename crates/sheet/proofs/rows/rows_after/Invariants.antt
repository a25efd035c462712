use mathlib.Core.Path.{◌≡◌}
use mathlib.Core.List.{◌++◌, map}
use lib.ListN.{length, take, drop}
use Rattle.sheet.specs.Rows.{most_listed, row_after}
use Rattle.sheet.proofs.rows.rows_after.Given as goal

abbrev pub invariant-loop-i : goal.invariant-loop-i
invariant-loop-i l = (length l.rows ≡ most_listed) × (map (row_after l.e l.k) l.initial.rows ≡ take l.i l.rows ++ map (row_after l.e l.k) (drop l.i l.rows))
