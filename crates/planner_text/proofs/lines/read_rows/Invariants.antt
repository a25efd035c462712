use mathlib.Core.Path.{◌≡◌}
use mathlib.Core.List.{◌++◌, map}
use Prim.Native.Nat.{◌-◌, ◌≤◌}
use lib.ListN.{length, take, drop}
use Rattle.session_line.specs.Lines.{lines_of}
use Rattle.planner_text.specs.Texts.{row_of}
use Rattle.planner_text.proofs.lines.read_rows.Given as goal

abbrev pub invariant-loop-n : goal.invariant-loop-n
invariant-loop-n l = (length l.rows ≡ length l.initial.rows) × (l.i ≤ length l.text) × (take l.n l.rows ++ take (length l.initial.rows - l.n) (map row_of (lines_of (drop l.i l.text))) ≡ take (length l.initial.rows) (map row_of (lines_of (drop l.initial.i l.text))))
