use mathlib.Core.Path.{◌≡◌}
use mathlib.Core.List.{◌++◌, map}
use Prim.Native.Nat.{◌-◌, ◌≤◌}
use lib.ListN.{length, take, drop}
use Rattle.session_line.specs.Lines.{lines_of}
use Rattle.planner_text.specs.Texts.{event_of}
use Rattle.planner_text.proofs.lines.read_events.Given as goal

abbrev pub invariant-loop-n : goal.invariant-loop-n
invariant-loop-n l = (length l.events ≡ length l.initial.events) × (l.i ≤ length l.text) × (take l.n l.events ++ take (length l.initial.events - l.n) (map event_of (lines_of (drop l.i l.text))) ≡ take (length l.initial.events) (map event_of (lines_of (drop l.initial.i l.text))))
