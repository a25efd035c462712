use mathlib.Core.Path.{◌≡◌}
use Prim.Native.Nat.{◌+◌, ◌≤◌, max}
use lib.ListN.{length, drop}
use Rattle.session_line.specs.Lines.{feed_at}
use Rattle.session_line.proofs.next.feed_from.Given as goal

abbrev pub invariant-loop-i : goal.invariant-loop-i
invariant-loop-i l = (l.i ≤ max l.start (length l.bytes)) × (l.at + feed_at (drop l.at l.bytes) ≡ l.i + feed_at (drop l.i l.bytes))
