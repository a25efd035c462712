use mathlib.Core.Path.{◌≡◌}
use Prim.Native.Nat.{◌+◌, ◌*◌}
use lib.ListN.{drop}
use Rattle.session_line.specs.Lines.{feed_at}
use Rattle.session_line.proofs.next.feedless_from.Given as goal

abbrev pub invariant-loop-k : goal.invariant-loop-k
invariant-loop-k l = l.at + feed_at (drop l.at l.bytes) ≡ l.at + l.k * 16 + feed_at (drop (l.at + l.k * 16) l.bytes)
