use mathlib.Core.Path.{◌≡◌}
use Prim.Native.Nat.{◌+◌, ◌≤◌, max}
use lib.ListN.{length, drop}
use Rattle.numbers.specs.Decimal.{digits, value_from}
use Rattle.numbers.proofs.next.Given as goal

abbrev pub invariant-loop-i : goal.invariant-loop-i
invariant-loop-i l = (l.i ≤ max l.start (length l.text)) × (value_from l.value (drop l.i l.text) ≡ value_from 0 (drop l.start l.text)) × (l.i + digits (drop l.i l.text) ≡ l.start + digits (drop l.start l.text))
