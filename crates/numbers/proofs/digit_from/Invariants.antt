use mathlib.Core.Path.{◌≡◌}
use Prim.Native.Nat.{◌+◌, ◌≤◌, max}
use lib.ListN.{length, drop}
use Rattle.numbers.specs.Decimal.{gap}
use Rattle.numbers.proofs.digit_from.Given as goal

abbrev pub invariant-loop-i : goal.invariant-loop-i
invariant-loop-i l = (l.i ≤ max l.at (length l.text)) × (l.i + gap (drop l.i l.text) ≡ l.at + gap (drop l.at l.text))
