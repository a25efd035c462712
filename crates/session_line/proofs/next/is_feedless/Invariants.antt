use mathlib.Core.Path.{◌≡◌}
use mathlib.Core.Bool.{not, ◌&&◌}
use Prim.Native.Nat.{ℕ}
use lib.Dec.{eqb}
use lib.ListN.{drop}
use Rattle.area.specs.Lists.{all_of}
use Rattle.session_line.specs.Lines.{feed, feedless}
use Rattle.session_line.proofs.next.is_feedless.Given as goal

abbrev pub invariant-loop-c : goal.invariant-loop-c
invariant-loop-c l = feedless l.piece ≡ (l.all && all_of (λ (x : ℕ). not (eqb x feed)) (drop l.c-index l.piece))
