-- `session_line::next::is_feedless` meets its contract. What was found so far and what is left give the answer of the whole. Assumes nothing.
use mathlib.Core.Path.{refl}
use mathlib.Core.Bool.{not}
use Prim.Native.Nat.{ℕ}
use lib.Dec.{eqb}
use Rattle.session_line.specs.Lines.{feed, feedless}
use Rattle.session_line.proofs.Laws.Strides.{so_far, so_all}
use Rattle.session_line.proofs.next.is_feedless.Goals as goal

pub loop-c-init : goal.loop-c-init
unfolding feedless
loop-c-init c = refl

pub loop-c-preserved : goal.loop-c-preserved
loop-c-preserved c = so_far (λ (x : ℕ). not (eqb x feed)) c.args.piece.now c.loop-c.c-index _ c.loop-c.all c.loop-c-test.true c.loop-c.invariant

pub returns : goal.returns
returns c = so_all (λ (x : ℕ). not (eqb x feed)) c.args.piece.now c.loop-c.c-index _ c.loop-c.all c.loop-c-test.false c.loop-c.invariant
