-- `descends` meets its contract: what is left below gives the answer of the whole. Assumes nothing.
use native.Mathlib.Omega.{arith}
use Rattle.routines.proofs.Laws.Lists.{falls_hit, falls_miss, falls_done}
use Rattle.routines.proofs.right.descends.Goals as goal

pub returns-then-above-pushed : goal.returns-then-above-pushed
returns-then-above-pushed c = falls_hit _ _ _ _ (omega arith) c.loop-i.invariant c.if-above-pushed.true

pub loop-i-preserved : goal.loop-i-preserved
loop-i-preserved c = falls_miss _ _ _ _ (omega arith) c.loop-i.invariant c.if-above-pushed.false

pub returns : goal.returns
returns c = falls_done _ _ _ _ (omega arith) c.loop-i.invariant
