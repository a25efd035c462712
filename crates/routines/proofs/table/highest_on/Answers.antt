-- `highest_on` meets its contract: what is left of the units gives the answer of the whole. Assumes nothing.
use Prim.Native.Nat.{◌<◌}
use native.Mathlib.Omega.{arith}
use lib.ListN.{length}
use Rattle.routines.specs.Posts.{due_in, empty_post}
use Rattle.routines.proofs.Laws.Highest.{on_turn, on_done}
use Rattle.routines.proofs.table.highest_on.Goals as goal

pub loop-i-preserved : goal.loop-i-preserved
loop-i-preserved c = let h : c.loop-i.i < length c.args.units = omega arith in (c.loop-i.invariant.0, rw (c.higher-best.ensures, c.waiting.ensures) (on_turn due_in empty_post _ _ _ _ _ h c.loop-i.invariant.1))

pub returns : goal.returns
returns c = on_done due_in empty_post _ _ _ _ _ (omega arith) c.loop-i.invariant.1
