-- `routines::highest_in` meets its contract: what is left of the channels gives the answer of the whole. Assumes nothing.
use Prim.Native.Nat.{◌<◌}
use native.Mathlib.Omega.{arith}
use lib.ListN.{length}
use Rattle.routines.specs.Posts.{dues_in, no_posts}
use Rattle.routines.specs.Waits.{highest}
use Rattle.routines.proofs.Laws.Highest.{from_turn, from_done}
use Rattle.routines.proofs.table.highest_in.Goals as goal

pub loop-i-preserved : goal.loop-i-preserved
loop-i-preserved c = let h : c.loop-i.i < length c.args.posts = omega arith in (c.loop-i.invariant.0, rw c.highest_on-best.ensures (from_turn dues_in no_posts _ _ _ _ h c.loop-i.invariant.1))

pub returns : goal.returns
unfolding highest
returns c = rw c.main_program-best.ensures at (from_done dues_in no_posts _ _ _ _ (omega arith) c.loop-i.invariant.1)
