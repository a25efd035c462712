-- `planner::greedy::freed` meets its contract. What is done and what is left give the whole. Assumes nothing.
use Prim.Native.Nat.{◌<◌}
use native.Mathlib.Omega.{arith}
use lib.ListN.{length}
use Rattle.planner.specs.Walk.{leave, released}
use Rattle.area.proofs.Maps.{map_step, map_done}
use Rattle.planner.proofs.greedy.freed.Goals as goal

pub loop-x-preserved : goal.loop-x-preserved
loop-x-preserved c =
    let t = c.loop-x in
    let h : t.x-index < length t.x-items = omega arith in
    rw c.unless.ensures (map_step (leave c.args.v) _ t.x-items t.x-index 0 h t.invariant)

pub returns : goal.returns
unfolding released
returns c = map_done (leave c.args.v) _ c.loop-x.x-items c.loop-x.x-index (omega arith) c.loop-x.invariant
