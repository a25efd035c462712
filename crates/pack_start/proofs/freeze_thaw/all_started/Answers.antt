-- `pack_start::all_started` meets its contract, from the contract of `thaw`.
-- The loop: what is done and what is left give the whole. Assumes nothing.
use borrow.Author.Rules.{rules}
use mathlib.Core.Path.{refl, ◌∙◌}
use native.Mathlib.Omega.{arith}
use lib.ListN.{length-set}
use Rattle.channel_turns.specs.Starts.{thaw_of}
use Rattle.area.proofs.Maps.{map_step, map_done}
use Rattle.pack_start.proofs.freeze_thaw.all_started.Goals as goal

pub loop-c-init : goal.loop-c-init
loop-c-init c = (search rules, refl)

pub loop-c-preserved : goal.loop-c-preserved
loop-c-preserved c = (
  length-set c.loop-c.c-items c.loop-c.c-index _ ∙ c.loop-c.invariant.0,
  rw c.thaw.ensures (map_step thaw_of _ c.loop-c.c-items c.loop-c.c-index _ (omega arith) c.loop-c.invariant.1),
)

pub returns : goal.returns
returns c = map_done thaw_of _ c.loop-c.c-items c.loop-c.c-index (omega arith) c.loop-c.invariant.1
