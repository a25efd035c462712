-- `pack_start::thawed_state` meets its contract, from the contracts of `all_started` and `looked`. Assumes nothing.
use Rattle.pack_start.specs.Freeze.{thawed_state}
use Rattle.pack_start.proofs.freeze_thaw.thawed_state.Goals as goal

pub returns : goal.returns
unfolding thawed_state
returns c = simp (c.all_started.ensures, c.looked.ensures)
