-- `pack_start::frozen_state` meets its contract. Assumes nothing.
use mathlib.Core.Path.{refl}
use Rattle.pack_start.specs.Freeze.{frozen_state}
use Rattle.pack_start.proofs.freeze_thaw.frozen_state.Goals as goal

pub returns : goal.returns
unfolding frozen_state
returns c = refl
