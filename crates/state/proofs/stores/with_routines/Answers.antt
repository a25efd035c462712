-- `state::with_routines` meets its contract: one field is stored. Assumes nothing.
use mathlib.Core.Path.{refl}
use Rattle.state.specs.Stores.{with_routines}
use Rattle.state.proofs.stores.with_routines.Goals as goal

pub returns : goal.returns
unfolding with_routines
returns c = refl
