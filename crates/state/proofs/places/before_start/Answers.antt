-- `state::before_start` meets its contract, from the contracts of `fresh`, `closed_file` and `no_routines`. Assumes nothing.
use Rattle.state.specs.Places.{before_start}
use Rattle.state.proofs.places.before_start.Goals as goal

pub returns : goal.returns
unfolding before_start
returns c = simp (c.fresh.ensures, c.closed_file.ensures, c.no_routines.ensures)
