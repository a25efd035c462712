-- `pack_start::fresh_state` meets its contract, from the contracts of `fresh`, `closed_file`, `all_free` and `no_routines`. Assumes nothing.
use Rattle.pack_start.specs.Fresh.{fresh_state}
use Rattle.pack_start.proofs.fresh_start.fresh_state.Goals as goal

pub returns : goal.returns
unfolding fresh_state
returns c = simp (c.fresh-a.ensures, c.fresh-b.ensures, c.fresh-c.ensures, c.fresh-d.ensures, c.fresh-e.ensures, c.closed_file.ensures, c.all_free.ensures, c.no_routines.ensures)
