-- `pack_routine::ran_in` meets its contract, from the contract of `with_routines`. Assumes nothing.

use Rattle.pack_routine.proofs.returns.ran_in.Goals as goal

pub returns : goal.returns
returns c = rw c.with_routines.ensures
