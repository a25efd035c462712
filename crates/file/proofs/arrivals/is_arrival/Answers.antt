-- `file::is_arrival` meets its contract, from the contracts of `is_checked`, `is_exact` and `is_read_error`. Assumes nothing.
use Rattle.file.specs.Arrivals.{is_arrival}
use Rattle.file.proofs.arrivals.is_arrival.Goals as goal

pub returns : goal.returns
unfolding is_arrival
returns c = simp (c.is_checked-fits.ensures, c.is_exact-untold.ensures, c.is_read_error.ensures)
