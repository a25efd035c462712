-- `call_open::close_refusal` meets its contract, from the contracts of `has_request`, `has_unsent` and `row`. Assumes nothing.
use Rattle.area.specs.Refusals.{lowest}
use Rattle.call_open.specs.Close.{close_rows}
use Rattle.call_open.proofs.closes.close_refusal.Goals as goal

pub returns : goal.returns
unfolding lowest close_rows
returns c = simp (c.row-4.ensures, c.row-3.ensures, c.row-2.ensures, c.row.ensures, c.has_unsent-unsent.ensures, c.has_request-asked.ensures)
