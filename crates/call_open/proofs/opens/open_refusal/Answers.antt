-- `call_open::open_refusal` meets its contract, from the contracts of `is_declared`, `buffers_for`, `sizes_fit` and `row`. Assumes nothing.
use Rattle.area.specs.Refusals.{lowest}
use Rattle.call_open.specs.Open.{open_rows}
use Rattle.call_open.proofs.opens.open_refusal.Goals as goal

pub returns : goal.returns
unfolding lowest open_rows
returns c = simp (c.row-5.ensures, c.row-4.ensures, c.row-3.ensures, c.row-2.ensures, c.row.ensures, c.sizes_fit-fit.ensures, c.buffers_for-want.ensures, c.is_declared-known.ensures)
