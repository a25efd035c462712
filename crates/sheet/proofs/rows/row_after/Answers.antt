-- `sheet::rows::row_after` meets its contract, from those of `next_number` and `pick`. Assumes nothing.
use Rattle.sheet.specs.Rows.{row_after}
use Rattle.sheet.proofs.rows.row_after.Goals as goal

pub returns : goal.returns
unfolding row_after
returns c = simp (c.next_number-more.ensures, c.pick-answered.ensures, c.pick-reports.ensures)
