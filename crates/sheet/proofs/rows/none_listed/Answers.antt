-- `sheet::rows::none_listed` meets its contract, from that of `no_row`. Assumes nothing.
use Rattle.sheet.specs.Rows.{none_listed}
use Rattle.sheet.proofs.rows.none_listed.Goals as goal

pub returns : goal.returns
unfolding none_listed
returns c = simp c.no_row.ensures
