-- `pack_routine::return_refusal` meets its contract, from the contracts of `is_main` and `row`. Assumes nothing.
use Rattle.area.specs.Refusals.{lowest}
use Rattle.pack_routine.specs.Ons.{return_rows}
use Rattle.pack_routine.proofs.ons.return_refusal.Goals as goal

pub returns : goal.returns
unfolding lowest return_rows
returns c = simp (c.row-2.ensures, c.row.ensures, c.is_main-none.ensures)
