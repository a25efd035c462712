-- `pack_start::state_refusal` meets its contract, from the contracts of `is_sound` and `row`. Assumes nothing.
use Rattle.area.specs.Refusals.{lowest}
use Rattle.pack_start.specs.Freeze.{state_rows}
use Rattle.pack_start.proofs.freeze_thaw.state_refusal.Goals as goal

pub returns : goal.returns
unfolding lowest state_rows
returns c = simp (c.row.ensures, c.is_sound-good.ensures)
