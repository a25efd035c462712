-- `file::filled_at` meets its contract, from the contracts of `next_number`, `turned_by` and `with_slot`. Assumes nothing.
use Rattle.file.specs.Fills.{filled_at}
use Rattle.file.proofs.refills.filled_at.Goals as goal

pub returns : goal.returns
unfolding filled_at
returns c = simp (c.with_slot.ensures, c.turned_by.ensures, c.next_number-next.ensures.0)
