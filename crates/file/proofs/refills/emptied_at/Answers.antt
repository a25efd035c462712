-- `file::emptied_at` meets its contract, from the contract of `with_slot`. Assumes nothing.
use Rattle.file.specs.Fills.{emptied_at}
use Rattle.file.proofs.refills.emptied_at.Goals as goal

pub returns : goal.returns
unfolding emptied_at
returns c = simp c.with_slot.ensures
