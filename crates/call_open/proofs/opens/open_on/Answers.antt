-- `call_open::open_on` meets its contract, from the contracts of `open_refusal`, `opened_file` and `file_change`. Assumes nothing.
use Rattle.call_open.specs.Open.{open_on}
use Rattle.call_open.proofs.opens.open_on.Goals as goal

pub returns : goal.returns
unfolding open_on
returns c = simp (c.file_change.ensures, c.open_refusal-no.ensures, c.opened_file-after.ensures)
