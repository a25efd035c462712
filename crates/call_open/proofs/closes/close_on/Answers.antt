-- `call_open::close_on` meets its contract, from the contracts of `close_refusal`, `closed_file` and `file_change`. Assumes nothing.
use Rattle.call_open.specs.Close.{close_on}
use Rattle.call_open.proofs.closes.close_on.Goals as goal

pub returns : goal.returns
unfolding close_on
returns c = simp (c.file_change.ensures, c.close_refusal.ensures, c.closed_file.ensures)
