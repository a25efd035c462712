-- `file_output::send_start` meets its contract, from the contracts of `oldest` and `start_at`. Assumes nothing.
use Rattle.file_output.specs.Sends.{send_start}
use Rattle.file_output.proofs.sends.send_start.Goals as goal

pub returns : goal.returns
unfolding send_start
returns c = (simp (c.start_at.ensures.0, c.oldest.ensures), c.start_at.ensures.1)
