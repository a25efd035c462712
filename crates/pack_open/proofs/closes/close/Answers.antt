-- `pack_open::close` meets its contract, from the contracts of `close_off`, `file_at`, `channel_at`, `close_on` and `answer_of`. Assumes nothing.
use Rattle.pack_open.specs.Close.{close_by}
use Rattle.pack_open.proofs.closes.close.Goals as goal

pub returns : goal.returns
unfolding close_by
returns c = simp (c.answer_of.ensures, c.close_on-x.ensures, c.channel_at-c.ensures, c.file_at-f.ensures, c.close_off-c1.ensures)
