-- `call_record::skip_on` meets its contract: refused, or the file without its oldest block. Assumes nothing.
use Rattle.call_record.specs.Skip.{skip_on}
use Rattle.call_record.proofs.skip.skip_on.Goals as goal

pub returns : goal.returns
unfolding skip_on
returns c = simp (c.file_change.ensures, c.skip_refusal.ensures, c.without_oldest.ensures)
