-- `call_record::skip_refusal` meets its contract, from the contracts of its callees, a row at a time. Assumes nothing.
use Rattle.area.specs.Refusals.{lowest}
use Rattle.call_record.specs.Skip.{skip_rows, skip_refusal}
use Rattle.call_record.proofs.skip.skip_refusal.Goals as goal

pub returns : goal.returns
unfolding lowest skip_rows skip_refusal
returns c = simp (c.row-4.ensures, c.row-3.ensures, c.row-2.ensures, c.row.ensures, c.has_full-full.ensures)
