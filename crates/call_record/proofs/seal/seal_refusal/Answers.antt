-- `call_record::seal_refusal` meets its contract, from the contracts of its callees, a row at a time. Assumes nothing.
use Rattle.area.specs.Refusals.{lowest}
use Rattle.call_record.specs.Seal.{seal_rows, seal_refusal}
use Rattle.call_record.proofs.seal.seal_refusal.Goals as goal

pub returns : goal.returns
unfolding lowest seal_rows seal_refusal
returns c = simp (c.row-5.ensures, c.row-4.ensures, c.row-3.ensures, c.row-2.ensures, c.row.ensures, c.sums_spoilt-c2.ensures, c.has_part-part.ensures)
