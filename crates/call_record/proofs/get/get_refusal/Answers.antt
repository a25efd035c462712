-- `call_record::get_refusal` meets its contract, from the contracts of its callees, a row at a time. Assumes nothing.
use Rattle.area.specs.Refusals.{lowest}
use Rattle.call_record.specs.Get.{get_rows, get_refusal}
use Rattle.call_record.proofs.get.get_refusal.Goals as goal

pub returns : goal.returns
unfolding lowest get_rows get_refusal
returns c = simp (c.row-4.ensures, c.row-3.ensures, c.row-2.ensures, c.row.ensures, c.are_words-right.ensures, c.got_words.ensures)
