-- `call_record::seal_on` meets its contract: what seal answers, and the file after it. Assumes nothing.
use Rattle.call_record.specs.Seal.{seal_on}
use Rattle.call_record.proofs.seal.seal_on.Goals as goal

pub returns : goal.returns
unfolding seal_on
returns c = record { value = simp (c.file_change.ensures, c.seal_in_area-no.ensures.value, c.sealed-after.ensures); area_after = c.seal_in_area-no.ensures.area_after }
