-- `call_record::put_on` meets its contract: what put answers, and the file after it. Assumes nothing.
use Rattle.call_record.specs.Put.{put_on}
use Rattle.call_record.proofs.put.put_on.Goals as goal

pub returns : goal.returns
unfolding put_on
returns c = record { value = simp (c.file_change.ensures, c.put_in.ensures.value, c.after_put.ensures); area_after = c.put_in.ensures.area_after }
