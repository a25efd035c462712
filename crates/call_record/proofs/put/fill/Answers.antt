-- `call_record::fill` meets its contract, from that of `copy_in` at the place of the put. Assumes nothing.
use Rattle.call_record.specs.Put.{filled_area}
use Rattle.call_record.proofs.put.fill.Goals as goal

pub returns : goal.returns
unfolding filled_area
returns c = rw (← c.put_start.ensures.0) c.copy_in.ensures.area_after
