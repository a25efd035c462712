-- `call_record::seal_block` meets its contract, from that of `seal_in` at the part-filled buffer. Assumes nothing.
use Rattle.call_record.specs.Blocks.{sealed_area}
use Rattle.call_record.proofs.blocks.seal_block.Goals as goal

pub returns : goal.returns
unfolding sealed_area
returns c = rw (← c.part_start-at.ensures.0, ← c.part_length-n.ensures) c.seal_in.ensures
