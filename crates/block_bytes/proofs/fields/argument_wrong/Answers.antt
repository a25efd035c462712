-- `block_bytes::fields::argument_wrong` meets its contract: it is the test itself. Assumes nothing.
use Rattle.block_bytes.specs.ByteBlocks.{argument_wrong}
use Rattle.block_bytes.proofs.fields.argument_wrong.Goals as goal

pub returns : goal.returns
unfolding argument_wrong
returns c = simp (c.other_fields.ensures, c.extra-e.ensures.0, c.has_check-check.ensures, c.has_sequence-sequence.ensures)
