-- `pool::masks::bit_of` meets its contract, branch by branch. Assumes nothing.
use Rattle.pool.proofs.FreeMasks.{no_bit, bit_word}
use Rattle.pool.proofs.masks.bit_of.Goals as goal

pub returns-then-b-ge-BUFFERS : goal.returns-then-b-ge-BUFFERS
returns-then-b-ge-BUFFERS c = no_bit _ c.if-b-ge-BUFFERS.true

pub returns : goal.returns
returns c = bit_word _ c.if-b-ge-BUFFERS.false
