-- `pool::masks::all_free` meets its contract, branch by branch. Assumes nothing.
use Rattle.pool.proofs.FreeMasks.{one_under, some_word, all_word}
use Rattle.pool.proofs.masks.all_free.Goals as goal

pub returns-then-m-ge-BUFFERS : goal.returns-then-m-ge-BUFFERS
returns-then-m-ge-BUFFERS c = all_word _ c.if-m-ge-BUFFERS.true

pub overflow_sub-result : goal.overflow_sub-result
overflow_sub-result c = one_under _ c.if-m-ge-BUFFERS.false

pub returns : goal.returns
returns c = some_word _ c.if-m-ge-BUFFERS.false
