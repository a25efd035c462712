-- `pool::masks::free_mask` meets its contract, from the contracts of `all_free` and `all_held`. Assumes nothing.
use Rattle.pool.proofs.FreeMasks.{mask_word}
use Rattle.pool.proofs.masks.free_mask.Goals as goal

pub returns : goal.returns
returns c = mask_word _ _ _ _ c.all_free.ensures c.all_held.ensures
