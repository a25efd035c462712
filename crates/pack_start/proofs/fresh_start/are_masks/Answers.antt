-- `pack_start::are_masks` meets its contract, from the contract of `is_mask`. Assumes nothing.

use Rattle.pack_start.proofs.fresh_start.are_masks.Goals as goal

pub returns : goal.returns
returns c = simp (c.is_mask-a.ensures, c.is_mask-b.ensures, c.is_mask-c.ensures, c.is_mask-d.ensures, c.is_mask-e.ensures)
