-- `file_input::found` meets its contract, branch by branch, from the contracts of `found_in`, `found_none`, `is_side`, `oldest`, `slot_at` and `start_at`. Assumes nothing.
use Rattle.file_input.specs.Gets.{found}
use Rattle.file_input.proofs.gets.found.Goals as goal

pub returns-then-is_side : goal.returns-then-is_side
unfolding found
returns-then-is_side c = rw (← c.oldest-k.ensures, ← c.is_side.ensures, c.if-is_side.true, ← c.slot_at.ensures, ← c.start_at.ensures.0) c.found_in.ensures

pub returns : goal.returns
unfolding found
returns c = rw (← c.oldest-k.ensures, ← c.is_side.ensures, c.if-is_side.false) c.found_none.ensures
