-- `file_input::passed` meets its contract, branch by branch, from the contracts of `oldest`, `slot_at`, `without_oldest` and `is_used_up`. Assumes nothing.
use Rattle.file_input.specs.Gets.{passed}
use Rattle.file_input.proofs.gets.passed.Goals as goal

pub returns-then-is_used_up : goal.returns-then-is_used_up
unfolding passed
returns-then-is_used_up c = rw (← c.oldest.ensures, ← c.slot_at.ensures, ← c.is_used_up.ensures, c.if-is_used_up.true) c.without_oldest.ensures

pub returns : goal.returns
unfolding passed
returns c = rw (← c.oldest.ensures, ← c.slot_at.ensures, ← c.is_used_up.ensures, c.if-is_used_up.false)
