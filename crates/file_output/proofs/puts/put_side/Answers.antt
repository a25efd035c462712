-- `file_output::put_side` meets its contract, branch by branch, from the contracts of `empty_side`, `is_side` and `part_side`. Assumes nothing.
use Rattle.file_output.specs.Puts.{put_side}
use Rattle.file_output.proofs.puts.put_side.Goals as goal

pub returns-then-is_side : goal.returns-then-is_side
unfolding put_side
returns-then-is_side c = rw (← c.part_side-k.ensures, ← c.is_side.ensures, c.if-is_side.true)

pub returns : goal.returns
unfolding put_side
returns c = rw (← c.part_side-k.ensures, ← c.is_side.ensures, c.if-is_side.false) c.empty_side.ensures
