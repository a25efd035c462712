-- `file_output::added` meets its contract, branch by branch, from the contracts of `put_side`, `slot_at`, `with_slot` and `part_words`. Assumes nothing.
use borrow.Author.Tests.{le-leb, lt-leb}
use Rattle.file_output.specs.Puts.{added}
use Rattle.file_output.proofs.puts.added.Goals as goal

pub returns-then-n-f : goal.returns-then-n-f
unfolding added
returns-then-n-f c = rw (← c.put_side-k.ensures, ← c.slot_at.ensures, ← c.part_words-n.ensures, le-leb _ _ c.if-n-f.true) c.with_slot.ensures

pub returns : goal.returns
unfolding added
returns c = rw (← c.put_side-k.ensures, ← c.slot_at.ensures, ← c.part_words-n.ensures, lt-leb _ _ c.if-n-f.false)
