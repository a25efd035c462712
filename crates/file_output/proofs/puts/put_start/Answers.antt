-- `file_output::put_start` meets its contract, from the contracts of `put_side`, `slot_at`, `start_at` and `part_words`. Assumes nothing.
use native.Mathlib.Omega.{arith}
use Rattle.file_output.specs.Puts.{put_start}
use Rattle.file_output.proofs.puts.put_start.Goals as goal

pub returns : goal.returns
unfolding put_start
returns c = (simp (c.part_words.ensures, c.start_at.ensures.0, c.slot_at.ensures, c.put_side-k.ensures), omega (arith, c.start_at.ensures.1, c.part_words.type_inv))
