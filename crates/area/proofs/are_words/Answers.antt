-- `area::are_words` meets its contract. What is or'ed so far, with what is left, says of every word whether it is below 2^36.
-- Assumes nothing.
use mathlib.Core.Path.{sym, ◌∙◌}
use native.Mathlib.Omega.{arith}
use Rattle.area.proofs.Tall.{low36, tall_step, tall_done}
use Rattle.area.proofs.are_words.Goals as goal

pub loop-word-preserved : goal.loop-word-preserved
loop-word-preserved c = let t = c.loop-word in tall_step c.args.words.now t.any t.word-index (omega arith) ∙ t.invariant

pub returns : goal.returns
returns c = let t = c.loop-word in sym (tall_done c.args.words.now (low36 t.any) t.word-index (omega arith)) ∙ t.invariant
