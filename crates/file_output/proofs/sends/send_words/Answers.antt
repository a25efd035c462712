-- `file_output::send_words` meets its contract, from the contracts of `extra`, `oldest`, `slot_at` and `full_words`. Assumes nothing.
use native.Mathlib.Omega.{arith}
use Rattle.file_output.specs.Sends.{send_words}
use Rattle.file_output.proofs.sends.send_words.Goals as goal

pub returns : goal.returns
unfolding send_words
returns c = (simp (c.extra-e.ensures.0, c.full_words-n.ensures, c.slot_at.ensures, c.oldest.ensures), omega (arith, c.extra-e.ensures.1, c.full_words-n.type_inv))
