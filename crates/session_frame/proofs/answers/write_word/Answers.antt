-- `session_frame::answers::write_word` meets its contract: five pastes, one right after the other, are one. Assumes nothing.
use mathlib.Core.Path.{◌∙◌}
use Rattle.session_frame.proofs.Laws.Writes.{word_written}
use Rattle.session_frame.proofs.answers.write_word.Goals as goal

pub returns : goal.returns
returns c = let a = c.args in
    word_written a.at a.out.now a.w _ _ _ _ _ c.requires (c.write_byte.ensures ∙ rw c.low.ensures) (c.write_byte-2.ensures ∙ rw c.low-2.ensures) (c.write_byte-3.ensures ∙ rw c.low-3.ensures) (c.write_byte-4.ensures ∙ rw c.low-4.ensures) (c.write_byte-5.ensures ∙ rw c.low-5.ensures)
