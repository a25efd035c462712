-- `session_frame::frames::frame_of` meets its contract, by whether the line is a text. Assumes nothing.
use mathlib.Core.Path.{sym, ◌∙◌}
use Rattle.session_frame.proofs.Laws.Sizes.{frame_text, frame_other}
use Rattle.session_frame.proofs.frames.frame_of.Goals as goal

pub returns-then-is_text : goal.returns-then-is_text
returns-then-is_text c = c.kind_of.ensures ∙ sym (frame_text c.args.line.now (sym c.is_text.ensures ∙ c.if-is_text.true))

pub returns : goal.returns
returns c = sym (frame_other c.args.line.now (sym c.is_text.ensures ∙ c.if-is_text.false))
