-- `session_frame::frames::report_with` meets its contract: each number is the field that its definition names. Assumes nothing.
use mathlib.Core.Path.{◌∙◌}
use Rattle.session_frame.specs.Frames.{report_with}
use Rattle.session_frame.proofs.frames.report_with.Goals as goal

pub returns : goal.returns
unfolding report_with
returns c = c.if_worded.ensures ∙ rw (c.byte_at.ensures, c.byte_at-2.ensures, c.byte_at-3.ensures, c.words_after.ensures)
