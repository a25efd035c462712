-- `session_frame::frames::opening` meets its contract: each number is the field that its definition names. Assumes nothing.
use mathlib.Core.Path.{◌∙◌}
use Rattle.session_frame.specs.Frames.{open_from}
use Rattle.session_frame.proofs.frames.opening.Goals as goal

pub returns : goal.returns
unfolding open_from
returns c = c.if_sized.ensures ∙ rw (c.byte_at.ensures, c.byte_at-2.ensures, c.byte_at-3.ensures, c.byte_at-4.ensures, c.size_at.ensures, c.size_at-2.ensures)
