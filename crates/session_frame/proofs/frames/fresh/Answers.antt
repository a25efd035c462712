-- `session_frame::frames::fresh` meets its contract: each number is the field that its definition names. Assumes nothing.
use mathlib.Core.Path.{◌∙◌}
use Rattle.session_frame.specs.Frames.{fresh_from}
use Rattle.session_frame.proofs.frames.fresh.Goals as goal

pub returns : goal.returns
unfolding fresh_from
returns c = c.if_sized.ensures ∙ rw (c.size_at.ensures, c.size_at-2.ensures, c.size_at-3.ensures, c.size_at-4.ensures, c.size_at-5.ensures, c.byte_at.ensures, c.size_at-6.ensures)
