-- `session_frame::frames::put` meets its contract: each number is the field that its definition names. Assumes nothing.
use mathlib.Core.Path.{◌∙◌}
use Rattle.session_frame.specs.Frames.{put_from}
use Rattle.session_frame.proofs.frames.put.Goals as goal

pub returns : goal.returns
unfolding put_from
returns c = c.if_worded.ensures ∙ rw (c.byte_at.ensures, c.words_after.ensures)
