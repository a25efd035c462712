-- `session_frame::frames::ask_with` meets its contract: each number is the field that its definition names. Assumes nothing.
use Rattle.session_frame.specs.Frames.{ask_with}
use Rattle.session_frame.proofs.frames.ask_with.Goals as goal

pub returns : goal.returns
unfolding ask_with
returns c = rw (c.byte_at.ensures, c.byte_at-2.ensures, c.byte_at-3.ensures)
