-- `session_frame::frames::naming_in` meets its contract: each number is the field that its definition names. Assumes nothing.
use Rattle.session_frame.specs.Frames.{naming_in}
use Rattle.session_frame.proofs.frames.naming_in.Goals as goal

pub returns : goal.returns
unfolding naming_in
returns c = rw (c.byte_at.ensures, c.byte_at-2.ensures)
