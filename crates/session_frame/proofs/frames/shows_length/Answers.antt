-- `session_frame::frames::shows_length` meets its contract, as it computes. Assumes nothing.
use Rattle.session_frame.specs.Frames.{shows_length}
use Rattle.session_frame.proofs.frames.shows_length.Goals as goal

pub returns : goal.returns
unfolding shows_length
returns c = rw c.saturating_sub.ensures
