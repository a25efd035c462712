-- `session_frame::frames::words_after` meets its contract, as it computes. Assumes nothing.
use Rattle.session_frame.specs.Frames.{word_count}
use Rattle.session_frame.proofs.frames.words_after.Goals as goal

pub returns : goal.returns
unfolding word_count
returns c = rw c.saturating_sub.ensures
