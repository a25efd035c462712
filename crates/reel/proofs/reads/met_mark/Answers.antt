-- `reel::reads::met_mark` meets its contract, as `ended` does. Assumes nothing.
use Rattle.reel.specs.Steps.{met_mark_by}
use Rattle.reel.proofs.reads.met_mark.Goals as goal

pub returns : goal.returns
unfolding met_mark_by
returns c = c.ended.ensures
