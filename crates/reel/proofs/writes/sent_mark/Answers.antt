-- `reel::writes::sent_mark` meets its contract, as `ended` does. Assumes nothing.
use Rattle.reel.specs.Steps.{sent_mark_by}
use Rattle.reel.proofs.writes.sent_mark.Goals as goal

pub returns : goal.returns
unfolding sent_mark_by
returns c = c.ended.ensures
