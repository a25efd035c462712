-- `reel::writes::sent` meets its contract, as `ended` does. Assumes nothing.
use Rattle.reel.specs.Steps.{sent_by}
use Rattle.reel.proofs.writes.sent.Goals as goal

pub returns : goal.returns
unfolding sent_by
returns c = c.ended.ensures
