-- `reel::reads::brought` meets its contract, as `ended` does. Assumes nothing.
use Rattle.reel.specs.Steps.{brought_by}
use Rattle.reel.proofs.reads.brought.Goals as goal

pub returns : goal.returns
unfolding brought_by
returns c = c.ended.ensures
