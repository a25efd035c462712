-- `reel::opens::again` meets its contract: a close and an open in turn. Assumes nothing.
use Rattle.reel.specs.Steps.{again_by}
use Rattle.reel.proofs.opens.again.Goals as goal

pub returns : goal.returns
unfolding again_by
returns c = rw c.opening.ensures at c.in_turn.ensures
