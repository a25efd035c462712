-- `reel::reads::got` meets its contract, as `pack::answer` does. Assumes nothing.
use Rattle.reel.specs.Steps.{got_by}
use Rattle.reel.proofs.reads.got.Goals as goal

pub returns : goal.returns
unfolding got_by
returns c = c.answer.ensures
