-- `reel::writes::put` meets its contract, as `pack::answer` does. Assumes nothing.
use Rattle.reel.specs.Steps.{put_by}
use Rattle.reel.proofs.writes.put.Goals as goal

pub returns : goal.returns
unfolding put_by
returns c = c.answer.ensures
