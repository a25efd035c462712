-- `reel::writes::sealed` meets its contract, as `pack::answer` does. Assumes nothing.
use Rattle.reel.specs.Steps.{sealed_by}
use Rattle.reel.proofs.writes.sealed.Goals as goal

pub returns : goal.returns
unfolding sealed_by
returns c = c.answer.ensures
