-- `reel::turns::ended` meets its contract: an ask and a report in turn. Assumes nothing.
use Rattle.reel.specs.Steps.{ended_by}
use Rattle.reel.proofs.turns.ended.Goals as goal

pub returns : goal.returns
unfolding ended_by
returns c = rw (← c.no_naming.ensures) c.in_turn.ensures
