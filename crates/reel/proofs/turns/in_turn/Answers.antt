-- `reel::turns::in_turn` meets its contract: the second call is given what the first left. Assumes nothing.
use Rattle.reel.proofs.InTurn.{in_turn_is}
use Rattle.reel.proofs.turns.in_turn.Goals as goal

pub returns : goal.returns
returns c = in_turn_is _ _ _ _ _ _ c.answer-x.ensures c.answer.ensures
