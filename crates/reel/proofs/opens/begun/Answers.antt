-- `reel::opens::begun` meets its contract: a fresh start and an open in turn. Assumes nothing.
use Rattle.reel.proofs.InTurn.{begun_is}
use Rattle.reel.proofs.opens.begun.Goals as goal

pub returns : goal.returns
returns c = begun_is _ _ c.args.o _ c.before_start.ensures (rw c.opening.ensures at c.in_turn.ensures)
