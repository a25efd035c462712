-- `session_reply::turns::started` meets its contract, from those of `masks_of` and `fresh_state`. Assumes nothing.

use Rattle.session_reply.proofs.turns.started.Goals as goal

pub returns : goal.returns
returns c = simp (c.fresh_state.ensures, c.masks_of.ensures)
