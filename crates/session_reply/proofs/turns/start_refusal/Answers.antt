-- `session_reply::turns::start_refusal` meets its contract, from those of `masks_of` and `fresh_refusal`. Assumes nothing.

use Rattle.session_reply.proofs.turns.start_refusal.Goals as goal

pub returns : goal.returns
returns c = simp (c.fresh_refusal.ensures, c.masks_of.ensures)
