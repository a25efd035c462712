-- `state_sound::rest_is_zero` meets its contract, from the contracts of `is_full` and `is_unread`. Assumes nothing.

use Rattle.state_sound.proofs.files.rest_is_zero.Goals as goal

pub returns : goal.returns
returns c = simp (c.is_full.ensures, c.is_full-2.ensures, c.is_unread.ensures, c.is_unread-2.ensures)
