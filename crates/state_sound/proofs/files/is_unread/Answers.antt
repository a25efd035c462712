-- `state_sound::is_unread` meets its contract, from the contracts of `full_arrival`, `is_no_arrival` and `full_place`. Assumes nothing.

use Rattle.state_sound.proofs.files.is_unread.Goals as goal

pub returns : goal.returns
returns c = simp (c.full_place.ensures, c.is_no_arrival.ensures, c.full_arrival.ensures)
