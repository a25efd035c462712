-- `state_sound::is_judged` meets its contract, from the contracts of `pool_sound`, `files_sound`, `files_fit`, `channels_right`, `free_mask` and `routines_right`. Assumes nothing.
use Rattle.state_sound.specs.Judged.{judged_state}
use Rattle.state_sound.proofs.sound.is_judged.Goals as goal

pub returns : goal.returns
unfolding judged_state
returns c = simp (c.pool_sound-pool.ensures, c.files_sound-own.ensures, c.files_fit-fits.ensures, c.channels_right-turns.ensures, c.free_mask-free.ensures, c.routines_right-right.ensures)
