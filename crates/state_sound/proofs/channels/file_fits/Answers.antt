-- `state_sound::file_fits` meets its contract, from the contracts of `channel_in`, `is_declared`, `turn_of`, `requested` and `file_ready`. Assumes nothing.
use Rattle.state_sound.specs.Judged.{file_fits}
use Rattle.state_sound.proofs.channels.file_fits.Goals as goal

pub returns : goal.returns
unfolding file_fits
returns c = simp (c.channel_in-c.ensures, c.is_declared-known.ensures, c.turn_of.ensures, c.requested.ensures, c.file_ready-ready.ensures)
