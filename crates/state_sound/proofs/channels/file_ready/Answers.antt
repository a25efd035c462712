-- `state_sound::file_ready` meets its contract, from the contracts of `fits_output`, `taken_count`, `is_read`, `is_write` and `has_full`. Assumes nothing.
use Rattle.state_sound.specs.Judged.{file_ready}
use Rattle.state_sound.proofs.Truths.{from_one_if}
use Rattle.state_sound.proofs.channels.file_ready.Goals as goal

pub returns : goal.returns
unfolding file_ready
returns c = simp (c.fits_output-way.ensures, c.taken_count-n.ensures.0, c.from-read.ensures, from_one_if, c.is_read.ensures, c.is_write-write.ensures, c.has_full-full.ensures)
