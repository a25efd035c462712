-- `state_sound::open_sound` meets its contract, from the contracts of `full_right`, `has_buffers`, `in_range`, `part_right`, `place_right`, `rest_is_zero` and `taken_right`. Assumes nothing.
use Rattle.state_sound.specs.Files.{open_sound}
use Rattle.state_sound.proofs.files.open_sound.Goals as goal

pub returns : goal.returns
unfolding open_sound
returns c = simp (c.in_range-ranges.ensures, c.has_buffers-buffers.ensures, c.taken_right-taken.ensures, c.full_right-full.ensures, c.part_right-part.ensures, c.place_right-place.ensures, c.rest_is_zero-rest.ensures)
