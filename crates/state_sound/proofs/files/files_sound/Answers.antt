-- `state_sound::files_sound` meets its contract, from the contracts of `all_apart` and `each_sound`. Assumes nothing.
use Rattle.state_sound.specs.Files.{files_sound}
use Rattle.state_sound.proofs.files.files_sound.Goals as goal

pub returns : goal.returns
unfolding files_sound
returns c = simp (c.each_sound.ensures, c.all_apart.ensures)
