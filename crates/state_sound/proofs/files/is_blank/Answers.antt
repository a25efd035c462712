-- `state_sound::is_blank` meets its contract, from the contract of `is_no_buffer`. Assumes nothing.
use Rattle.state_sound.specs.Files.{is_blank}
use Rattle.state_sound.proofs.files.is_blank.Goals as goal

pub returns : goal.returns
unfolding is_blank
returns c = simp (c.is_no_buffer-a.ensures, c.is_no_buffer-b.ensures)
