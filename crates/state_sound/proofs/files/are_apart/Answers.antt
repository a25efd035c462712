-- `state_sound::are_apart` meets its contract, from the contracts of `share_buffer` and `serves`. Assumes nothing.
use Rattle.state_sound.specs.Files.{apart}
use Rattle.state_sound.proofs.files.are_apart.Goals as goal

pub returns : goal.returns
unfolding apart
returns c = simp (c.share_buffer.ensures, c.serves.ensures)
