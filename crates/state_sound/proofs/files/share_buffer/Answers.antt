-- `state_sound::share_buffer` meets its contract, from the contract of `holds`. Assumes nothing.

use Rattle.state_sound.proofs.files.share_buffer.Goals as goal

pub returns : goal.returns
returns c = simp (c.holds-a.ensures, c.holds-b.ensures)
