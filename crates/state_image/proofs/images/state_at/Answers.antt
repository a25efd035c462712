-- `state_image::images::state_at` meets its contract. Its own numbers, the channels, the files and the routines follow one another; the free mask is made from the files. Assumes nothing.

use Rattle.state_image.proofs.images.state_at.Goals as goal

pub returns : goal.returns
returns c = rw (c.free_mask-free.ensures, c.routines_at-routines.ensures, c.files_at-files.ensures, c.channels_at-channels.ensures, c.two_at-w.ensures)
