-- `state_image::files::file_at` meets its contract. Its own numbers and its two buffers follow one another (`file_read`). Assumes nothing.
use Rattle.state_image.proofs.Joined.{file_read}
use Rattle.state_image.proofs.files.file_at.Goals as goal

pub returns : goal.returns
returns c = let a = c.args in file_read a.b.now a.at _ _ _ _ _ c.buffer_at-low.ensures c.buffer_at-high.ensures c.two_at-size.ensures c.two_at-rlen.ensures c.two_at-block.ensures
