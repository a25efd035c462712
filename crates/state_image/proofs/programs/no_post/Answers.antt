-- `state_image::programs::no_post` meets its contract: nothing is due. Assumes nothing.

use Rattle.state_image.proofs.programs.no_post.Goals as goal

pub returns : goal.returns
returns c = rw c.nothing_due-none.ensures
