-- `state_image::programs::no_posts` meets its contract: every post is empty. Assumes nothing.

use Rattle.state_image.proofs.programs.no_posts.Goals as goal

pub returns : goal.returns
returns c = rw c.no_post-blank.ensures
