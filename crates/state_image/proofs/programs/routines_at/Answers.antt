-- `state_image::programs::routines_at` meets its contract. Programs and posts follow one another (`routines_there`). Assumes nothing.
use Rattle.state_image.proofs.Posts.{routines_there}
use Rattle.state_image.proofs.programs.routines_at.Goals as goal

pub returns : goal.returns
returns c = let a = c.args in rw (c.posts_at-posts.ensures, c.programs_at-programs.ensures) (routines_there a.n a.at a.b.now)
