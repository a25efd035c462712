-- `state_image::programs::put_routines` meets its contract. Programs and posts are put one after the other (`routines_put`). Assumes nothing.
use Rattle.state_image.proofs.Posts.{routines_put}
use native.Mathlib.Omega.{arith}
use Rattle.state_image.proofs.programs.put_routines.Goals as goal

pub returns : goal.returns
returns c = let a = c.args in routines_put a.n a.at a.r a.out.now _ _ (omega (arith, c.requires.1)) c.put_programs.ensures c.put_posts.ensures
