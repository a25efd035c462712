-- `state_image::programs::put_post` meets its contract: its bytes fit. Assumes nothing.
use Rattle.area.proofs.Pastes.{paste_fitting}
use Rattle.state_image.specs.Routines.{post_row}
use native.Mathlib.Omega.{arith}
use Rattle.state_image.proofs.programs.put_post.Goals as goal

pub returns : goal.returns
returns c = let a = c.args in rw (c.put_bytes.ensures, c.post_row-bytes.ensures) (paste_fitting a.at (post_row a.x) a.out.now (omega (arith, c.requires)))
