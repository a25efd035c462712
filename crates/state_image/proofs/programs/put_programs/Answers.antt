-- `state_image::programs::put_programs` meets its contract. Its pieces are put one after the other (`programs_put`). Assumes nothing.
use Rattle.state_image.proofs.Posts.{programs_put}
use native.Mathlib.Omega.{arith}
use Rattle.state_image.proofs.programs.put_programs.Goals as goal

pub returns : goal.returns
returns c = let a = c.args in programs_put a.at a.p a.out.now _ _ _ (omega (arith, c.requires)) c.put_bytes.ensures c.put_program.ensures c.put_pushed.ensures
