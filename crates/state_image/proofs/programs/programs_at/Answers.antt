-- `state_image::programs::programs_at` meets its contract. Its pieces follow one another (`programs_there`). Assumes nothing.
use Rattle.state_image.proofs.Posts.{programs_there}
use Rattle.state_image.proofs.programs.programs_at.Goals as goal

pub returns : goal.returns
returns c = let a = c.args in rw (c.pushed_at-pushed.ensures, c.program_at-running.ensures) (programs_there a.at a.b.now)
