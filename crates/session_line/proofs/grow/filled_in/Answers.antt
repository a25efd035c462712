-- `session_line::grow::filled_in` meets its contract: the smaller of the two. Assumes nothing.
use native.Mathlib.Omega.{arith}
use Rattle.std.proofs.lemmas.Bool.Decides.{nat_tests}
use Rattle.session_line.specs.Machine.{filled_in}
use Rattle.session_line.proofs.grow.filled_in.Goals as goal

pub returns : goal.returns
unfolding filled_in
returns c = (grind (arith, nat_tests), omega arith)
