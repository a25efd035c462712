-- `state_image::programs::put_program` meets its contract: its bytes fit. Assumes nothing.
use Rattle.area.proofs.Pastes.{paste_fitting}
use Rattle.state_image.specs.Routines.{program_row}
use native.Mathlib.Omega.{arith}
use Rattle.state_image.proofs.programs.put_program.Goals as goal

pub returns : goal.returns
returns c = let a = c.args in rw (c.put_bytes.ensures, c.program_row-bytes.ensures) (paste_fitting a.at (program_row a.p) a.out.now (omega (arith, c.requires)))
