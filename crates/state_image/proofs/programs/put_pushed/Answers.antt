-- `state_image::programs::put_pushed` meets its contract. After i turns the first i programs are put (`HasWritten`). Assumes nothing.
use Rattle.codec.proofs.Loops.{written_none, written_room, written_length, written_one, written_all}
use Rattle.routines.specs.Ranks.{depth, main_program}
use Rattle.state_image.proofs.Posts.{program_keeps}
use Rattle.state_image.specs.Routines.{program_codec}
use native.Mathlib.Omega.{arith}
use Rattle.state_image.proofs.programs.put_pushed.Goals as goal

pub loop-program-init : goal.loop-program-init
loop-program-init c = let a = c.args in written_none program_codec program_keeps.sized depth a.at a.pushed a.out.now (omega (arith, c.well_formed, c.requires)) (omega (arith, c.requires))

pub put_program-requires : goal.put_program-requires
put_program-requires c = let a = c.args in written_room program_codec program_keeps.sized depth a.at a.pushed a.out.now c.loop-program.program-index c.loop-program.to c.loop-program.out c.loop-program.invariant (omega arith)

pub overflow_add-to : goal.overflow_add-to
overflow_add-to c = let a = c.args in omega (arith, written_room program_codec program_keeps.sized depth a.at a.pushed a.out.now c.loop-program.program-index c.loop-program.to c.loop-program.out c.loop-program.invariant (omega arith), written_length program_codec program_keeps.sized depth a.at a.pushed a.out.now c.loop-program.program-index c.loop-program.to c.loop-program.out c.loop-program.invariant, c.well_formed)

pub loop-program-preserved : goal.loop-program-preserved
loop-program-preserved c = let a = c.args in rw c.put_program.ensures (written_one program_codec program_keeps.sized depth a.at a.pushed a.out.now main_program c.loop-program.program-index c.loop-program.to c.loop-program.out c.loop-program.invariant (omega arith))

pub shape_of-out : goal.shape_of-out
shape_of-out c = let a = c.args in written_length program_codec program_keeps.sized depth a.at a.pushed a.out.now c.loop-program.program-index c.loop-program.to c.loop-program.out c.loop-program.invariant

pub returns : goal.returns
returns c = let a = c.args in written_all program_codec program_keeps.sized depth a.at a.pushed a.out.now main_program depth c.loop-program.program-index c.loop-program.to c.loop-program.out c.loop-program.invariant (omega arith)
