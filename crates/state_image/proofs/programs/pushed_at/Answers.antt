-- `state_image::programs::pushed_at` meets its contract. After i turns the first i programs are read (`HasRead`). Assumes nothing.
use Rattle.codec.proofs.Loops.{read_none, read_room, read_one, read_all}
use Rattle.routines.specs.Ranks.{depth, main_program}
use Rattle.state_image.specs.Routines.{program_codec}
use lib.ListN.{drop}
use mathlib.Core.Path.{refl, ap}
use native.Mathlib.Omega.{arith}
use Rattle.state_image.proofs.programs.pushed_at.Goals as goal

pub loop-program-init : goal.loop-program-init
loop-program-init c = let a = c.args in (rw c.main_program-none.ensures, read_none program_codec depth depth a.start a.b.now _ (omega arith) (omega (arith, c.requires)) refl)

pub program_at-p-requires : goal.program_at-p-requires
program_at-p-requires c = let a = c.args in omega (arith, read_room program_codec depth depth a.start a.b.now _ c.loop-program.program-index c.loop-program.at c.loop-program.program-items c.loop-program.invariant.1 (omega arith))

pub overflow_add-at : goal.overflow_add-at
overflow_add-at c = let a = c.args in omega (arith, read_room program_codec depth depth a.start a.b.now _ c.loop-program.program-index c.loop-program.at c.loop-program.program-items c.loop-program.invariant.1 (omega arith), c.well_formed)

pub loop-program-preserved : goal.loop-program-preserved
loop-program-preserved c = let a = c.args in (c.loop-program.invariant.0, rw c.program_at-p.ensures (read_one program_codec depth depth a.start a.b.now _ c.loop-program.program-index c.loop-program.at c.loop-program.program-items c.loop-program.invariant.1 (omega arith)))

pub returns : goal.returns
returns c = let a = c.args in read_all program_codec depth depth a.start a.b.now _ main_program c.loop-program.program-index c.loop-program.at c.loop-program.program-items c.loop-program.invariant.1 (omega arith) (ap (drop depth) c.loop-program.invariant.0)
