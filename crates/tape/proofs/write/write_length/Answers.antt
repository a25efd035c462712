-- `tape::write::write_length` meets its contract: four bytes stored are a paste. Assumes nothing.
use native.Mathlib.Omega.{arith}
use lib.ListN.{length-set}
use Rattle.tape.specs.Lengths.{length_bytes}
use Rattle.tape.proofs.Laws.Stores.{four_stored}
use Rattle.tape.proofs.write.write_length.Goals as goal

pub bounds-area-at-2 : goal.bounds-area-at-2
bounds-area-at-2 c = simp length-set (omega (arith, c.requires))

pub bounds-area-at-3 : goal.bounds-area-at-3
bounds-area-at-3 c = simp length-set (omega (arith, c.requires))

pub bounds-area-at-4 : goal.bounds-area-at-4
bounds-area-at-4 c = simp length-set (omega (arith, c.requires))

pub returns : goal.returns
unfolding length_bytes
returns c = rw (c.low.ensures, c.low-2.ensures, c.low-3.ensures, c.low-4.ensures) (four_stored _ _ _ _ _ _ c.requires)
