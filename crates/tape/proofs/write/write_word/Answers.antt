-- `tape::write::write_word` meets its contract: six bytes stored are a paste. Assumes nothing.
use native.Mathlib.Omega.{arith}
use lib.ListN.{length-set}
use Rattle.tape.specs.Characters.{word_bytes}
use Rattle.tape.proofs.Laws.Stores.{six_stored}
use Rattle.tape.proofs.write.write_word.Goals as goal

pub bounds-area-at-2 : goal.bounds-area-at-2
bounds-area-at-2 c = simp length-set (omega (arith, c.requires))

pub bounds-area-at-3 : goal.bounds-area-at-3
bounds-area-at-3 c = simp length-set (omega (arith, c.requires))

pub bounds-area-at-4 : goal.bounds-area-at-4
bounds-area-at-4 c = simp length-set (omega (arith, c.requires))

pub bounds-area-at-5 : goal.bounds-area-at-5
bounds-area-at-5 c = simp length-set (omega (arith, c.requires))

pub bounds-area-at-6 : goal.bounds-area-at-6
bounds-area-at-6 c = simp length-set (omega (arith, c.requires))

pub returns : goal.returns
unfolding word_bytes
returns c = rw (c.with_parity.ensures, c.with_parity-2.ensures, c.with_parity-3.ensures, c.with_parity-4.ensures, c.with_parity-5.ensures, c.with_parity-6.ensures) (six_stored _ _ _ _ _ _ _ _ c.requires)
