-- `pack_routine::refused` meets its contract, from the contract of `main_program`. Assumes nothing.

use Rattle.pack_routine.proofs.ons.refused.Goals as goal

pub returns : goal.returns
returns c = simp c.main_program.ensures
