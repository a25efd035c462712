-- `area::copy_in` meets its contract: what does not fit changes nothing, and else the part is copied over. Assumes nothing.
use mathlib.Core.Path.{sym}
use native.Mathlib.Omega.{arith}
use Rattle.area.proofs.Copies.{copied_over}
use Rattle.area.proofs.Pastes.{paste_misfit}
use Rattle.area.proofs.copy_in.Goals as goal

pub returns-then-area-at-clause-area_after : goal.returns-then-area-at-clause-area_after
returns-then-area-at-clause-area_after g c = let a = c.args in sym (paste_misfit a.at a.words.now a.area.now (omega arith))

pub returns-then-area-at-2-clause-area_after : goal.returns-then-area-at-2-clause-area_after
returns-then-area-at-2-clause-area_after g c = let a = c.args in sym (paste_misfit a.at a.words.now a.area.now (omega arith))

pub returns-clause-area_after : goal.returns-clause-area_after
returns-clause-area_after g c = let a = c.args in rw c.copy_from_slice.ensures.after (copied_over a.at a.words.now a.area.now (omega arith))
