-- `session_line::grow::grown` meets its contract, by the three cases of a line that grows. Assumes nothing.
use mathlib.Core.Path.{sym, ◌∙◌}
use Rattle.session_line.proofs.Laws.Grows.{grown_over, fits_as, misfit_as}
use Rattle.session_line.proofs.grow.grown.Goals as goal

pub returns-then-line : goal.returns-then-line
returns-then-line c = let a = c.args in
    let g = grown_over a.line a.piece.now a.room.now c.if-line.true in record { value = c.overlong_line.ensures ∙ sym g.0; room_after = sym g.1 }

pub returns-then-copy_in : goal.returns-then-copy_in
returns-then-copy_in c = let both = (let a = c.args in
    let filled_in = c.filled_in-filled in
    let copy-in = c.copy_in in
    fits_as a.line a.piece.now a.room.now filled_in.result filled_in.ensures.0 c.if-line.false _ _ copy-in.ensures.value c.if-copy_in.true copy-in.ensures.area_after) in record { value = both.0; room_after = both.1 }

pub returns : goal.returns
returns c = let both = (let a = c.args in
    let filled_in = c.filled_in-filled in
    let copy-in = c.copy_in in
    misfit_as a.line a.piece.now a.room.now filled_in.result filled_in.ensures.0 c.if-line.false _ _ copy-in.ensures.value c.if-copy_in.false copy-in.ensures.area_after _ c.overlong_line-2.ensures) in record { value = both.0; room_after = both.1 }
