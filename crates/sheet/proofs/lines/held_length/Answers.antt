-- `sheet::lines::held_length` meets its contract, branch by branch. Assumes nothing.
use mathlib.Core.Path.{sym, ◌∙◌}
use native.Mathlib.Omega.{arith}
use Rattle.std.proofs.lemmas.List.{take_min}
use Rattle.area.proofs.Marks.{cond_true, cond_false}
use Rattle.sheet.specs.Desks.{held_text}
use Rattle.sheet.proofs.lines.held_length.Goals as goal

pub returns-then-line : goal.returns-then-line
unfolding held_text
returns-then-line c = (sym (cond_true _ _ c.if-line.true), omega arith)

pub returns : goal.returns
unfolding held_text
returns c = (rw c.min.ensures (take_min c.args.line.filled c.args.room.now) ∙ sym (cond_false _ _ c.if-line.false), omega arith)
