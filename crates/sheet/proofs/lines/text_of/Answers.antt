-- `sheet::lines::text_of` meets its contract, branch by branch. Assumes nothing.
use mathlib.Core.Path.{sym, ◌∙◌}
use Rattle.area.proofs.Marks.{cond_true, cond_false}
use Rattle.sheet.specs.Desks.{held_text}
use Rattle.sheet.proofs.lines.text_of.Goals as goal

pub returns-then-line : goal.returns-then-line
unfolding held_text
returns-then-line c = c.front.ensures ∙ sym (cond_true _ _ c.if-line.true)

pub returns : goal.returns
unfolding held_text
returns c = c.front-2.ensures ∙ sym (cond_false _ _ c.if-line.false)
