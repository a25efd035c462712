use mathlib.Core.Path.{sym}
use Rattle.area.proofs.Marks.{cond_true, cond_false}
use Rattle.image_sound.proofs.files.second_right.Goals as goal

pub returns-then-double : goal.returns-then-double
returns-then-double c = sym (cond_true _ _ c.if-double.true)

pub returns : goal.returns
returns c = sym (cond_false _ _ c.if-double.false)
