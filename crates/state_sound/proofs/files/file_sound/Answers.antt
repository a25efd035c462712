-- `state_sound::file_sound` meets its contract, branch by branch, from the contracts of `is_blank` and `open_sound`. Assumes nothing.
use mathlib.Core.Path.{sym, ◌∙◌}
use Rattle.area.proofs.Marks.{cond_true, cond_false}
use Rattle.state_sound.specs.Files.{file_sound}
use Rattle.state_sound.proofs.files.file_sound.Goals as goal

pub returns-then-f : goal.returns-then-f
unfolding file_sound
returns-then-f c = c.open_sound.ensures ∙ sym (cond_true _ _ c.if-f.true)

pub returns-else-f : goal.returns-else-f
unfolding file_sound
returns-else-f c = c.is_blank.ensures ∙ sym (cond_false _ _ c.if-f.false)
