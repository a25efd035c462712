-- `state_sound::is_sound` meets its contract: what `is_judged` walks is document 01's paragraph. Assumes nothing.
use mathlib.Core.Path.{◌∙◌}
use Rattle.state_sound.proofs.Facts.{judged_sound}
use Rattle.state_sound.proofs.sound.is_sound.Goals as goal

pub returns : goal.returns
returns c = c.is_judged.ensures ∙ judged_sound c.args.s
