-- `state_image::files::slot_words` meets its contract. One line for each kind of slot. Assumes nothing.
use mathlib.Core.Path.{sym, ap}
use Rattle.state_image.specs.Files.{slot_words}
use Rattle.state_image.proofs.files.slot_words.Goals as goal

pub returns-in-Full : goal.returns-in-Full
returns-in-Full c = sym (ap slot_words c.in-Full.is)
