use mathlib.Core.Path.{◌≡◌}
use lib.ListN.{drop}
use Rattle.area.specs.Lists.{all_of}
use Rattle.state_sound.specs.Judged.{file_fits}
use Rattle.state_sound.proofs.channels.files_fit.Given as goal

abbrev pub invariant-loop-f : goal.invariant-loop-f
invariant-loop-f l = all_of (file_fits l.channels) l.f-items ≡ all_of (file_fits l.channels) (drop l.f-index l.f-items)
