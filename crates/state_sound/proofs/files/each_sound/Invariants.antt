use mathlib.Core.Path.{◌≡◌}
use lib.ListN.{drop}
use Rattle.area.specs.Lists.{all_of}
use Rattle.state_sound.specs.Files.{file_sound}
use Rattle.state_sound.proofs.files.each_sound.Given as goal

abbrev pub invariant-loop-f : goal.invariant-loop-f
invariant-loop-f l = all_of (file_sound l.m l.w) l.f-items ≡ all_of (file_sound l.m l.w) (drop l.f-index l.f-items)
