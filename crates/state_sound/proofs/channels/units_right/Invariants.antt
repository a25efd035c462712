use mathlib.Core.Path.{◌≡◌}
use lib.ListN.{drop}
use Rattle.area.specs.Lists.{all_of}
use Rattle.state_sound.specs.Judged.{unit_right}
use Rattle.state_sound.proofs.channels.units_right.Given as goal

abbrev pub invariant-loop-x : goal.invariant-loop-x
invariant-loop-x l = all_of (unit_right l.m) l.x-items ≡ all_of (unit_right l.m) (drop l.x-index l.x-items)
