use mathlib.Core.Path.{◌≡◌}
use lib.ListN.{length, drop}
use Rattle.area.specs.Lists.{all_of}
use Rattle.pool.specs.Free.{file_count}
use Rattle.state_sound.specs.Files.{apart}
use Rattle.state_sound.proofs.files.apart_from.Given as goal

abbrev pub invariant-loop-i : goal.invariant-loop-i
invariant-loop-i l = (length l.files ≡ file_count) × (all_of (apart l.f) (drop l.k l.files) ≡ all_of (apart l.f) (drop l.i l.files))
