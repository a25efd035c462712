use mathlib.Core.Path.{◌≡◌}
use lib.ListN.{length, drop}
use Rattle.area.specs.Lists.{all_pairs}
use Rattle.pool.specs.Free.{file_count}
use Rattle.state_sound.specs.Files.{apart}
use Rattle.state_sound.proofs.files.all_apart.Given as goal

abbrev pub invariant-loop-i : goal.invariant-loop-i
invariant-loop-i l = (length l.files ≡ file_count) × (all_pairs apart l.files ≡ all_pairs apart (drop l.i l.files))
