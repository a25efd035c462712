use mathlib.Core.Path.{◌≡◌}
use Prim.Native.Nat.{suc, ◌-◌}
use lib.ListN.{length, get_or}
use Rattle.area.specs.Lists.{first_along}
use Rattle.file.specs.Sizes.{closed_file}
use Rattle.pool.specs.Free.{file_count}
use Rattle.pool.specs.Serving.{serves, serving_file}
use Rattle.pool.proofs.units.serving_file.Given as goal

abbrev pub invariant-loop-i : goal.invariant-loop-i
invariant-loop-i l = (length l.files ≡ file_count) × (serving_file l.files l.channel l.unit ≡ first_along suc (λ j. serves l.channel l.unit (get_or l.files j closed_file)) (file_count - l.i) l.i)
