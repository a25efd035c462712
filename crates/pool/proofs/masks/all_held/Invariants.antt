use mathlib.Core.Path.{◌≡◌}
use mathlib.Core.Bool.{◌||◌}
use Prim.Native.Nat.{ℕ, ◌^◌, ◌<◌}
use lib.ListN.{drop}
use Rattle.area.specs.Masks.{bit_at}
use Rattle.pool.specs.Free.{buffer_limit, is_held}
use Rattle.pool.proofs.masks.all_held.Given as goal

abbrev pub invariant-loop-file : goal.invariant-loop-file
invariant-loop-file l = (l.held < 2 ^ buffer_limit) × ((b : ℕ) → b < buffer_limit → (bit_at l.held b || is_held (drop l.file-index l.file-items) b) ≡ is_held l.file-items b)
