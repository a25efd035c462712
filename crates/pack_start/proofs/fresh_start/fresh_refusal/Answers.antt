-- `pack_start::fresh_refusal` meets its contract, from the contracts of `pool_fits`, `are_masks` and `row`. Assumes nothing.
use native.Mathlib.Omega.{arith}
use native.Mathlib.Nat.{lt_of_le_of_lt, mul-le-mul}
use lib.Dec.{lit<}
use Rattle.area.specs.Refusals.{lowest}
use Rattle.pack_start.specs.Fresh.{fresh_rows}
use Rattle.pack_start.proofs.fresh_start.fresh_refusal.Goals as goal

pub overflow_mul-short : goal.overflow_mul-short
overflow_mul-short c = record { fits = lt_of_le_of_lt (mul-le-mul {n₂ = 255} {m₂ = 65535} (omega arith) (omega arith)) (lit< tt) }

pub returns : goal.returns
unfolding lowest fresh_rows
returns c = simp (c.row.ensures, c.are_masks-units.ensures, c.pool_fits-pool.ensures)
