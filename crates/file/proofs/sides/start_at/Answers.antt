-- `file::start_at` meets its contract, from the contract of `buffer_at`. Assumes nothing.
use native.Mathlib.Omega.{arith}
use lib.Dec.{lit<}
use native.Mathlib.Nat.{lt_of_le_of_lt, mul-le-mul}
use Rattle.file.proofs.sides.start_at.Goals as goal

pub overflow_mul-result : goal.overflow_mul-result
overflow_mul-result c = record { fits = lt_of_le_of_lt (mul-le-mul {n₂ = 255} {m₂ = 65535} (omega (arith, c.struct_known-1)) (omega arith)) (lit< tt) }

pub returns : goal.returns
returns c = (simp c.buffer_at.ensures, lt_of_le_of_lt (mul-le-mul {n₂ = 255} {m₂ = 65535} (omega (arith, c.struct_known-1)) (omega arith)) (lit< tt))
