-- `session_reply::changes::is_short` meets its contract. Assumes nothing.
use native.Mathlib.Omega.{arith}
use lib.Dec.{lit<}
use native.Mathlib.Nat.{lt_of_le_of_lt, mul-le-mul}
use Rattle.session_reply.proofs.changes.is_short.Goals as goal

pub overflow_mul-result : goal.overflow_mul-result
overflow_mul-result c = record { fits = lt_of_le_of_lt (mul-le-mul {n₂ = 255} {m₂ = 65535} (omega arith) (omega arith)) (lit< tt) }
