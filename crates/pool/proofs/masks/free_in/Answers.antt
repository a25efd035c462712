-- `pool::masks::free_in` meets its contract, from the contract of `bit_of`. Assumes nothing.
use native.Mathlib.Nat.{lt_of_le_of_lt}
use native.Mathlib.Omega.{arith}
use lib.Count.{trailing_le, ones-le}
use Rattle.pool.proofs.FreeMasks.{bits_say}
use Rattle.pool.proofs.masks.free_in.Goals as goal

pub overflow_cast-low : goal.overflow_cast-low
overflow_cast-low c = record { fits = lt_of_le_of_lt (trailing_le 32 _) (omega arith) }

pub overflow_cast-high : goal.overflow_cast-high
overflow_cast-high c = record { fits = lt_of_le_of_lt (trailing_le 32 _) (omega arith) }

pub overflow_cast-count : goal.overflow_cast-count
overflow_cast-count c = record { fits = lt_of_le_of_lt (ones-le 32 _ (omega arith)) (omega arith) }

pub returns : goal.returns
returns c = bits_say c.args.mask _ (omega arith) c.bit_of.ensures
