-- `state_sound::taken_count` meets its contract, from the contract of `is_taken`. Assumes nothing.
use native.Mathlib.Omega.{arith}
use Rattle.state_sound.proofs.Truths.{from_one_if, one_if_small}
use Rattle.state_sound.proofs.files.taken_count.Goals as goal

pub returns : goal.returns
returns c = (
  simp (c.from.ensures, c.from-2.ensures, from_one_if, c.is_taken.ensures, c.is_taken-2.ensures),
  omega (arith, c.from.ensures, c.from-2.ensures, one_if_small c.is_taken.result, one_if_small c.is_taken-2.result),
)
