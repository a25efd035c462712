-- `numbers::with_digit` meets its contract. Assumes nothing.
use native.Mathlib.Omega.{arith}
use Rattle.numbers.specs.Decimal.{tenfold}
use Rattle.numbers.proofs.with_digit.Goals as goal

pub returns : goal.returns
unfolding tenfold
returns c = omega (arith, c.saturating_add.ensures, c.saturating_mul.ensures, c.from.ensures)
