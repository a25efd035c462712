-- `planner_text::fields::with_digit` meets its contract: by its test. Assumes nothing.
use native.Mathlib.Omega.{arith}
use Rattle.planner_text.specs.Fields.{capped}
use Rattle.planner_text.proofs.fields.with_digit.Goals as goal

pub returns-then-more-lt256 : goal.returns-then-more-lt256
unfolding capped
returns-then-more-lt256 c = (omega arith, omega arith)

pub returns : goal.returns
unfolding capped
returns c = (omega arith, omega arith)
