-- `planner_text::fields::packed` meets its contract: each part is below 256. Assumes nothing.
use native.Mathlib.Omega.{arith}
use Rattle.planner_text.specs.Texts.{packed}
use Rattle.planner_text.proofs.fields.packed.Goals as goal

pub returns : goal.returns
unfolding packed
returns c = let at_low = c.low-c in
    let at-low2 = c.low-f in
    let at-low3 = c.low-s in
    omega (arith, at_low.ensures.0, at-low2.ensures.0, at-low3.ensures.0, c.low-b.ensures.0)
