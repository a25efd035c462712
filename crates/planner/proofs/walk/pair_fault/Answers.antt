-- `planner::walk::pair_fault` meets its contract: fault by fault, by the laws of `Faults`. Assumes nothing.
use mathlib.Core.Path.{sym, ◌∙◌, ap₂}
use mathlib.Core.Bool.{◌&&◌}
use Rattle.planner.proofs.Faults.{pair_outside, pair_same, pair_serves, pair_good}
use Rattle.planner.proofs.walk.pair_fault.Goals as goal

pub returns-then-size-b : goal.returns-then-size-b
returns-then-size-b c = pair_outside _ _ _ _ c.if-size-b.true

pub returns-then-c-b : goal.returns-then-c-b
returns-then-c-b c = pair_same _ _ _ _ c.if-size-b.false c.if-c-b.true

pub returns-then-one-other : goal.returns-then-one-other
returns-then-one-other c = let at-if1 = c.if-size-b in
    let at-if2 = c.if-c-b in
    let at-is-free = c.is_free-one in
    let at-is-free2 = c.is_free-other in
    pair_good _ _ _ _ at-if1.false at-if2.false (sym (ap₂ (λ x y. x && y) at-is-free.ensures at-is-free2.ensures) ∙ c.if-one-other.true)

pub returns : goal.returns
returns c = let at-if1 = c.if-size-b in
    let at-if2 = c.if-c-b in
    let at-is-free = c.is_free-one in
    let at-is-free2 = c.is_free-other in
    pair_serves _ _ _ _ at-if1.false at-if2.false (sym (ap₂ (λ x y. x && y) at-is-free.ensures at-is-free2.ensures) ∙ c.if-one-other.false)
