-- `planner::walk::claim` meets its contract: by the count of buffers that the row names. Assumes nothing.
use mathlib.Core.Path.{sym, ◌∙◌, ap}
use Rattle.planner.specs.Walk.{claimed}
use Rattle.planner.proofs.Faults.{claimed_one, claimed_two, claimed_none, one_buffer, two_buffers, no_buffers}
use Rattle.planner.proofs.walk.claim.Goals as goal

pub returns-then-count-eq1 : goal.returns-then-count-eq1
returns-then-count-eq1 c = let at-args = c.args in
    let at-if1 = c.if-count-eq1 in
    c.with_owner.ensures ∙ (sym (claimed_one _ _ _ 0) ∙ ap (λ bs. claimed at-args.v bs at-args.owner) (sym (one_buffer _ at-if1.true)))

pub returns-then-count-eq2 : goal.returns-then-count-eq2
returns-then-count-eq2 c = c.with_owner-then-count-eq2.ensures ∙ (rw (c.with_owner-one.ensures, two_buffers _ c.if-count-eq2.true, claimed_two))

pub returns : goal.returns
returns c = sym (rw (no_buffers _ c.if-count-eq1.false c.if-count-eq2.false, claimed_none))
