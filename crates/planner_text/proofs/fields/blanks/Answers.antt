-- `planner_text::fields::blanks` meets its contract. The blanks passed, with those that are left, are all. Assumes nothing.
use native.Mathlib.Omega.{arith}
use borrow.Author.Tests.{eq-eqb, ne_eqb}
use Rattle.area.proofs.Walks.{count_hit, count_miss, count_done}
use Rattle.planner_text.specs.Fields.{blank}
use borrow.Author.Rules.{rules}
use Rattle.planner_text.proofs.fields.blanks.Goals.{then-c-eq-BLANK, else-c-eq-BLANK}
use Rattle.planner_text.proofs.fields.blanks.Goals as goal

pub loop-c-init : goal.loop-c-init
loop-c-init c = (search rules, omega arith)

pub loop-c-preserved : goal.loop-c-preserved
loop-c-preserved c = let at-args = c.args in
    let at-loop = c.loop-c in
    let at-loop-test = c.loop-c-test in
    elim c.if-c-eq-BLANK.branch [
      | then-c-eq-BLANK w ↦ (omega arith, rw w.n-is (count_hit blank at-args.line.now 0 at-loop.c-index _ _ at-loop-test.true at-loop.invariant.1 (eq-eqb _ _ w.if-c-eq-BLANK.true)))
      | else-c-eq-BLANK w ↦ (omega arith, rw w.n-is (count_miss blank at-args.line.now 0 at-loop.c-index _ _ at-loop-test.true at-loop.invariant.1 (ne_eqb _ _ w.if-c-eq-BLANK.false)))
    ]

pub returns : goal.returns
returns c = count_done blank c.args.line.now 0 c.loop-c.c-index _ _ c.loop-c-test.false c.loop-c.invariant.1
