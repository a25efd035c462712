-- `planner::events::judge` meets its contract. What is left of the list is judged as the whole is, turn by turn. Assumes nothing.
use mathlib.Core.Path.{sym, ◌∙◌}
use native.Mathlib.Omega.{arith}
use Rattle.planner.proofs.Turns.{judge_limit, judge_first, judge_fault, judge_turn_lem, judge_end}
use borrow.Author.Rules.{rules}
use Rattle.planner.proofs.events.judge.Goals as goal

pub returns-then-not-limit_fits : goal.returns-then-not-limit_fits
returns-then-not-limit_fits c = judge_limit _ _ (sym c.limit_fits.ensures ∙ c.if-not-limit_fits.true)

pub loop-i-init : goal.loop-i-init
loop-i-init c = (search rules, judge_first _ _ (sym c.limit_fits.ensures ∙ c.if-not-limit_fits.false))

pub returns-then-wrong_event : goal.returns-then-wrong_event
returns-then-wrong_event c = judge_fault _ _ _ _ _ c.loop-i.invariant.1 c.loop-i-test.true (sym c.wrong_event.ensures ∙ c.if-wrong_event.true)

pub loop-i-preserved : goal.loop-i-preserved
loop-i-preserved c = (
  omega (arith, c.count_after-n.ensures.1),
  judge_turn_lem _ _ _ _ _ c.loop-i.invariant.1 _ _ c.loop-i-test.true (sym c.wrong_event.ensures ∙ c.if-wrong_event.false) c.opened_after-after.ensures c.count_after-n.ensures.0,
)

pub returns : goal.returns
returns c = sym (judge_end _ _ c.loop-i-test.false _ _) ∙ c.loop-i.invariant.1
