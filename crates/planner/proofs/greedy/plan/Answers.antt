-- `planner::greedy::plan` meets its contract: from the judgement and from what is made: a good list has at most 64 openings. Assumes nothing.
use mathlib.Core.Path.{sym, ◌∙◌}
use Rattle.planner.proofs.Turns.{list_good, list_bad, list_fits, plan_refused}
use Rattle.planner.proofs.Rises.{planned_wanting, planned_proposed, told}
use Rattle.planner.proofs.greedy.plan.Goals as goal

pub returns-then-is_err : goal.returns-then-is_err
returns-then-is_err c = let both = told (plan_refused _ _ (list_bad _ _ c.judge.ensures (sym c.is_err.ensures.value ∙ c.if-is_err.true))) in record { refusal_value = both.0; size_value = both.1 }

pub made-p-requires : goal.made-p-requires
made-p-requires c = list_fits _ _ (list_good _ _ c.judge.ensures (sym c.is_err.ensures.value ∙ c.if-is_err.false))

pub returns-then-limit-p : goal.returns-then-limit-p
returns-then-limit-p c =
    let both = told (planned_wanting _ _ (list_good _ _ c.judge.ensures (sym c.is_err.ensures.value ∙ c.if-is_err.false)) c.made-p.ensures c.if-limit-p.true) in record { refusal_value = both.0; size_value = both.1 }

pub returns : goal.returns
returns c = let both = told (planned_proposed _ _ c.made-p.result (list_good _ _ c.judge.ensures (sym c.is_err.ensures.value ∙ c.if-is_err.false)) c.made-p.ensures c.if-limit-p.false) in record { refusal_value = both.0; size_value = both.1 }
