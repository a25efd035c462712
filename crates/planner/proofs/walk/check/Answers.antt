-- `planner::walk::check` meets its contract: from the judgement, the size and the walk. Assumes nothing.
use mathlib.Core.Path.{sym, ◌∙◌}
use Rattle.planner.proofs.Turns.{list_good, list_bad, verdict_refused, verdict_sized, verdict_size}
use Rattle.planner.proofs.walk.check.Goals as goal

pub returns-then-is_err : goal.returns-then-is_err
returns-then-is_err c = verdict_refused _ _ _ _ (list_bad _ _ c.judge.ensures (sym c.is_err.ensures.value ∙ c.if-is_err.true))

pub returns-then-size-limit : goal.returns-then-size-limit
returns-then-size-limit c = c.check_from.ensures ∙ verdict_sized _ _ _ _ (list_good _ _ c.judge.ensures (sym c.is_err.ensures.value ∙ c.if-is_err.false)) c.if-size-limit.true

pub returns : goal.returns
returns c = verdict_size _ _ _ _ (list_good _ _ c.judge.ensures (sym c.is_err.ensures.value ∙ c.if-is_err.false)) c.if-size-limit.false
