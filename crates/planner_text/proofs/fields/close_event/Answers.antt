-- `planner_text::fields::close_event` meets its contract: by the word. Assumes nothing.
use mathlib.Core.Path.{sym, ◌∙◌}
use Rattle.planner_text.specs.Texts.{close_event}
use Rattle.planner_text.proofs.fields.close_event.Goals as goal

pub returns-then-same : goal.returns-then-same
unfolding close_event
returns-then-same c = rw (sym c.same.ensures ∙ c.if-same.true)

pub returns : goal.returns
unfolding close_event
returns c = rw (sym c.same.ensures ∙ c.if-same.false)
