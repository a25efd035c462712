-- `planner_text::fields::third` meets its contract: from the contracts of `second` and `rest`. Assumes nothing.
use mathlib.Core.Path.{ap, ◌∙◌}
use Rattle.planner_text.specs.Texts.{field2}
use Rattle.planner_text.proofs.fields.third.Goals as goal

pub returns : goal.returns
returns c = c.second.ensures ∙ ap field2 c.rest.ensures
