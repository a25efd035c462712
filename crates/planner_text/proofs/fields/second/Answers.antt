-- `planner_text::fields::second` meets its contract: from the contracts of `first` and `rest`. Assumes nothing.
use mathlib.Core.Path.{ap, ◌∙◌}
use Rattle.planner_text.specs.Fields.{first_to}
use Rattle.planner_text.proofs.fields.second.Goals as goal

pub returns : goal.returns
returns c = c.first.ensures ∙ ap (first_to 32) c.rest.ensures
