-- `planner_text::fields::number3` meets its contract: from the contract of `number`. Assumes nothing.
use mathlib.Core.Path.{ap, ◌∙◌}
use Rattle.planner_text.specs.Fields.{number_of}
use Rattle.planner_text.proofs.fields.number3.Goals as goal

pub returns : goal.returns
returns c = (c.number.ensures.0 ∙ ap number_of c.third.ensures, c.number.ensures.1)
