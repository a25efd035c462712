-- `planner_text::fields::same` meets its contract: the library's `==` compares them. Assumes nothing.
use mathlib.Core.Path.{◌∙◌}
use Rattle.planner_text.proofs.Steps.{same_is}
use Rattle.planner_text.proofs.fields.same.Goals as goal

pub returns : goal.returns
returns c = c.eq.ensures ∙ same_is c.args.a.now c.args.b.now
