-- `planner_text::fields::limit_of` meets its contract: from the contract of `number`. Assumes nothing.
use mathlib.Core.Path.{ap, ◌∙◌}
use Rattle.planner_text.specs.Texts.{byte_or0, limit_of}
use Rattle.planner_text.proofs.fields.limit_of.Goals as goal

pub returns : goal.returns
unfolding limit_of
returns c = c.byte_or_0.ensures ∙ ap byte_or0 c.number.ensures.0
