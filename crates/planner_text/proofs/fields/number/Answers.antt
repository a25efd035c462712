-- `planner_text::fields::number` meets its contract: by its length and its first digit. Assumes nothing.
use mathlib.Core.Path.{◌∙◌}
use Rattle.planner_text.proofs.Steps.{number_none, number_one, number_zero, number_more}
use borrow.Author.Rules.{rules}
use Rattle.planner_text.proofs.fields.number.Goals as goal

pub returns-then-field-eq0 : goal.returns-then-field-eq0
returns-then-field-eq0 c = (number_none _ c.if-field-eq0.true, search rules)

pub returns-then-field-eq1 : goal.returns-then-field-eq1
returns-then-field-eq1 c = (c.digits_from.ensures.0 ∙ number_one _ c.if-field-eq0.false c.if-field-eq1.true, c.digits_from.ensures.1)

pub returns-then-field-eq48 : goal.returns-then-field-eq48
returns-then-field-eq48 c = (number_zero _ c.if-field-eq0.false c.if-field-eq1.false c.if-field-eq48.true, search rules)

pub returns : goal.returns
returns c = let at-if1 = c.if-field-eq0 in
    let at-if2 = c.if-field-eq1 in
    let at-if3 = c.if-field-eq48 in
    (c.digits_from-2.ensures.0 ∙ number_more _ at-if1.false at-if2.false at-if3.false, c.digits_from-2.ensures.1)
