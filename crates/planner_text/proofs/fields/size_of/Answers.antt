-- `planner_text::fields::size_of` meets its contract: by the word and the count of fields. Assumes nothing.
use mathlib.Core.Path.{ap, ◌∙◌}
use Rattle.planner_text.specs.Fields.{same_bytes, size_word}
use Rattle.planner_text.specs.Texts.{byte_or0}
use Rattle.planner_text.proofs.Steps.{size_said, size_none}
use Rattle.planner_text.proofs.fields.size_of.Goals as goal

pub returns-then-word-n : goal.returns-then-word-n
returns-then-word-n c = let at-number2 = c.number2 in
    let at-blanks = c.blanks-n in
    let at-is-size = c.same-word in
    let at_first = c.first in
    let at-if1 = c.if-word-n in
    c.byte_or_0.ensures
    ∙ (ap byte_or0 at-number2.ensures.0 ∙ size_said _ _ at-blanks.ensures _ (at-is-size.ensures ∙ ap (λ l. same_bytes l size_word) at_first.ensures) at-if1.true)

pub returns : goal.returns
returns c = let at-blanks = c.blanks-n in
    let at-is-size = c.same-word in
    let at_first = c.first in
    size_none _ _ at-blanks.ensures _ (at-is-size.ensures ∙ ap (λ l. same_bytes l size_word) at_first.ensures) c.if-word-n.false
