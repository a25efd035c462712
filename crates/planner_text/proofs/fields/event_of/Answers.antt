-- `planner_text::fields::event_of` meets its contract: by the file and the count of fields. Assumes nothing.
use mathlib.Core.Path.{ap, ap₂, ◌∙◌}
use Rattle.planner_text.specs.Texts.{close_event, open_event}
use Rattle.planner_text.proofs.Steps.{event_none, event_close, event_open, event_other}
use Rattle.planner_text.proofs.fields.event_of.Goals as goal

pub returns-then-file-ge64 : goal.returns-then-file-ge64
returns-then-file-ge64 c = event_none _ _ 0 c.number2-file.ensures.0 c.if-file-ge64.true

pub returns-then-n-eq1 : goal.returns-then-n-eq1
returns-then-n-eq1 c = let at_first = c.first in
    let at-number2 = c.number2-file in
    let at-if1 = c.if-file-ge64 in
    let at-blanks = c.blanks-n in
    let at-if2 = c.if-n-eq1 in
    c.close_event.ensures
    ∙ (ap (close_event _) at_first.ensures ∙ event_close _ _ _ at-number2.ensures.0 at-if1.false at-blanks.ensures at-if2.true)

pub returns-then-n-eq2 : goal.returns-then-n-eq2
returns-then-n-eq2 c = let at-first2 = c.first-then-n-eq2 in
    let at-third = c.third in
    let at-number2 = c.number2-file in
    let at-if1 = c.if-file-ge64 in
    let at-blanks = c.blanks-n in
    let at-if2 = c.if-n-eq1 in
    let at-if3 = c.if-n-eq2 in
    c.open_event.ensures
    ∙ (ap₂ (open_event _) at-first2.ensures at-third.ensures ∙ event_open _ _ _ at-number2.ensures.0 at-if1.false at-blanks.ensures at-if2.false at-if3.true)

pub returns : goal.returns
returns c = let at-number2 = c.number2-file in
    let at-if1 = c.if-file-ge64 in
    let at-blanks = c.blanks-n in
    let at-if2 = c.if-n-eq1 in
    event_other _ _ _ at-number2.ensures.0 at-if1.false at-blanks.ensures at-if2.false c.if-n-eq2.false
