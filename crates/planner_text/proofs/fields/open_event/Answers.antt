-- `planner_text::fields::open_event` meets its contract: by the words. Assumes nothing.
use mathlib.Core.Path.{sym, ◌∙◌}
use Rattle.planner_text.specs.Texts.{open_event}
use Rattle.planner_text.proofs.fields.open_event.Goals as goal

pub returns-then-not-same : goal.returns-then-not-same
unfolding open_event
returns-then-not-same c = rw (sym c.same.ensures ∙ c.if-not-same.true)

pub returns-then-same : goal.returns-then-same
unfolding open_event
returns-then-same c = let at-is-open = c.same in
    let at-if1 = c.if-not-same in
    let at-is-single = c.same-2 in
    rw (sym at-is-open.ensures ∙ at-if1.false, sym at-is-single.ensures ∙ c.if-same.true)

pub returns-then-same-2 : goal.returns-then-same-2
unfolding open_event
returns-then-same-2 c = let at-is-open = c.same in
    let at-if1 = c.if-not-same in
    let at-is-single = c.same-2 in
    let at-if2 = c.if-same in
    let at-is-double = c.same-3 in
    rw (sym at-is-open.ensures ∙ at-if1.false, sym at-is-single.ensures ∙ at-if2.false, sym at-is-double.ensures ∙ c.if-same-2.true)

pub returns : goal.returns
unfolding open_event
returns c = let at-is-open = c.same in
    let at-if1 = c.if-not-same in
    let at-is-single = c.same-2 in
    let at-if2 = c.if-same in
    let at-is-double = c.same-3 in
    rw (sym at-is-open.ensures ∙ at-if1.false, sym at-is-single.ensures ∙ at-if2.false, sym at-is-double.ensures ∙ c.if-same-2.false)
