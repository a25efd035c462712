-- `planner_text::fields::rest` meets its contract: from the contract of `up_to`: past the end there is nothing. Assumes nothing.
use Rattle.planner_text.proofs.Steps.{rest_some, rest_none}
use Rattle.planner_text.proofs.fields.rest.Goals as goal

pub returns-then-n-text : goal.returns-then-n-text
returns-then-n-text c = let at-args = c.args in
    let at-up-to = c.up_to-n in
    rest_some at-args.stop at-args.text.now _ at-up-to.ensures.0

pub returns : goal.returns
returns c = let at-args = c.args in
    let at-up-to = c.up_to-n in
    let at-if1 = c.if-n-text in
    rest_none at-args.stop at-args.text.now _ at-up-to.ensures.0 at-if1.false
