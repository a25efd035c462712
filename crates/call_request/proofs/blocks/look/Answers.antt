-- `call_request::blocks::look` meets its contract: a block number in range leaves refusal 2 to the words alone. Assumes nothing.
use mathlib.Core.Path.{◌≡◌, ◌∙◌}
use Rattle.call_request.specs.Report.{delivery_check}
use Rattle.call_request.proofs.Found.{look_judged, look_other}
use Rattle.call_request.proofs.blocks.look.Goals as goal

pub returns-then-brings-f : goal.returns-then-brings-f
returns-then-brings-f c =
    let k = look_judged c.args.x c.args.f c.args.words.now _ c.is_delivery-brings.ensures c.if-brings-f.true _ c.judge-judged.ensures in
    c.then_some.ensures ∙ rw (k.0, k.1)

pub returns : goal.returns
returns c =
    let e : c.not_checked.result ≡ delivery_check c.args.x c.args.f c.args.words.now =
    c.not_checked.ensures ∙ look_other c.args.x c.args.f c.args.words.now _ c.is_delivery-brings.ensures c.if-brings-f.false in
    c.then_some-2.ensures ∙ rw (c.are_words.ensures, e)
