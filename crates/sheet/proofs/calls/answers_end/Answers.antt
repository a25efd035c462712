-- `sheet::calls::answers_end` meets its contract, branch by branch. Assumes nothing.
use Rattle.sheet.proofs.Steps.{ends_done, ends_idle, ends_begun, ends_missing}
use Rattle.sheet.proofs.calls.answers_end.Goals as goal

pub returns-then-d : goal.returns-then-d
returns-then-d c = ends_done c.args.d c.args.other.now c.args.out.now c.if-d.true

pub returns-then-not-d : goal.returns-then-not-d
returns-then-not-d c = ends_idle c.args.d c.args.other.now c.args.out.now c.if-d.false c.if-not-d.true _ c.with_done.ensures

pub returns-then-has_begun : goal.returns-then-has_begun
returns-then-has_begun c = ends_begun c.args.d c.args.other.now c.args.out.now c.if-d.false c.if-not-d.false _ c.has_begun.ensures c.if-has_begun.true _ c.text_of.ensures _ c.compared.ensures _ c.with_done-then-has_begun.ensures

pub returns : goal.returns
returns c = ends_missing c.args.d c.args.other.now c.args.out.now c.if-d.false c.if-not-d.false _ c.has_begun.ensures c.if-has_begun.false _ c.missing.ensures _ c.with_done-2.ensures
