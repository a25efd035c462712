-- `sheet::calls::answers_part` meets its contract, branch by branch. Assumes nothing.
use Rattle.sheet.proofs.Steps.{answers_shut, answers_extra, answers_none, answers_ended, answers_open}
use Rattle.sheet.proofs.calls.answers_part.Goals as goal

pub returns-then-asks_no_answer : goal.returns-then-asks_no_answer
returns-then-asks_no_answer c = let both = answers_shut c.args.d c.args.other.now c.args.bytes.now c.args.at c.args.out.now _ c.asks_no_answer.ensures c.if-asks_no_answer.true in record { value = both.0; other_after = both.1 }

pub returns-then-at-bytes : goal.returns-then-at-bytes
returns-then-at-bytes c = let both = answers_extra c.args.d c.args.other.now c.args.bytes.now c.args.at c.args.out.now _ c.asks_no_answer.ensures c.if-asks_no_answer.false c.if-not-d.true c.if-at-bytes.true _ c.extra.ensures in record { value = both.0; other_after = both.1 }

pub returns-then-not-d : goal.returns-then-not-d
returns-then-not-d c = let both = answers_none c.args.d c.args.other.now c.args.bytes.now c.args.at c.args.out.now _ c.asks_no_answer.ensures c.if-asks_no_answer.false c.if-not-d.true c.if-at-bytes.false in record { value = both.0; other_after = both.1 }

pub returns-then-step : goal.returns-then-step
returns-then-step c = let both = answers_ended c.args.d c.args.other.now c.args.bytes.now c.args.at c.args.out.now _ c.asks_no_answer.ensures c.if-asks_no_answer.false c.if-not-d.false c.next_line-step.result c.next_line-step.ensures.value _ c.next_line-step.ensures.room_after c.if-step.true _ c.text_of.ensures _ c.compared-desk.ensures in record { value = both.0; other_after = both.1 }

pub returns : goal.returns
returns c = let both = answers_open c.args.d c.args.other.now c.args.bytes.now c.args.at c.args.out.now _ c.asks_no_answer.ensures c.if-asks_no_answer.false c.if-not-d.false c.next_line-step.result c.next_line-step.ensures.value _ c.next_line-step.ensures.room_after c.if-step.false _ c.with_recorded-desk.ensures in record { value = both.0; other_after = both.1 }
