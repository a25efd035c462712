-- `call_record::get_answer` meets its contract: refused, or what get finds in the file. Assumes nothing.
use Rattle.call_record.proofs.GetSteps.{get_refused, get_taken}
use Rattle.call_record.proofs.get.get_answer.Goals as goal

pub returns-then-refusal-ne0 : goal.returns-then-refusal-ne0
returns-then-refusal-ne0 c = get_refused c.args.c1 c.args.f c.args.w c.args.area.now c.get-got.result c.get-got.ensures _ c.get_refusal-refusal.ensures c.if-refusal-ne0.true

pub returns : goal.returns
returns c = get_taken c.args.c1 c.args.f c.args.w c.args.area.now c.get-got.result c.get-got.ensures _ c.get_refusal-refusal.ensures c.if-refusal-ne0.false
