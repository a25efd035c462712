-- `call_record::get_on` meets its contract: what get answers, and the file after it. Assumes nothing.
use Rattle.call_record.proofs.GetSteps.{get_keeps, get_changes}
use Rattle.call_record.proofs.get.get_on.Goals as goal

pub returns-then-refusal-ne0 : goal.returns-then-refusal-ne0
returns-then-refusal-ne0 c = let told = c.get_answer-refusal.ensures in
    get_keeps c.args.c1 c.args.f c.args.w c.args.area.now _ _ told.0 told.1 c.if-refusal-ne0.true

pub returns-else-refusal-ne0 : goal.returns-else-refusal-ne0
returns-else-refusal-ne0 c = let told = c.get_answer-refusal.ensures in
    get_changes c.args.c1 c.args.f c.args.w c.args.area.now _ _ told.0 told.1 c.if-refusal-ne0.false _ c.after_get-file.ensures
