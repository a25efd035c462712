-- `call_record::put_in` meets its contract: refused; or filled, and sealed if the block is complete. Assumes nothing.
use Rattle.call_record.proofs.PutSteps.{put_refused, put_complete, put_open}
use Rattle.call_record.proofs.put.put_in.Goals as goal

pub returns-then-no-ne0-clause-area_after : goal.returns-then-no-ne0-clause-area_after
returns-then-no-ne0-clause-area_after c = let a = c.args in
    put_refused a.c1 a.f a.w a.area.now a.words.now _ c.put_refusal-no.ensures c.if-no-ne0.true

pub returns-then-is_complete-clause-area_after : goal.returns-then-is_complete-clause-area_after
returns-then-is_complete-clause-area_after c = let a = c.args in
    put_complete a.c1 a.f a.w a.area.now a.words.now _ c.put_refusal-no.ensures c.if-no-ne0.false _ _ _ c.fill.ensures c.added-g.ensures c.is_complete.ensures c.if-is_complete.true _ c.seal_block.ensures

pub returns-else-is_complete-clause-area_after : goal.returns-else-is_complete-clause-area_after
returns-else-is_complete-clause-area_after c = let a = c.args in
    put_open a.c1 a.f a.w a.area.now a.words.now _ c.put_refusal-no.ensures c.if-no-ne0.false _ _ _ c.fill.ensures c.added-g.ensures c.is_complete.ensures c.if-is_complete.false
