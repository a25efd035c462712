-- `call_record::seal_in_area` meets its contract: refused, or the block sealed in the area. Assumes nothing.
use Rattle.call_record.proofs.PutSteps.{seal_refused, seal_taken}
use Rattle.call_record.proofs.seal.seal_in_area.Goals as goal

pub returns-then-no-eq0-clause-area_after : goal.returns-then-no-eq0-clause-area_after
returns-then-no-eq0-clause-area_after c = let a = c.args in
    seal_taken a.c1 a.f a.w a.area.now _ c.seal_refusal-no.ensures c.if-no-eq0.true _ c.seal_block.ensures

pub returns-else-no-eq0-clause-area_after : goal.returns-else-no-eq0-clause-area_after
returns-else-no-eq0-clause-area_after c = let a = c.args in
    seal_refused a.c1 a.f a.w a.area.now _ c.seal_refusal-no.ensures c.if-no-eq0.false
