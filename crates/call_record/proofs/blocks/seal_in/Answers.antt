-- `call_record::seal_in` meets its contract: what the area has of the buffer is sealed and put back. Assumes nothing.
use Rattle.call_record.proofs.Seals.{sealed_past, sealed_end}
use Rattle.call_record.proofs.blocks.seal_in.Goals as goal

pub returns-then-area-at : goal.returns-then-area-at
returns-then-area-at c = let a = c.args in
    sealed_past a.n a.sequence a.check a.number a.at a.w a.area.now c.if-area-at.true

pub returns : goal.returns
returns c = let a = c.args in
    sealed_end a.n a.sequence a.check a.number a.at a.w _ a.area.now _ c.if-area-at.false c.min-end.ensures c.seal.ensures.block_after
