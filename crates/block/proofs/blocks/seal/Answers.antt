-- `block::blocks::seal` meets its contract: an accepted block with a check word has a place for it. Assumes nothing.
use Rattle.std.proofs.Common.{◌<◌, length, sym, ap, ◌∙◌, rules}
use lib.ListN.{set}
use Rattle.block.proofs.Laws.Block.{seal_place, seal_writes, seal_leaves, seal_refused, unsealed_some}
use Rattle.block.proofs.blocks.seal.Goals as goal

pub offset_bounds-block-n : goal.offset_bounds-block-n
offset_bounds-block-n c = let a = c.args in
    let h : a.n < length a.block.now = seal_place a.block.now a.n a.sequence a.check a.number c.in-Ok.ensures.0 c.if-sequence-check.true in
    search rules

pub bounds-block-n : goal.bounds-block-n
bounds-block-n c = let a = c.args in seal_place a.block.now a.n a.sequence a.check a.number c.in-Ok.ensures.0 c.if-sequence-check.true

pub returns-then-sequence-check-clause-block_after : goal.returns-then-sequence-check-clause-block_after
returns-then-sequence-check-clause-block_after c = let a = c.args in
    ap (set a.block.now a.n) c.in-Ok.ensures.1 ∙ sym (seal_writes a.block.now a.n a.sequence a.check a.number c.in-Ok.ensures.0 c.if-sequence-check.true)

pub returns-else-sequence-check-clause-block_after : goal.returns-else-sequence-check-clause-block_after
returns-else-sequence-check-clause-block_after c = let a = c.args in sym (seal_leaves a.block.now a.n a.sequence a.check a.number c.in-Ok.ensures.0 c.if-sequence-check.false)

pub returns-in-Err-clause-block_after : goal.returns-in-Err-clause-block_after
returns-in-Err-clause-block_after c = let a = c.args in
    sym (seal_refused a.block.now a.n a.sequence a.check a.number (λ z. unsealed_some c.in-Err.why (sym c.in-Err.ensures ∙ z)))
