-- `call_request::asks::op_of` meets its contract, branch by branch. Assumes nothing.
use borrow.Author.Tests.{eq-eqb, ne_eqb}
use Rattle.call_request.specs.Ask.{op_of}
use Rattle.call_request.proofs.asks.op_of.Goals as goal

pub returns-then-op-eq-READ : goal.returns-then-op-eq-READ
unfolding op_of
returns-then-op-eq-READ c = rw (eq-eqb _ _ c.if-op-eq-READ.true)

pub returns-then-op-eq-WRITE : goal.returns-then-op-eq-WRITE
unfolding op_of
returns-then-op-eq-WRITE c = rw (ne_eqb _ _ c.if-op-eq-READ.false, eq-eqb _ _ c.if-op-eq-WRITE.true)

pub returns : goal.returns
unfolding op_of
returns c = rw (ne_eqb _ _ c.if-op-eq-READ.false, ne_eqb _ _ c.if-op-eq-WRITE.false)
