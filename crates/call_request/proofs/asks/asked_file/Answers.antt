-- `call_request::asks::asked_file` meets its contract, branch by branch. Assumes nothing.
use borrow.Author.Tests.{eq-eqb, ne_eqb}
use Rattle.call_request.specs.Ask.{asked_file}
use Rattle.call_request.proofs.asks.asked_file.Goals as goal

pub returns-then-op-eq-READ : goal.returns-then-op-eq-READ
unfolding asked_file
returns-then-op-eq-READ c = rw (eq-eqb _ _ c.if-op-eq-READ.true) c.took_buffer.ensures

pub returns-else-op-eq-READ : goal.returns-else-op-eq-READ
unfolding asked_file
returns-else-op-eq-READ c = rw (ne_eqb _ _ c.if-op-eq-READ.false)
