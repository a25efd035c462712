-- `pack_request::changes::changed_state` meets its contract, branch by branch. Assumes nothing.
use borrow.Author.Tests.{eq-eqb, ne_eqb}
use Rattle.pack_request.specs.Changes.{changed_state}
use Rattle.pack_request.proofs.changes.changed_state.Goals as goal

pub returns-then-refusal-eq0 : goal.returns-then-refusal-eq0
unfolding changed_state
returns-then-refusal-eq0 c = rw (eq-eqb _ _ c.if-refusal-eq0.true, ← c.with_channel.ensures, ← c.with_file.ensures) c.with_routines.ensures

pub returns-else-refusal-eq0 : goal.returns-else-refusal-eq0
unfolding changed_state
returns-else-refusal-eq0 c = rw (ne_eqb _ _ c.if-refusal-eq0.false)
