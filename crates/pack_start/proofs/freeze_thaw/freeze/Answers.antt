-- `pack_start::freeze` meets its contract, from the contracts of `state_refusal` and `frozen_state`. Assumes nothing.
use Rattle.pack_start.specs.Freeze.{freeze_by}
use Rattle.state.proofs.Answered.{answers_refused, answers_accepted}
use Rattle.pack_start.proofs.freeze_thaw.freeze.Goals as goal

pub returns-then-no-ne0 : goal.returns-then-no-ne0
unfolding freeze_by
returns-then-no-ne0 c = answers_refused _ _ _ _ c.state_refusal-no.ensures c.if-no-ne0.true

pub returns : goal.returns
unfolding freeze_by
returns c = answers_accepted _ _ _ _ _ c.state_refusal-no.ensures c.if-no-ne0.false c.frozen_state.ensures
