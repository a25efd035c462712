-- `pack_start::fresh` meets its contract, from the contracts of `is_sound`, `fresh_refusal` and `fresh_state`. Assumes nothing.
use mathlib.Core.Path.{◌∙◌}
use Rattle.pack_start.specs.Fresh.{fresh_by}
use Rattle.state.proofs.Answered.{answers_refused, answers_accepted}
use Rattle.pack_start.proofs.fresh_start.fresh.Goals as goal

pub returns-then-no-ne0 : goal.returns-then-no-ne0
unfolding fresh_by
returns-then-no-ne0 c = answers_refused _ _ _ _ (c.fresh_refusal-no.ensures ∙ simp c.is_sound-whole.ensures) c.if-no-ne0.true

pub returns : goal.returns
unfolding fresh_by
returns c = answers_accepted _ _ _ _ _ (c.fresh_refusal-no.ensures ∙ simp c.is_sound-whole.ensures) c.if-no-ne0.false c.fresh_state.ensures
