-- `state::answer_of` meets its contract, branch by branch, from the contract of `with_file`. Assumes nothing.
use mathlib.Core.Path.{refl}
use Rattle.state.proofs.Answered.{stores_refused, stores_accepted}
use Rattle.state.proofs.answers.answer_of.Goals as goal

pub returns-then-x-ne0 : goal.returns-then-x-ne0
returns-then-x-ne0 c = stores_refused _ _ _ _ refl c.if-x-ne0.true

pub returns : goal.returns
returns c = stores_accepted _ _ _ _ refl _ c.if-x-ne0.false c.with_file.ensures
