-- `session_reply::turns::routine_on` meets its contract, by which of the two calls it is. Assumes nothing.
use mathlib.Core.Path.{sym, ◌∙◌}
use Rattle.session_reply.specs.Turns.{routine_of}
use Rattle.session_reply.proofs.turns.routine_on.Goals as goal

pub returns-then-is_return : goal.returns-then-is_return
unfolding routine_of
returns-then-is_return c = rw (sym c.is_return.ensures ∙ c.if-is_return.true) c.given_back.ensures

pub returns : goal.returns
unfolding routine_of
returns c = rw (sym c.is_return.ensures ∙ c.if-is_return.false) c.running.ensures
