-- `call_request::effects::kept_if` meets its contract, by whether there are words. Assumes nothing.
use mathlib.Core.Path.{sym}
use Rattle.area.proofs.Marks.{cond_true}
use Rattle.call_request.proofs.effects.kept_if.Goals as goal

pub returns-then-some : goal.returns-then-some
returns-then-some c = sym (cond_true _ _ c.if-some.true)
