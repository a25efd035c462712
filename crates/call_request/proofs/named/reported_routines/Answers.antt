-- `call_request::named::reported_routines` meets its contract, branch by branch. Assumes nothing.
use mathlib.Core.Path.{sym, ◌∙◌}
use Rattle.call_request.specs.Named.{reported_routines}
use Rattle.call_request.proofs.named.reported_routines.Goals as goal

pub returns-then-answers_request : goal.returns-then-answers_request
unfolding reported_routines
returns-then-answers_request c = rw (sym c.answers_request.ensures ∙ c.if-answers_request.true) c.answered.ensures

pub returns-else-answers_request : goal.returns-else-answers_request
unfolding reported_routines
returns-else-answers_request c = rw (sym c.answers_request.ensures ∙ c.if-answers_request.false)
