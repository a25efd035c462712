-- `call_request::named::asked_routines` meets its contract, from the contracts of `due_of` and `asked`. Assumes nothing.
use mathlib.Core.Path.{◌∙◌}
use Rattle.call_request.proofs.named.asked_routines.Goals as goal

pub returns : goal.returns
returns c = c.asked.ensures ∙ rw c.due_of.ensures
