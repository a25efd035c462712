-- `pack_routine::give_back` meets its contract, from the contracts of `is_sound`, `return_on` and `ran_in`. Assumes nothing.
use mathlib.Core.Path.{◌∙◌}
use Rattle.pack_routine.specs.Calls.{return_by}
use Rattle.pack_routine.proofs.returns.give_back.Goals as goal

pub returns : goal.returns
unfolding return_by
returns c = c.ran_in.ensures ∙ rw (c.return_on.ensures, c.is_sound-whole.ensures)
