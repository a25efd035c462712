-- `pack_routine::what_runs` meets its contract, from the contracts of `is_sound`, `running_on` and `ran_in`. Assumes nothing.
use mathlib.Core.Path.{◌∙◌}
use Rattle.pack_routine.specs.Calls.{running_by}
use Rattle.pack_routine.proofs.returns.what_runs.Goals as goal

pub returns : goal.returns
unfolding running_by
returns c = c.ran_in.ensures ∙ rw (c.running_on.ensures, c.is_sound-whole.ensures)
