-- `planner::events::wrong_event` meets its contract: for an opening and for a closing, from the contracts of `file_of` and `opens`. Assumes nothing.
use mathlib.Core.Path.{sym, ◌∙◌}
use Rattle.planner.specs.Events.{wrong_event}
use Rattle.planner.proofs.events.wrong_event.Goals as goal

pub returns-then-opens : goal.returns-then-opens
unfolding wrong_event
returns-then-opens c = rw (c.file_of-file.ensures.0, sym c.opens.ensures ∙ c.if-opens.true)

pub returns : goal.returns
unfolding wrong_event
returns c = rw (c.file_of-file.ensures.0, sym c.opens.ensures ∙ c.if-opens.false)
