-- `state_sound::unit_served` meets its contract, branch by branch, from the contracts of `requested`, `is_none` and `is_served`. Assumes nothing.
use Rattle.state_sound.specs.Judged.{unit_served}
use Rattle.state_sound.proofs.channels.unit_served.Goals as goal

pub returns-then-is_none : goal.returns-then-is_none
unfolding unit_served
returns-then-is_none c = rw (← c.requested.ensures, ← c.is_none.ensures, c.if-is_none.true)

pub returns-else-is_none : goal.returns-else-is_none
unfolding unit_served
returns-else-is_none c = rw (← c.requested.ensures, ← c.is_none.ensures, c.if-is_none.false) c.is_served.ensures
