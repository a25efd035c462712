-- `state_sound::works_right` meets its contract, from the contracts of `work_count` and `any_waits`. Assumes nothing.

use Rattle.state_sound.proofs.channels.works_right.Goals as goal

pub returns : goal.returns
returns c = simp (c.work_count-n.ensures.0, c.any_waits-waits.ensures)
