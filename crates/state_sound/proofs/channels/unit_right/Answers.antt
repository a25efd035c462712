-- `state_sound::unit_right` meets its contract, from the contracts of `requested`, `is_none`, `turn_right` and `position_right`. Assumes nothing.
use Rattle.state_sound.specs.Judged.{unit_right}
use Rattle.state_sound.proofs.channels.unit_right.Goals as goal

pub returns : goal.returns
unfolding unit_right
returns c = let x = c in
    simp (x.requested.ensures, x.is_none-idle.ensures, x.turn_right-counts.ensures, x.position_right-stands.ensures)
