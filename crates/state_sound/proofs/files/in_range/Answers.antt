-- `state_sound::in_range` meets its contract, from the contracts of `sizes_fit`, `full_arrival` and `is_arrival`. Assumes nothing.

use Rattle.state_sound.proofs.files.in_range.Goals as goal

pub returns : goal.returns
returns c = simp (
  c.from.ensures,
  c.sizes_fit-sizes.ensures,
  c.is_arrival-a.ensures,
  c.full_arrival.ensures,
  c.is_arrival-b.ensures,
  c.full_arrival-2.ensures,
)
