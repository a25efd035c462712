use mathlib.Core.Path.{◌≡◌}
use Prim.Native.Nat.{◌≤◌, ◌<◌}
use Rattle.area.specs.Lists.{first_along}
use Rattle.area.specs.Masks.{bit_at}
use Rattle.channel.specs.Units.{unit_count}
use Rattle.channel_turns.specs.Scans.{next_unit}
use Rattle.channel_turns.specs.Desks.{scan_of}
use Rattle.channel_turns.proofs.scans.scan.Given as goal

abbrev pub invariant-loop-left : goal.invariant-loop-left
invariant-loop-left l = (l.at < unit_count) × (l.left ≤ unit_count) × (scan_of unit_count l.mask l.mark ≡ first_along (next_unit unit_count) (bit_at l.mask) l.left l.at)

abbrev pub decreases-loop-left : goal.decreases-loop-left
decreases-loop-left l = l.left
