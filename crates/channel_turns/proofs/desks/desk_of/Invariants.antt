use mathlib.Core.Path.{◌≡◌}
use Rattle.channel.specs.Units.{unit_count, size}
use Rattle.channel_turns.specs.Scans.{ordinary, priority, working, stands}
use Rattle.channel_turns.proofs.Laws.Masks.{Passed}
use Rattle.channel_turns.proofs.desks.desk_of.Given as goal

abbrev pub invariant-loop-i : goal.invariant-loop-i
invariant-loop-i l = (size l.c ≡ unit_count) × Passed (stands l.c working) l.i l.working × Passed (stands l.c priority) l.i l.priority × Passed (stands l.c ordinary) l.i l.ordinary
