use mathlib.Core.Path.{◌≡◌}
use mathlib.Core.List.{map}
use lib.ListN.{length, drop}
use Rattle.channel.specs.Units.{channel_count}
use Rattle.routines.specs.Posts.{dues_in}
use Rattle.routines.specs.Waits.{highest_from}
use Rattle.routines.proofs.table.highest_in.Given as goal

abbrev pub invariant-loop-i : goal.invariant-loop-i
invariant-loop-i l = (length l.posts ≡ channel_count) × (highest_from 0 (map dues_in l.posts) l.initial.best ≡ highest_from l.i (map dues_in (drop l.i l.posts)) l.best)
