use mathlib.Core.Path.{◌≡◌}
use mathlib.Core.List.{◌++◌, map}
use lib.ListN.{length, take, drop}
use Rattle.channel_turns.specs.Starts.{thaw_of}
use Rattle.state.specs.Places.{channel_count}
use Rattle.pack_start.proofs.freeze_thaw.all_started.Given as goal

abbrev pub invariant-loop-c : goal.invariant-loop-c
invariant-loop-c l = (length l.c-items ≡ channel_count) × (map thaw_of l.initial.c-items ≡ take l.c-index l.c-items ++ map thaw_of (drop l.c-index l.c-items))
