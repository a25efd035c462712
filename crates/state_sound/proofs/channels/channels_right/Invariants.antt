use mathlib.Core.Path.{◌≡◌}
use lib.ListN.{length, drop}
use Rattle.area.specs.Numbered.{all_from}
use Rattle.state.specs.Places.{channel_count}
use Rattle.state_sound.specs.Judged.{channel_right}
use Rattle.state_sound.proofs.channels.channels_right.Given as goal

abbrev pub invariant-loop-i : goal.invariant-loop-i
invariant-loop-i l = (length l.channels ≡ channel_count) × (all_from (channel_right l.m l.frozen l.files) 0 l.channels ≡ all_from (channel_right l.m l.frozen l.files) l.i (drop l.i l.channels))
