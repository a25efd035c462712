use mathlib.Core.Path.{◌≡◌}
use Prim.Native.Nat.{◌+◌, ◌*◌}
use lib.ListN.{replicate}
use Rattle.codec.proofs.Loops.{HasRead}
use Rattle.state.specs.Places.{channel_count, no_channel}
use Rattle.state_image.specs.Units.{channel_codec, channel_head, unit_size}
use Rattle.state_image.proofs.units.channels_at.Given as goal

abbrev pub invariant-loop-channel : goal.invariant-loop-channel
invariant-loop-channel l = (l.size ≡ channel_head + l.n * unit_size) × (l.initial.channel-items ≡ replicate channel_count no_channel) × HasRead (channel_codec l.n) channel_count channel_count l.start l.b l.initial.channel-items l.channel-index l.at l.channel-items
