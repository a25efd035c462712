use mathlib.Core.Path.{◌≡◌}
use Prim.Native.Nat.{◌+◌, ◌*◌}
use Rattle.codec.proofs.Loops.{HasWritten}
use Rattle.state_image.proofs.Keeps.{channel_sized}
use Rattle.state.specs.Places.{channel_count}
use Rattle.state_image.specs.Units.{channel_codec, channel_head, unit_size}
use Rattle.state_image.proofs.units.put_channels.Given as goal

abbrev pub invariant-loop-channel : goal.invariant-loop-channel
invariant-loop-channel l = (l.size ≡ channel_head + l.n * unit_size) × HasWritten (channel_codec l.n) (channel_sized l.n) channel_count l.at l.fn.channels l.initial.out l.channel-index l.to l.out
