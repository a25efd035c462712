-- `state_image::units::put_channels` meets its contract. After i turns the first i channels are put (`HasWritten`). Assumes nothing.
use mathlib.Core.Path.{refl}
use native.Mathlib.Omega.{arith}
use Rattle.codec.proofs.Loops.{written_none, written_room, written_length, written_one, written_all}
use Rattle.state_image.proofs.Keeps.{channel_sized}
use Rattle.state.specs.Places.{channel_count, no_channel}
use mathlib.Core.List.{[]}
use Rattle.state_image.specs.Units.{channel_codec}
use Rattle.state_image.proofs.units.put_channels.Goals as goal

pub loop-channel-init : goal.loop-channel-init
loop-channel-init c = (refl, written_none (channel_codec c.args.n) (channel_sized c.args.n) channel_count c.args.at c.args.channels c.args.out.now (omega (arith, c.well_formed)) (omega (arith, c.requires)))

pub put_channel-requires : goal.put_channel-requires
put_channel-requires c = (c.requires.0, written_room (channel_codec c.args.n) (channel_sized c.args.n) channel_count c.args.at c.args.channels c.args.out.now c.loop-channel.channel-index c.loop-channel.to c.loop-channel.out c.loop-channel.invariant.1 (omega arith))

pub overflow_add-to : goal.overflow_add-to
overflow_add-to c = omega (arith, written_room (channel_codec c.args.n) (channel_sized c.args.n) channel_count c.args.at c.args.channels c.args.out.now c.loop-channel.channel-index c.loop-channel.to c.loop-channel.out c.loop-channel.invariant.1 (omega arith), written_length (channel_codec c.args.n) (channel_sized c.args.n) channel_count c.args.at c.args.channels c.args.out.now c.loop-channel.channel-index c.loop-channel.to c.loop-channel.out c.loop-channel.invariant.1, c.well_formed)

pub loop-channel-preserved : goal.loop-channel-preserved
loop-channel-preserved c = (refl, rw c.put_channel.ensures (written_one (channel_codec c.args.n) (channel_sized c.args.n) channel_count c.args.at c.args.channels c.args.out.now (record { units = []; mark = 0; urgent = 0 }) c.loop-channel.channel-index c.loop-channel.to c.loop-channel.out c.loop-channel.invariant.1 (omega arith)))

pub shape_of-out : goal.shape_of-out
shape_of-out c = written_length (channel_codec c.args.n) (channel_sized c.args.n) channel_count c.args.at c.args.channels c.args.out.now c.loop-channel.channel-index c.loop-channel.to c.loop-channel.out c.loop-channel.invariant.1

pub returns : goal.returns
returns c = written_all (channel_codec c.args.n) (channel_sized c.args.n) channel_count c.args.at c.args.channels c.args.out.now no_channel channel_count c.loop-channel.channel-index c.loop-channel.to c.loop-channel.out c.loop-channel.invariant.1 (omega arith)
