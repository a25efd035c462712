-- `state_image::units::channels_at` meets its contract. After i turns the first i channels are read (`HasRead`). Assumes nothing.
use mathlib.Core.Path.{refl, ap}
use native.Mathlib.Omega.{arith}
use lib.ListN.{drop}
use Rattle.codec.proofs.Loops.{read_none, read_room, read_one, read_all}
use Rattle.state.specs.Places.{channel_count, no_channel}
use Rattle.state_image.specs.Units.{channel_codec}
use Rattle.state_image.proofs.units.channels_at.Goals as goal

pub loop-channel-init : goal.loop-channel-init
loop-channel-init c = (refl, rw c.fresh-none.ensures, read_none (channel_codec c.args.n) channel_count channel_count c.args.start c.args.b.now _ (omega arith) (omega (arith, c.requires)) refl)

pub channel_at-c-requires : goal.channel_at-c-requires
channel_at-c-requires c = (c.requires.0, read_room (channel_codec c.args.n) channel_count channel_count c.args.start c.args.b.now _ c.loop-channel.channel-index c.loop-channel.at c.loop-channel.channel-items c.loop-channel.invariant.2 (omega arith))

pub overflow_add-at : goal.overflow_add-at
overflow_add-at c = omega (arith, read_room (channel_codec c.args.n) channel_count channel_count c.args.start c.args.b.now _ c.loop-channel.channel-index c.loop-channel.at c.loop-channel.channel-items c.loop-channel.invariant.2 (omega arith), c.well_formed)

pub loop-channel-preserved : goal.loop-channel-preserved
loop-channel-preserved c = (refl, c.loop-channel.invariant.1, rw c.channel_at-c.ensures (read_one (channel_codec c.args.n) channel_count channel_count c.args.start c.args.b.now _ c.loop-channel.channel-index c.loop-channel.at c.loop-channel.channel-items c.loop-channel.invariant.2 (omega arith)))

pub returns : goal.returns
returns c = read_all (channel_codec c.args.n) channel_count channel_count c.args.start c.args.b.now _ no_channel c.loop-channel.channel-index c.loop-channel.at c.loop-channel.channel-items c.loop-channel.invariant.2 (omega arith) (ap (drop channel_count) c.loop-channel.invariant.1)
