-- `state_image::programs::posts_at` meets its contract. After i turns the posts of the first i channels are read (`HasRead`). Assumes nothing.
use Rattle.channel.specs.Units.{channel_count}
use Rattle.codec.proofs.Loops.{read_none, read_room, read_one, read_all}
use Rattle.state_image.specs.Routines.{posts_codec, empty_posts}
use lib.ListN.{drop}
use mathlib.Core.Path.{refl, ap}
use native.Mathlib.Omega.{arith}
use Rattle.state_image.proofs.programs.posts_at.Goals as goal

pub loop-channel-init : goal.loop-channel-init
loop-channel-init c = let a = c.args in (refl, rw c.no_posts-none.ensures, read_none (posts_codec a.n) channel_count channel_count a.start a.b.now _ (omega arith) (omega (arith, c.requires.1)) refl)

pub unit_posts_at-units-requires : goal.unit_posts_at-units-requires
unit_posts_at-units-requires c = let a = c.args in (c.requires.0, omega (arith, read_room (posts_codec a.n) channel_count channel_count a.start a.b.now _ c.loop-channel.channel-index c.loop-channel.at c.loop-channel.channel-items c.loop-channel.invariant.2 (omega arith)))

pub overflow_add-at : goal.overflow_add-at
overflow_add-at c = let a = c.args in omega (arith, read_room (posts_codec a.n) channel_count channel_count a.start a.b.now _ c.loop-channel.channel-index c.loop-channel.at c.loop-channel.channel-items c.loop-channel.invariant.2 (omega arith), c.well_formed)

pub loop-channel-preserved : goal.loop-channel-preserved
loop-channel-preserved c = let a = c.args in (refl, c.loop-channel.invariant.1, rw c.unit_posts_at-units.ensures (read_one (posts_codec a.n) channel_count channel_count a.start a.b.now _ c.loop-channel.channel-index c.loop-channel.at c.loop-channel.channel-items c.loop-channel.invariant.2 (omega arith)))

pub returns : goal.returns
returns c = let a = c.args in read_all (posts_codec a.n) channel_count channel_count a.start a.b.now _ empty_posts c.loop-channel.channel-index c.loop-channel.at c.loop-channel.channel-items c.loop-channel.invariant.2 (omega arith) (ap (drop channel_count) c.loop-channel.invariant.1)
