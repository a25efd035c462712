-- `state_image::programs::put_posts` meets its contract. After i turns the posts of the first i channels are put (`HasWritten`). Assumes nothing.
use Rattle.channel.specs.Units.{channel_count}
use Rattle.codec.proofs.Loops.{written_none, written_room, written_length, written_one, written_all}
use Rattle.state_image.proofs.Posts.{posts_sized}
use Rattle.state_image.specs.Routines.{posts_codec, empty_posts}
use mathlib.Core.List.{[]}
use mathlib.Core.Path.{refl}
use native.Mathlib.Omega.{arith}
use Rattle.state_image.proofs.programs.put_posts.Goals as goal

pub loop-channel-init : goal.loop-channel-init
loop-channel-init c = let a = c.args in (refl, written_none (posts_codec a.n) (posts_sized a.n) channel_count a.at a.posts a.out.now (omega (arith, c.well_formed)) (omega (arith, c.requires.1)))

pub put_unit_posts-requires : goal.put_unit_posts-requires
put_unit_posts-requires c = let a = c.args in (c.requires.0, written_room (posts_codec a.n) (posts_sized a.n) channel_count a.at a.posts a.out.now c.loop-channel.channel-index c.loop-channel.to c.loop-channel.out c.loop-channel.invariant.1 (omega arith))

pub overflow_add-to : goal.overflow_add-to
overflow_add-to c = let a = c.args in omega (arith, written_room (posts_codec a.n) (posts_sized a.n) channel_count a.at a.posts a.out.now c.loop-channel.channel-index c.loop-channel.to c.loop-channel.out c.loop-channel.invariant.1 (omega arith), written_length (posts_codec a.n) (posts_sized a.n) channel_count a.at a.posts a.out.now c.loop-channel.channel-index c.loop-channel.to c.loop-channel.out c.loop-channel.invariant.1, c.well_formed)

pub loop-channel-preserved : goal.loop-channel-preserved
loop-channel-preserved c = let a = c.args in (refl, rw c.put_unit_posts.ensures (written_one (posts_codec a.n) (posts_sized a.n) channel_count a.at a.posts a.out.now (record { units = [] }) c.loop-channel.channel-index c.loop-channel.to c.loop-channel.out c.loop-channel.invariant.1 (omega arith)))

pub shape_of-out : goal.shape_of-out
shape_of-out c = let a = c.args in written_length (posts_codec a.n) (posts_sized a.n) channel_count a.at a.posts a.out.now c.loop-channel.channel-index c.loop-channel.to c.loop-channel.out c.loop-channel.invariant.1

pub returns : goal.returns
returns c = let a = c.args in written_all (posts_codec a.n) (posts_sized a.n) channel_count a.at a.posts a.out.now empty_posts channel_count c.loop-channel.channel-index c.loop-channel.to c.loop-channel.out c.loop-channel.invariant.1 (omega arith)
