-- `state_image::programs::put_unit_posts` meets its contract. After i turns the first i posts are put (`HasWritten`). Assumes nothing.
use Rattle.channel.specs.Units.{unit_count}
use Rattle.codec.proofs.Loops.{written_none, written_room, written_length, written_one, written_all}
use Rattle.routines.specs.Posts.{empty_post}
use Rattle.state_image.proofs.Posts.{post_keeps}
use Rattle.state_image.specs.Routines.{post_codec}
use native.Mathlib.Omega.{arith}
use Rattle.state_image.proofs.programs.put_unit_posts.Goals as goal

pub loop-i-init : goal.loop-i-init
loop-i-init c = let a = c.args in written_none post_codec post_keeps.sized a.n a.at a.units a.out.now (omega (arith, c.well_formed, c.requires)) (omega (arith, c.requires))

pub bounds-units-i : goal.bounds-units-i
bounds-units-i c = omega (arith, c.loop-i.invariant.within, c.requires)

pub put_post-requires : goal.put_post-requires
put_post-requires c = let a = c.args in written_room post_codec post_keeps.sized a.n a.at a.units a.out.now c.loop-i.i c.loop-i.to c.loop-i.out c.loop-i.invariant (omega arith)

pub overflow_add-to : goal.overflow_add-to
overflow_add-to c = let a = c.args in omega (arith, written_room post_codec post_keeps.sized a.n a.at a.units a.out.now c.loop-i.i c.loop-i.to c.loop-i.out c.loop-i.invariant (omega arith), written_length post_codec post_keeps.sized a.n a.at a.units a.out.now c.loop-i.i c.loop-i.to c.loop-i.out c.loop-i.invariant, c.well_formed)

pub loop-i-preserved : goal.loop-i-preserved
loop-i-preserved c = let a = c.args in rw c.put_post.ensures (written_one post_codec post_keeps.sized a.n a.at a.units a.out.now empty_post c.loop-i.i c.loop-i.to c.loop-i.out c.loop-i.invariant (omega arith))

pub shape_of-out : goal.shape_of-out
shape_of-out c = let a = c.args in written_length post_codec post_keeps.sized a.n a.at a.units a.out.now c.loop-i.i c.loop-i.to c.loop-i.out c.loop-i.invariant

pub returns : goal.returns
returns c = let a = c.args in written_all post_codec post_keeps.sized a.n a.at a.units a.out.now empty_post unit_count c.loop-i.i c.loop-i.to c.loop-i.out c.loop-i.invariant (omega arith)
