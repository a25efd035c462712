-- `state_image::programs::unit_posts_at` meets its contract. After i turns the first i posts are read (`HasRead`). Assumes nothing.
use Rattle.channel.specs.Units.{unit_count}
use Rattle.codec.proofs.Loops.{read_none, read_room, read_one, read_all, drop_blanks}
use Rattle.routines.specs.Posts.{empty_post}
use Rattle.state_image.specs.Routines.{post_codec}
use lib.ListN.{drop}
use mathlib.Core.Path.{refl, ap, ◌∙◌}
use native.Mathlib.Omega.{arith}
use Rattle.state_image.proofs.programs.unit_posts_at.Goals as goal

pub loop-i-init : goal.loop-i-init
loop-i-init c = let a = c.args in (rw c.no_post-blank.ensures, read_none post_codec unit_count a.n a.start a.b.now _ c.requires.0 (omega (arith, c.requires.1)) refl)

pub post_at-x-requires : goal.post_at-x-requires
post_at-x-requires c = let a = c.args in omega (arith, read_room post_codec unit_count a.n a.start a.b.now _ c.loop-i.i c.loop-i.at c.loop-i.units c.loop-i.invariant.1 (omega arith))

pub bounds-units-i : goal.bounds-units-i
bounds-units-i c = omega (arith, c.loop-i.invariant.1.fits)

pub overflow_add-at : goal.overflow_add-at
overflow_add-at c = let a = c.args in omega (arith, read_room post_codec unit_count a.n a.start a.b.now _ c.loop-i.i c.loop-i.at c.loop-i.units c.loop-i.invariant.1 (omega arith), c.well_formed)

pub loop-i-preserved : goal.loop-i-preserved
loop-i-preserved c = let a = c.args in (c.loop-i.invariant.0, rw c.post_at-x.ensures (read_one post_codec unit_count a.n a.start a.b.now _ c.loop-i.i c.loop-i.at c.loop-i.units c.loop-i.invariant.1 (omega arith)))

pub returns : goal.returns
returns c = let a = c.args in read_all post_codec unit_count a.n a.start a.b.now _ empty_post c.loop-i.i c.loop-i.at c.loop-i.units c.loop-i.invariant.1 (omega arith) (ap (drop a.n) c.loop-i.invariant.0 ∙ drop_blanks empty_post a.n unit_count)
