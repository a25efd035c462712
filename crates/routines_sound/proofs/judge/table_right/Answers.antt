-- `table_right` meets its contract: what is left of the channels gives the answer of the whole. Assumes nothing.
use mathlib.Core.Path.{sym, ◌∙◌}
use Prim.Native.Nat.{◌≤◌, ◌<◌}
use native.Mathlib.Omega.{arith}
use lib.ListN.{length}
use Rattle.area.proofs.Numbered.{from_hit, from_miss, from_done}
use Rattle.routines.specs.Posts.{no_posts}
use Rattle.routines.specs.Right.{posts_right}
use Rattle.routines_sound.proofs.judge.table_right.Goals as goal

pub returns-then-not-posts_right : goal.returns-then-not-posts_right
unfolding posts_right
returns-then-not-posts_right c = let h : c.loop-i.i < length c.args.posts = omega arith in from_hit _ _ no_posts _ _ h c.loop-i.invariant.1 (rw (← c.channel_in.ensures) (sym c.posts_right.ensures ∙ c.if-not-posts_right.true))

pub loop-i-preserved : goal.loop-i-preserved
unfolding posts_right
loop-i-preserved c = let h : c.loop-i.i < length c.args.posts = omega arith in (c.loop-i.invariant.0, from_miss _ _ no_posts _ _ h c.loop-i.invariant.1 (rw (← c.channel_in.ensures) (sym c.posts_right.ensures ∙ c.if-not-posts_right.false)))

pub returns : goal.returns
returns c = let h : length c.args.posts ≤ c.loop-i.i = omega arith in from_done _ _ no_posts _ _ h c.loop-i.invariant.1
