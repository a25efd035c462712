-- `all_posts` meets its contract: what is left of the posts gives the answer of the whole. Assumes nothing.
use mathlib.Core.Path.{sym, ◌∙◌}
use Prim.Native.Nat.{◌≤◌, ◌<◌}
use native.Mathlib.Omega.{arith}
use lib.ListN.{length}
use Rattle.area.proofs.Numbered.{from_hit, from_miss, from_done}
use Rattle.routines.specs.Posts.{empty_post}
use Rattle.routines.specs.Right.{post_right}
use Rattle.routines_sound.proofs.judge.all_posts.Goals as goal

pub returns-then-not-post_right : goal.returns-then-not-post_right
returns-then-not-post_right c = let h : c.loop-u.u < length c.args.units = omega arith in from_hit _ _ empty_post _ _ h c.loop-u.invariant.1 (rw (← c.is_declared.ensures, ← c.has_request.ensures) (sym c.post_right.ensures ∙ c.if-not-post_right.true))

pub loop-u-preserved : goal.loop-u-preserved
loop-u-preserved c = let h : c.loop-u.u < length c.args.units = omega arith in (c.loop-u.invariant.0, from_miss _ _ empty_post _ _ h c.loop-u.invariant.1 (rw (← c.is_declared.ensures, ← c.has_request.ensures) (sym c.post_right.ensures ∙ c.if-not-post_right.false)))

pub returns : goal.returns
returns c = let h : length c.args.units ≤ c.loop-u.u = omega arith in from_done _ _ empty_post _ _ h c.loop-u.invariant.1
