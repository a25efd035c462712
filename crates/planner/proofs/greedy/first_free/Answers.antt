-- `planner::greedy::first_free` meets its contract: from every place on the way the same buffer is the lowest free one. Assumes nothing.
use Rattle.std.proofs.Common.{◌≡◌, ◌<◌, ◌≤◌, length, arith}
use borrow.Author.Tests.{ne_eqb}
use borrow.Author.Rules.{rules}
use Rattle.planner.proofs.Turns.{free_stop, free_go, free_end}
use Rattle.planner.proofs.greedy.first_free.Goals as goal

pub returns-then-owner-i-eq0 : goal.returns-then-owner-i-eq0
returns-then-owner-i-eq0 c =
    let long : length c.args.owner ≡ 64 = search rules in
    let h : c.loop-i.i < length c.args.owner = omega arith in
    (omega (arith, free_stop c.args.owner c.loop-i.i h c.if-owner-i-eq0.true), omega arith)

pub loop-i-preserved : goal.loop-i-preserved
loop-i-preserved c =
    let long : length c.args.owner ≡ 64 = search rules in
    let h : c.loop-i.i < length c.args.owner = omega arith in
    omega (arith, free_go c.args.owner c.loop-i.i h (ne_eqb _ _ c.if-owner-i-eq0.false))

pub returns : goal.returns
returns c =
    let long : length c.args.owner ≡ 64 = search rules in
    let h : length c.args.owner ≤ c.loop-i.i = omega arith in
    (omega (arith, free_end c.args.owner c.loop-i.i h), omega (arith, free_end c.args.owner c.loop-i.i h))
