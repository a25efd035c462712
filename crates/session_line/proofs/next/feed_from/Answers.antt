-- `session_line::next::feed_from` meets its contract. From every place on the way the same line feed is the next. Assumes nothing.
use native.Mathlib.Omega.{arith}
use Rattle.session_line.proofs.Laws.Feeds.{feed_hit, feed_miss, feed_done}
use Rattle.session_line.proofs.next.feed_from.Goals as goal

pub returns-then-bytes-i-eq10 : goal.returns-then-bytes-i-eq10
returns-then-bytes-i-eq10 c = (feed_hit c.args.bytes.now c.loop-i.i _ c.loop-i-test.true c.loop-i.invariant.1 c.if-bytes-i-eq10.true, omega arith, omega arith)

pub loop-i-preserved : goal.loop-i-preserved
loop-i-preserved c = (omega arith, feed_miss c.args.bytes.now c.loop-i.i _ c.loop-i-test.true c.loop-i.invariant.1 c.if-bytes-i-eq10.false)

pub returns : goal.returns
returns c = let e = feed_done c.args.bytes.now c.loop-i.i _ c.loop-i-test.false c.loop-i.invariant.1 in
    (omega arith, omega arith, omega arith)
