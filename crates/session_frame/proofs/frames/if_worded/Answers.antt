-- `session_frame::frames::if_worded` meets its contract, by what is left after the head. Assumes nothing.
use mathlib.Core.Path.{sym}
use Rattle.session_frame.proofs.Laws.Sizes.{worded_short, worded_yes, worded_no}
use Rattle.session_frame.proofs.frames.if_worded.Goals as goal

pub returns-then-n-head : goal.returns-then-n-head
returns-then-n-head c = sym (worded_short c.args.n c.args.head c.args.f c.if-n-head.true)

pub returns-then-n-head-eq0 : goal.returns-then-n-head-eq0
returns-then-n-head-eq0 c = let a = c.args in
    sym (worded_yes a.n a.head a.f c.if-n-head.false c.if-n-head-eq0.true)

pub returns : goal.returns
returns c = let a = c.args in
    sym (worded_no a.n a.head a.f c.if-n-head.false c.if-n-head-eq0.false)
