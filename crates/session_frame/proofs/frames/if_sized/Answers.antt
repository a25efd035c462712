-- `session_frame::frames::if_sized` meets its contract, by whether the size is the one asked for. Assumes nothing.
use mathlib.Core.Path.{sym}
use Rattle.session_frame.proofs.Laws.Sizes.{sized_yes, sized_no}
use Rattle.session_frame.proofs.frames.if_sized.Goals as goal

pub returns-then-n-size : goal.returns-then-n-size
returns-then-n-size c = sym (sized_yes c.args.n c.args.size c.args.f c.if-n-size.true)

pub returns : goal.returns
returns c = sym (sized_no c.args.n c.args.size c.args.f c.if-n-size.false)
