-- `session_frame::answers::line_fits` meets its contract: what is left after the lead and the line feed decides. Assumes nothing.
use borrow.Author.Tests.{lt-leb}
use mathlib.Core.Path.{sym}
use Prim.Native.Nat.{◌<◌, ◌+◌, ◌*◌}
use native.Mathlib.Omega.{arith}
use Rattle.session_frame.proofs.Laws.Texts.{line_room}
use Rattle.session_frame.proofs.answers.line_fits.Goals as goal

pub returns-then-len-least : goal.returns-then-len-least
returns-then-len-least c = let h : c.args.len < 2 * c.args.count + 10 * c.args.n + 1 = omega arith in
    sym (lt-leb _ _ h)

pub returns : goal.returns
returns c = line_room c.args.len c.args.count c.args.n c.if-len-least.false
