-- `session_frame::answers::words_fit` meets its contract: what is left after the place decides. Assumes nothing.
use borrow.Author.Tests.{lt-leb}
use mathlib.Core.Path.{sym}
use Prim.Native.Nat.{◌+◌, ◌*◌, ◌<◌}
use native.Mathlib.Omega.{arith}
use Rattle.session_frame.proofs.Laws.Writes.{words_left_lem}
use Rattle.session_frame.proofs.answers.words_fit.Goals as goal

pub returns-then-len-at : goal.returns-then-len-at
returns-then-len-at c = let h : c.args.len < c.args.at + 10 * c.args.n = omega arith in
    sym (lt-leb _ _ h)

pub returns : goal.returns
returns c = words_left_lem c.args.len c.args.at c.args.n c.if-len-at.false
