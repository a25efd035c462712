-- `session_frame::frames::size_at` meets its contract: past the end both bytes are 0. Assumes nothing.
use mathlib.Core.Path.{sym}
use Rattle.session_frame.proofs.Laws.Bytes.{size_past}
use Rattle.session_frame.proofs.frames.size_at.Goals as goal

pub returns-then-line-k : goal.returns-then-line-k
returns-then-line-k c = let a = c.args in
    sym (size_past a.line.now a.k c.if-line-k.true)
