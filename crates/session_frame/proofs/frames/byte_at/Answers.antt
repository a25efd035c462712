-- `session_frame::frames::byte_at` meets its contract: byte k is made of the digits 2k and 2k + 1. Assumes nothing.
use mathlib.Core.Path.{sym}
use Rattle.session_frame.proofs.Laws.Bytes.{byte_digits_lem, byte_past}
use Rattle.session_frame.proofs.frames.byte_at.Goals as goal

pub returns-then-line-k : goal.returns-then-line-k
returns-then-line-k c = let a = c.args in
    sym (byte_past a.line.now a.k c.if-line-k.true)

pub returns : goal.returns
returns c = let a = c.args in
    rw (c.value.ensures.0, c.value-2.ensures.0) (sym (byte_digits_lem a.line.now a.k c.if-line-k.false))
