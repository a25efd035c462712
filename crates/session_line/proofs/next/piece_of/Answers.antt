-- `session_line::next::piece_of` meets its contract: past the end there is nothing. Assumes nothing.
use mathlib.Core.Path.{sym}
use Prim.Native.Nat.{◌-◌}
use Rattle.area.proofs.Pastes.{part_past}
use Rattle.session_line.proofs.next.piece_of.Goals as goal

pub returns-then-bytes-at : goal.returns-then-bytes-at
returns-then-bytes-at c = let a = c.args in
    sym (part_past a.at (a.end - a.at) a.bytes.now c.if-bytes-at.true)
