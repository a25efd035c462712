-- `sheet::calls::extra` meets its contract, from that of `next_number`. Assumes nothing.

use Rattle.sheet.proofs.calls.extra.Goals as goal

pub returns : goal.returns
returns c = simp c.next_number.ensures
