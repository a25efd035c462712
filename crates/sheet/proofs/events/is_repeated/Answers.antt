-- `sheet::events::is_repeated` meets its contract, from that of `is_pair`. Assumes nothing.

use Rattle.sheet.proofs.events.is_repeated.Goals as goal

pub returns : goal.returns
returns c = simp (c.is_pair-plain.ensures, c.is_pair-cleaner.ensures)
