-- `sheet::events::is_pair` meets its contract, from that of `char_at`. Assumes nothing.
use Rattle.sheet.specs.Events.{is_pair}
use Rattle.sheet.proofs.events.is_pair.Goals as goal

pub returns : goal.returns
unfolding is_pair
returns c = simp (c.char_at.ensures, c.char_at-2.ensures)
