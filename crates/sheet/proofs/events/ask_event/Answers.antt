-- `sheet::events::ask_event` meets its contract, from that of `file_at`. Assumes nothing.
use Rattle.sheet.specs.Events.{ask_event}
use Rattle.sheet.proofs.events.ask_event.Goals as goal

pub returns : goal.returns
unfolding ask_event
returns c = simp (c.file_at-f.ensures, c.no_event.ensures)
