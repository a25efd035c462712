-- `pack_request::calls::ask` meets its contract: the file and the channel are looked up, and the change is stored. Assumes nothing.
use Rattle.pack_request.proofs.Wholes.{ask_whole}
use Rattle.pack_request.proofs.calls.ask.Goals as goal

pub returns : goal.returns
returns c = let a = c.args in
    ask_whole a.s a.file a.op a.priority a.naming _ _ _ _ _ _ _ c.file_at-f.ensures c.channel_at-c.ensures c.waits_at-waits.ensures c.is_sound-whole.ensures c.ask_on-x.ensures c.asked_routines-routines.ensures c.changed_state.ensures
