-- `pack_record::get` meets its contract: the change of the one file is stored, or the call is refused. Assumes nothing.
use Rattle.pack_record.proofs.InputSteps.{get_state_kept, get_state}
use Rattle.pack_record.proofs.gets.get.Goals as goal

pub returns-then-x-ne0 : goal.returns-then-x-ne0
returns-then-x-ne0 c = let a = c.args in
    get_state_kept a.s a.area.now a.file c.is_misused-c1.result c.file_at-f.result c.is_misused-c1.ensures c.file_at-f.ensures c.get_on-x.result c.get_on-x.ensures c.if-x-ne0.true

pub returns : goal.returns
returns c = let a = c.args in
    get_state a.s a.area.now a.file c.is_misused-c1.result c.file_at-f.result c.is_misused-c1.ensures c.file_at-f.ensures c.get_on-x.result c.get_on-x.ensures c.if-x-ne0.false c.with_file-t.result c.with_file-t.ensures
