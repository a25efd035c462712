-- `pack_record::get_words` meets its contract: the part that the answer of get shows. Assumes nothing.
use Rattle.pack_record.proofs.InputSteps.{get_shown}
use Rattle.pack_record.proofs.gets.get_words.Goals as goal

pub returns : goal.returns
returns c = let a = c.args in
    get_shown a.s a.area.now a.file c.is_misused-wrong.result c.file_at-f.result c.is_misused-wrong.ensures c.file_at-f.ensures c.get_on.result c.get_on.ensures _ c.got_words.ensures
