-- `tape::write::write_words` meets its contract. With the words that are left the bytes are what they are to be (`Put`). Assumes nothing.
use Rattle.tape.proofs.Laws.Writes.{put_none, put_one, put_all}
use Rattle.tape.proofs.write.write_words.Goals as goal

pub loop-i-init : goal.loop-i-init
loop-i-init c = let a = c.args in
    put_none a.area.now a.at a.bcd a.words.now c.requires

pub loop-i-preserved : goal.loop-i-preserved
loop-i-preserved c = let a = c.args in
    put_one a.area.now a.at a.bcd a.words.now c.loop-i.area c.loop-i.i c.loop-i-test.true c.loop-i.invariant _ c.write_word.ensures

pub returns : goal.returns
returns c = let a = c.args in
    put_all a.area.now a.at a.bcd a.words.now c.loop-i.area c.loop-i.i c.loop-i-test.false c.loop-i.invariant
