-- `tape::read::block_words` meets its contract. The words that are still to come fill the rest of the area (`Brought`). Assumes nothing.
use Rattle.tape.proofs.Laws.Words.{fit_facts, brought_none, brought_one, brought_all, brought_not}
use Rattle.tape.proofs.read.block_words.Goals as goal

pub returns-then-not-words_fit-clause-area_after : goal.returns-then-not-words_fit-clause-area_after
returns-then-not-words_fit-clause-area_after c = let a = c.args in
    (brought_not a.image.now a.area.now a.place a.n a.at _ c.words_fit.ensures c.if-not-words_fit.true).1

pub loop-i-init : goal.loop-i-init
loop-i-init c = let a = c.args in
    brought_none a.image.now a.area.now a.place a.n a.at (fit_facts a.image.now a.area.now a.place a.n a.at _ c.words_fit.ensures c.if-not-words_fit.false)

pub loop-i-preserved : goal.loop-i-preserved
loop-i-preserved c = let a = c.args in
    brought_one a.image.now a.area.now a.place a.n a.at c.loop-i.area c.loop-i.i _ c.loop-i-test.true c.word_at.ensures c.loop-i.invariant

pub returns-clause-area_after : goal.returns-clause-area_after
returns-clause-area_after c = let a = c.args in
    (brought_all a.image.now a.area.now a.place a.n a.at c.loop-i.area c.loop-i.i c.loop-i-test.false c.loop-i.invariant _ c.words_fit.ensures c.if-not-words_fit.false).1
