-- `tape::write::block_refusal` meets its contract, row by row of the table. Assumes nothing.
use mathlib.Core.Path.{sym, ap, ◌∙◌}
use Rattle.tape.proofs.Laws.Numbers.{given}
use Rattle.tape.proofs.Laws.Writes.{refused_word, refused_none, refused_long, refused_room, refused_not}
use Rattle.tape.proofs.write.block_refusal.Goals as goal
use Rattle.tape.proofs.write.block_refusal.Goals.{then-n-eq0-via-then-n-eq0, then-n-eq0-via-else-n-eq0+then-n-gt-WORDS, then-n-eq0-via-else-n-eq0+else-n-gt-WORDS+then-not-has_room}

pub returns-then-not-are_words : goal.returns-then-not-are_words
returns-then-not-are_words c = let a = c.args in
    ap given (refused_word a.len a.at a.words.now (sym c.are_words.ensures ∙ c.if-not-are_words.true))

pub returns-then-n-eq0 : goal.returns-then-n-eq0
returns-then-n-eq0 c = let a = c.args in
    let good = sym c.are_words.ensures ∙ c.if-not-are_words.false in
    elim c.then-n-eq0.branch [
      | then-n-eq0-via-then-n-eq0 w ↦ ap given (refused_none a.len a.at a.words.now good w.if-n-eq0.true)
      | then-n-eq0-via-else-n-eq0+then-n-gt-WORDS w ↦ ap given (refused_long a.len a.at a.words.now good w.if-n-gt-WORDS.true)
      | then-n-eq0-via-else-n-eq0+else-n-gt-WORDS+then-not-has_room w ↦ ap given (refused_room a.len a.at a.words.now good _ w.has_room.ensures w.if-not-has_room.true)
    ]

pub returns : goal.returns
returns c = let a = c.args in
    ap given (refused_not a.len a.at a.words.now (sym c.are_words.ensures ∙ c.if-not-are_words.false) c.if-n-eq0.false c.if-n-gt-WORDS.false _ c.has_room.ensures c.if-not-has_room.false)
