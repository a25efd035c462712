-- `word::sums::stretch_sum` meets its contract: the total of so few words does not wrap. Assumes nothing.
use Rattle.std.proofs.Common.{◌≡◌, ◌-◌, ◌^◌, true, sym, ap, ◌∙◌, eq-eqb, ne_eqb}
use Rattle.area.specs.Lists.{all_of}
use Rattle.area.specs.Parts.{is_word}
use Rattle.word.specs.Totals.{reduced}
use Rattle.word.proofs.Laws.Sum.{total_fits, summed_of, summed_tall}
use Rattle.word.proofs.sums.stretch_sum.Goals as goal

pub returns-then-t-eq0 : goal.returns-then-t-eq0
returns-then-t-eq0 c = let ws = c.args.words.now in
    let all : all_of is_word ws ≡ true = sym c.tallied-t.ensures.1 ∙ eq-eqb _ _ c.if-t-eq0.true in
    summed_of ws c.put_back-sum.result all
    (c.put_back-sum.ensures.0 ∙ ap (reduced (2 ^ 36 - 1)) c.tallied-t.ensures.0 ∙ total_fits ws all c.requires)

pub returns : goal.returns
returns c = summed_tall c.args.words.now (sym c.tallied-t.ensures.1 ∙ ne_eqb _ _ c.if-t-eq0.false)
