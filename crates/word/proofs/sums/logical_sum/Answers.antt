-- `word::sums::logical_sum` meets its contract. What stands in `sum`, with what is left of the words added to it, is the whole sum; a
-- stretch is added as its own logical sum, and a stretch with a word of 2^36 or more spoils the whole. Assumes nothing.
use Rattle.std.proofs.Common.{◌≡◌, ℕ, Bool, true, false, ◌&&◌, sym, ap, ◌∙◌, arith, rules}
use borrow.Author.Tests.{not-true, not-false}
use Rattle.std.specs.Slice.Iter.{chunks_rest}
use Rattle.area.specs.Lists.{all_of}
use Rattle.area.specs.Parts.{is_word}
use Rattle.word.specs.Sums.{carry_back, sum_from, logical_sum}
use Rattle.word.proofs.Laws.Sum.{stretch_words, stretch_added, sum_done, words_done, summed_fits, summed_sum, summed_lt, summed_of, summed_tall}
use Rattle.word.proofs.sums.logical_sum.Goals as goal

pub loop-stretch-init : goal.loop-stretch-init
unfolding logical_sum
loop-stretch-init c = (search rules, tt, search rules, search rules, search rules, search rules)

pub stretch_sum-part-requires : goal.stretch_sum-part-requires
stretch_sum-part-requires c = omega (arith, c.in-Some.ensures.steps.1.1, c.loop-stretch.invariant.2)

pub returns-then-not-part : goal.returns-then-not-part
returns-then-not-part c = let part = c.in-Some.stretch.now in
    let rest = chunks_rest c.next.new.self in
    let tall : all_of is_word part ≡ false = sym (summed_fits part c.stretch_sum-part.result c.stretch_sum-part.ensures) ∙ not-true _ c.if-not-part.true in
    summed_tall c.args.words.now
    (sym c.loop-stretch.invariant.4 ∙ stretch_words _ part rest c.in-Some.ensures.steps.1.0 ∙ ap (λ (t : Bool). t && all_of is_word rest) tall)

pub carry_back-sum-requires : goal.carry_back-sum-requires
carry_back-sum-requires c =
    (search rules, c.loop-stretch.invariant.3, summed_lt c.in-Some.stretch.now c.stretch_sum-part.result c.stretch_sum-part.ensures)

pub loop-stretch-preserved : goal.loop-stretch-preserved
loop-stretch-preserved c = let t = c.loop-stretch in
    let part = c.in-Some.stretch.now in
    let rest = chunks_rest c.next.new.self in
    let split = c.in-Some.ensures.steps.1.0 in
    let all : all_of is_word part ≡ true = sym (summed_fits part c.stretch_sum-part.result c.stretch_sum-part.ensures) ∙ not-false _ c.if-not-part.false in (
      search rules,
      tt,
      c.in-Some.ensures.steps.0 ∙ t.invariant.2,
      c.carry_back-sum.ensures.1,
      sym (stretch_words _ part rest split ∙ ap (λ (b : Bool). b && all_of is_word rest) all) ∙ t.invariant.4,
      ap (λ (n : ℕ). sum_from n rest) (c.carry_back-sum.ensures.0 ∙ ap (carry_back 36 t.sum) (summed_sum part c.stretch_sum-part.result c.stretch_sum-part.ensures all))
          ∙ stretch_added _ part rest split t.sum t.invariant.3 all
          ∙ t.invariant.5,
    )

pub returns : goal.returns
returns c = let t = c.loop-stretch in
    let left = chunks_rest t.stretch-iterator in
    let none = c.in-None.ensures.steps.1.0 in
    summed_of c.args.words.now t.sum (sym t.invariant.4 ∙ words_done left none) (sym (sum_done left t.sum none) ∙ t.invariant.5)
