-- `block::blocks::sealed_word` meets its contract, by the rows of the refusals in their order. Where check sums are not chosen no word is
-- summed, and the check word does not depend on the sum. Assumes nothing.
use Rattle.std.proofs.Common.{◌≡◌, ℕ, take, true, false, sym, ap, ◌∙◌, arith}
use borrow.Author.Tests.{not-true, not-false}
use mathlib.Core.Bool.{not, ◌&&◌}
use Rattle.area.specs.Lists.{all_of}
use Rattle.area.specs.Parts.{is_word}
use Rattle.word.specs.Sums.{logical_sum}
use Rattle.word.specs.CheckWords.{check_word}
use Rattle.word.proofs.Laws.Sum.{summed_fits, summed_sum}
use Rattle.block.proofs.Laws.Block.{seal_bad_number, seal_no_room, seal_spoilt, seal_accepted, seal_summed, seal_word}
use Rattle.block.proofs.blocks.sealed_word.Goals.{then-number-gt-LAST_NUMBER-via-then-number-gt-LAST_NUMBER, then-number-gt-LAST_NUMBER-via-else-number-gt-LAST_NUMBER+then-block-n, then-number-gt-LAST_NUMBER-via-else-number-gt-LAST_NUMBER+else-block-n+then-block-n-2}
use Rattle.block.proofs.blocks.sealed_word.Goals as goal

pub returns-then-number-gt-LAST_NUMBER : goal.returns-then-number-gt-LAST_NUMBER
returns-then-number-gt-LAST_NUMBER c = let a = c.args in
    let e = c.extra-e.ensures.0 in
    elim c.then-number-gt-LAST_NUMBER.branch [
      | then-number-gt-LAST_NUMBER-via-then-number-gt-LAST_NUMBER w ↦ seal_bad_number a.block.now a.n a.sequence a.check a.number (omega arith)
      | then-number-gt-LAST_NUMBER-via-else-number-gt-LAST_NUMBER+then-block-n w ↦ seal_no_room a.block.now a.n a.sequence a.check a.number (omega arith)
      | then-number-gt-LAST_NUMBER-via-else-number-gt-LAST_NUMBER+else-block-n+then-block-n-2 w ↦ seal_no_room a.block.now a.n a.sequence a.check a.number (omega (arith, e))
    ]

pub returns-then-not-s : goal.returns-then-not-s
returns-then-not-s c = let a = c.args in
    let k = c.summed_words-k.result in
    let tall : all_of is_word (take k a.block.now) ≡ false = sym (summed_fits (take k a.block.now) c.logical_sum-s.result c.logical_sum-s.ensures) ∙ not-true _ c.if-not-s.true in
    let spoilt : not (a.check && not (all_of is_word (take a.n a.block.now))) ≡ false =
    sym (seal_summed a.block.now a.n a.sequence a.check a.number) ∙ ap (λ (j : ℕ). all_of is_word (take j a.block.now)) (sym c.summed_words-k.ensures.0) ∙ tall in
    seal_spoilt a.block.now a.n a.sequence a.check a.number (omega arith) (omega (arith, c.extra-e.ensures.0)) (not-false _ spoilt)

pub returns : goal.returns
returns c = let a = c.args in
    let k = c.summed_words-k.result in
    let at = ap (λ (j : ℕ). take j a.block.now) c.summed_words-k.ensures.0 in
    let all : all_of is_word (take k a.block.now) ≡ true = sym (summed_fits (take k a.block.now) c.logical_sum-s.result c.logical_sum-s.ensures) ∙ not-false _ c.if-not-s.false in
    let fine : not (a.check && not (all_of is_word (take a.n a.block.now))) ≡ true =
    sym (seal_summed a.block.now a.n a.sequence a.check a.number) ∙ ap (all_of is_word) (sym at) ∙ all in (
      seal_accepted a.block.now a.n a.sequence a.check a.number (omega arith) (omega (arith, c.extra-e.ensures.0)) (not-true _ fine),
      c.check_word.ensures.0
          ∙ ap (λ (s : ℕ). check_word a.sequence a.check s a.number) (summed_sum (take k a.block.now) c.logical_sum-s.result c.logical_sum-s.ensures all ∙ ap logical_sum at)
          ∙ seal_word a.block.now a.n a.sequence a.check a.number,
    )
