-- `block::blocks::judge` meets its contract, by the rows of the refusals in their order. Assumes nothing.
use Rattle.std.proofs.Common.{◌≡◌, List, ℕ, ◌-◌, length, take, get_or, ◌&&◌, sym, ap, ap₂, ◌∙◌, arith, add-zero}
use Rattle.std.proofs.lemmas.List.{get_or-drop}
use Rattle.std.proofs.lemmas.Option.{unwrap_or-slice_get}
use Rattle.std.specs.Option.{unwrap_or}
use Rattle.area.specs.Lists.{all_of}
use Rattle.area.specs.Parts.{is_word}
use Rattle.area.proofs.Walks.{and_left}
use Rattle.word.specs.declared.Checked.{Checked}
use Rattle.word.specs.Sums.{logical_sum}
use Rattle.word.proofs.Laws.Sum.{summed_fits, summed_sum}
use Rattle.block.specs.Blocks.{data_words}
use Rattle.block.proofs.Laws.Block.{judge_bad_number, judge_spoilt, judge_short, judge_found, block_words}
use Rattle.block.proofs.blocks.judge.Goals as goal

pub returns-then-number-gt-LAST_NUMBER : goal.returns-then-number-gt-LAST_NUMBER
returns-then-number-gt-LAST_NUMBER c = let a = c.args in
    c.refused.ensures
    ∙ judge_bad_number a.block.now a.sequence a.check a.number (omega arith)

pub returns-then-not-s-are_words : goal.returns-then-not-s-are_words
returns-then-not-s-are_words c = let a = c.args in
    let block = a.block.now in
    let n = c.saturating_sub-n.result in
    let fits = summed_fits c.split_at.result.0.now c.logical_sum-s.result c.logical_sum-s.ensures in
    let both = ap₂ ◌&&◌ (fits ∙ ap (all_of is_word) c.split_at.ensures.front) (c.are_words.ensures ∙ ap (all_of is_word) c.split_at.ensures.back) ∙ block_words block n in
    c.refused-then-not-s-are_words.ensures
    ∙ judge_spoilt block a.sequence a.check a.number (omega arith) (sym both ∙ c.if-not-s-are_words.true)

pub returns-then-n-eq0 : goal.returns-then-n-eq0
returns-then-n-eq0 c = let a = c.args in
    let block = a.block.now in
    let n = c.saturating_sub-n.result in
    let fits = summed_fits c.split_at.result.0.now c.logical_sum-s.result c.logical_sum-s.ensures in
    let both = ap₂ ◌&&◌ (fits ∙ ap (all_of is_word) c.split_at.ensures.front) (c.are_words.ensures ∙ ap (all_of is_word) c.split_at.ensures.back) ∙ block_words block n in
    c.refused-then-n-eq0.ensures
    ∙ judge_short block a.sequence a.check a.number (omega arith) (sym both ∙ c.if-not-s-are_words.false) (omega (arith, c.saturating_sub-n.ensures, c.extra-e.ensures.0))

pub returns : goal.returns
returns c = let a = c.args in
    let block = a.block.now in
    let n = c.saturating_sub-n.result in
    let fits = summed_fits c.split_at.result.0.now c.logical_sum-s.result c.logical_sum-s.ensures in
    let both = ap₂ ◌&&◌ (fits ∙ ap (all_of is_word) c.split_at.ensures.front) (c.are_words.ensures ∙ ap (all_of is_word) c.split_at.ensures.back) ∙ block_words block n in
    let at : n ≡ data_words block a.sequence a.check = c.saturating_sub-n.ensures ∙ ap (λ (e : ℕ). length block - e) c.extra-e.ensures.0 in
    let sum = summed_sum c.split_at.result.0.now c.logical_sum-s.result c.logical_sum-s.ensures (sym fits ∙ and_left _ _ c.if-not-s-are_words.false) in
    let first : c.unwrap_or-w.result ≡ get_or c.split_at.result.1.now 0 0 =
    c.unwrap_or-w.ensures ∙ ap (λ o. unwrap_or o 0) (c.copied.ensures ∙ c.first.ensures.value) ∙ unwrap_or-slice_get c.split_at.result.1.now 0 0 in
    ap (λ (x : Checked). record { refusal = 0; found = x }) c.check_of.ensures
    ∙ judge_found block a.sequence a.check a.number (omega arith) (sym both ∙ c.if-not-s-are_words.false) c.logical_sum-s.result.sum c.unwrap_or-w.result
    (omega (arith, at, c.extra-e.ensures.1))
    (sum ∙ ap logical_sum (c.split_at.ensures.front ∙ ap (λ (k : ℕ). take k block) at))
    (first ∙ ap (λ (l : List ℕ). get_or l 0 0) c.split_at.ensures.back ∙ get_or-drop n block 0 0 ∙ ap (λ (k : ℕ). get_or block k 0) (add-zero n ∙ at))
