-- Sealing and judging: when each is refused, what is written, and that the two agree. Assumes nothing.
use borrow.Author.Tests.{ltb-true, ltb-false, lt-ltb, le-ltb, eq-eqb, ne_eqb, not-false}
use mathlib.Core.Path.{◌≡◌, refl, sym, ap, ap₂, ◌∙◌, subst}
use mathlib.Core.Bool.{Bool, true, false, not, ◌&&◌, ◌||◌, not-not}
use mathlib.Core.List.{List}
use Prim.Native.Nat.{ℕ, ◌+◌, ◌^◌, ◌≤◌, ◌<◌}
use native.Mathlib.Omega.{arith}
use lib.Dec.{ltb}
use lib.ListN.{length, take, drop, get_or, set, take-append-drop}
use Rattle.area.specs.Lists.{all_of}
use Rattle.area.specs.Parts.{is_word}
use Rattle.area.proofs.Walks.{by_test, or_left, or_right, or_first, or_second, or_neither, all_append}
use Rattle.area.proofs.Lowest.{lowest_here, lowest_past, lowest_none, lowest_end}
use Rattle.word.specs.Sums.{logical_sum}
use Rattle.word.specs.CheckWords.{chosen, check_word, extra}
use Rattle.word.specs.Checks.{unchecked, check_of}
use Rattle.block.specs.declared.blocks.Unsealed.{Unsealed}
use Rattle.block.specs.declared.blocks.Unsealed.TheVariants.{Argument, TallWord}
use Rattle.block.specs.Blocks.{is_number, block_seal_refusal, unsealed_number, with_check_word, sealed_block, data_words, judge_refusal, judged_block}
use Rattle.word.proofs.Laws.CheckWord.{check_word_unsummed}

-- ---- sealing

-- why a block is not sealed always has a number
pub unsealed_some : (why : Unsealed) → unsealed_number why ≡ 0 → ⊥
unsealed_some Argument e = omega arith
unsealed_some TallWord e = omega arith

module _ (block : List ℕ) (n : ℕ) (sequence check : Bool) (number : ℕ) where
  pub seal_bad_number : 2 ^ 15 ≤ number → block_seal_refusal block n sequence check number ≡ 1
  unfolding block_seal_refusal
  seal_bad_number h = lowest_here _ _ _ (or_first _ _ (ap not (le-ltb number (2 ^ 15) h)))

  pub seal_no_room : length block < n + extra sequence check → block_seal_refusal block n sequence check number ≡ 1
  unfolding block_seal_refusal
  seal_no_room h = lowest_here _ _ _ (or_second (not (is_number number)) _ (lt-ltb (length block) (n + extra sequence check) h))

  module _ (hn : number < 2 ^ 15) (room : n + extra sequence check ≤ length block) where
    roomy : (not (is_number number) || ltb (length block) (n + extra sequence check)) ≡ false
    roomy = or_neither _ _ (ap not (lt-ltb number (2 ^ 15) hn)) (le-ltb (length block) (n + extra sequence check) room)

    pub seal_spoilt : (check && not (all_of is_word (take n block))) ≡ true → block_seal_refusal block n sequence check number ≡ 2
    unfolding block_seal_refusal
    seal_spoilt e = lowest_past _ _ _ roomy ∙ lowest_here _ _ _ e

    pub seal_accepted : (check && not (all_of is_word (take n block))) ≡ false → block_seal_refusal block n sequence check number ≡ 0
    unfolding block_seal_refusal
    seal_accepted e = lowest_past _ _ _ roomy ∙ lowest_past _ _ _ e ∙ lowest_end

  -- what is summed has no word of 2^36 or more exactly if the call is not refused for one; nothing is summed without check sums
  pub seal_summed : all_of is_word (take (chosen check n) block) ≡ not (check && not (all_of is_word (take n block)))
  unfolding all_of
  seal_summed =
      by_test (λ b. all_of is_word (take (chosen b n) block) ≡ not (b && not (all_of is_word (take n block)))) check
      (λ t. sym (not-not (all_of is_word (take n block)))) (λ f. refl)

  pub seal_word : check_word sequence check (logical_sum (take (chosen check n) block)) number ≡ check_word sequence check (logical_sum (take n block)) number
  seal_word =
      by_test (λ b. check_word sequence b (logical_sum (take (chosen b n) block)) number ≡ check_word sequence b (logical_sum (take n block)) number) check
      (λ t. refl) (λ f. check_word_unsummed sequence _ _ number)

  -- an accepted seal: the number is one, the block has room, and no word that is summed is 2^36 or more
  module _ (accepted : block_seal_refusal block n sequence check number ≡ 0) where
    rows : ((not (is_number number) || ltb (length block) (n + extra sequence check)) ≡ false) × ((check && not (all_of is_word (take n block))) ≡ false)
    unfolding block_seal_refusal
    rows =
        let first = lowest_none _ _ _ (λ z. omega arith) accepted in
        (first.0, (lowest_none _ _ _ (λ z. omega arith) first.1).0)

    pub seal_number : number < 2 ^ 15
    seal_number = ltb-true number (2 ^ 15) (not-false _ (or_left _ _ rows.0))

    pub seal_room : n + extra sequence check ≤ length block
    seal_room = ltb-false (length block) (n + extra sequence check) (or_right (not (is_number number)) _ rows.0)

    pub seal_words : check ≡ true → all_of is_word (take n block) ≡ true
    seal_words e = not-false _ (subst (λ (b : Bool). (b && not (all_of is_word (take n block))) ≡ false) e rows.1)

    -- with a check word there is a place for it after the data words
    pub seal_place : (sequence || check) ≡ true → n < length block
    seal_place e =
        let one : extra sequence check ≡ 1 = rw e in
        omega (arith, seal_room)

    pub seal_writes : (sequence || check) ≡ true → sealed_block block n sequence check number ≡ set block n (check_word sequence check (logical_sum (take n block)) number)
    unfolding sealed_block with_check_word
    seal_writes e = rw (eq-eqb _ _ accepted, e)

    pub seal_leaves : (sequence || check) ≡ false → sealed_block block n sequence check number ≡ block
    unfolding sealed_block with_check_word
    seal_leaves e = rw (eq-eqb _ _ accepted, e)

  -- a refusal changes nothing
  pub seal_refused : (block_seal_refusal block n sequence check number ≡ 0 → ⊥) → sealed_block block n sequence check number ≡ block
  unfolding sealed_block
  seal_refused h = rw (ne_eqb _ _ h)

-- ---- judging

module _ (block : List ℕ) (sequence check : Bool) (number : ℕ) where
  refusal_is : (refusal : ℕ) → (refusal ≡ 0 → ⊥) → judge_refusal block sequence check number ≡ refusal → record { refusal = refusal; found = unchecked } ≡ judged_block block sequence check number
  unfolding judged_block
  refusal_is refusal nz e = rw (e, ne_eqb refusal 0 nz)

  pub judge_bad_number : 2 ^ 15 ≤ number → record { refusal = 1; found = unchecked } ≡ judged_block block sequence check number
  unfolding judge_refusal
  judge_bad_number h = refusal_is 1 (λ z. omega arith) (lowest_here _ _ _ (ap not (le-ltb number (2 ^ 15) h)))

  module _ (hn : number < 2 ^ 15) where
    pub judge_spoilt : all_of is_word block ≡ false → record { refusal = 2; found = unchecked } ≡ judged_block block sequence check number
    unfolding judge_refusal
    judge_spoilt tall =
        refusal_is 2 (λ z. omega arith)
        (lowest_past _ _ _ (ap not (lt-ltb number (2 ^ 15) hn)) ∙ lowest_here _ _ _ (ap not tall))

    module _ (all : all_of is_word block ≡ true) where
      pub judge_short : length block < 1 + extra sequence check → record { refusal = 13; found = unchecked } ≡ judged_block block sequence check number
      unfolding judge_refusal
      judge_short h =
          refusal_is 13 (λ z. omega arith)
          (lowest_past _ _ _ (ap not (lt-ltb number (2 ^ 15) hn)) ∙ lowest_past _ _ _ (ap not all) ∙ lowest_here _ _ _ (lt-ltb _ _ h))

      pub judge_accepted : 1 + extra sequence check ≤ length block → judge_refusal block sequence check number ≡ 0
      unfolding judge_refusal
      judge_accepted h =
          lowest_past _ _ _ (ap not (lt-ltb number (2 ^ 15) hn)) ∙ lowest_past _ _ _ (ap not all) ∙ lowest_past _ _ _ (le-ltb _ _ h) ∙ lowest_end

      -- what is checked is the sum s of the data words, by the word w after them
      pub judge_found : (s w : ℕ) → 1 + extra sequence check ≤ length block
          → s ≡ logical_sum (take (data_words block sequence check) block) → w ≡ get_or block (data_words block sequence check) 0
          → record { refusal = 0; found = check_of sequence check s number w } ≡ judged_block block sequence check number
      unfolding judged_block
      judge_found s w h es ew =
          rw (judge_accepted h) (ap₂ (λ (x y : ℕ). record { refusal = 0; found = check_of sequence check x number y }) es ew)

-- the data words and what is left of a block are the block
pub block_words : (block : List ℕ) (n : ℕ) → (all_of is_word (take n block) && all_of is_word (drop n block)) ≡ all_of is_word block
block_words block n = sym (all_append is_word (take n block) (drop n block)) ∙ ap (all_of is_word) (take-append-drop n block)
