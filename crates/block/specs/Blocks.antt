-- Sealing a block, and judging one as delivered (document 01, "Files and buffers", "The check word"). Assumes nothing.
use Rattle.std.specs.Prelude.{Bool, not, cond, ◌&&◌, ◌||◌, List, [], ◌∷◌, ℕ, ◌+◌, ◌-◌, ltb, eqb, length, take, get_or, set}
use Rattle.area.specs.Lists.{all_of}
use Rattle.area.specs.Parts.{is_word}
use Rattle.area.specs.Refusals.{lowest}
use Rattle.block.specs.declared.blocks.Judged.{Judged}
use Rattle.block.specs.declared.blocks.Unsealed.{Unsealed}
use Rattle.block.specs.declared.blocks.Unsealed.TheVariants.{Argument, TallWord}
use Rattle.word.specs.Sums.{logical_sum}
use Rattle.word.specs.CheckWords.{block_numbers, check_word, extra}
use Rattle.word.specs.Checks.{check_of, unchecked}

-- a block number is 0 to 32,767
abbrev pub is_number : ℕ → Bool
is_number n = ltb n block_numbers

-- ---- sealing the n data words at the start of a slice

-- 1: the number is outside its range, or the slice has no room for the block. 2: a word that the call sums is 2^36 or more; it sums if check sums are chosen.
unfoldable pub block_seal_refusal : List ℕ → ℕ → Bool → Bool → ℕ → ℕ
block_seal_refusal block n sequence check number =
    lowest
    ((1, not (is_number number) || ltb (length block) (n + extra sequence check)) ∷
    (2, check && not (all_of is_word (take n block))) ∷
    [])

-- the number of a refusal, by why the block is not sealed
abbrev pub unsealed_number : Unsealed → ℕ
unsealed_number Argument = 1
unsealed_number TallWord = 2

-- "A block lies from the first word of its buffer, check word last."
unfoldable pub with_check_word : List ℕ → ℕ → Bool → Bool → ℕ → List ℕ
with_check_word block n sequence check number =
    cond (sequence || check) (set block n (check_word sequence check (logical_sum (take n block)) number)) block

-- the slice afterwards: "A refusal returns the number alone and changes nothing."
unfoldable pub sealed_block : List ℕ → ℕ → Bool → Bool → ℕ → List ℕ
sealed_block block n sequence check number =
    cond (eqb (block_seal_refusal block n sequence check number) 0) (with_check_word block n sequence check number) block

-- ---- judging a block as delivered, its check word last

-- how many data words it has
abbrev pub data_words : List ℕ → Bool → Bool → ℕ
data_words block sequence check = length block - extra sequence check

-- 1: the number is outside its range. 2: a given word is 2^36 or more. "A delivered block has 1 + e .. words, else 13."
unfoldable pub judge_refusal : List ℕ → Bool → Bool → ℕ → ℕ
judge_refusal block sequence check number =
    lowest
    ((1, not (is_number number)) ∷
    (2, not (all_of is_word block)) ∷
    (13, ltb (length block) (1 + extra sequence check)) ∷
    [])

-- a refusal finds nothing
abbrev pub refused_block : ℕ → Judged
refused_block n = record { refusal = n; found = unchecked }

-- the answer: what the check finds by the word after the data words, which is zero where no check word is chosen
unfoldable pub judged_block : List ℕ → Bool → Bool → ℕ → Judged
judged_block block sequence check number =
    let n = data_words block sequence check in
    let refusal = judge_refusal block sequence check number in
    record {
      refusal = refusal;
      found = cond (eqb refusal 0) (check_of sequence check (logical_sum (take n block)) number (get_or block n 0)) unchecked;
    }
