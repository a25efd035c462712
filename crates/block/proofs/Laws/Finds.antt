-- What judging finds of any block: its error is the comparison of its chosen fields, and it may stand with the block. Assumes nothing.
use mathlib.Core.Path.{◌≡◌, refl}
use mathlib.Core.Bool.{Bool, true, false, cond, ◌||◌}
use mathlib.Core.List.{List}
use Prim.Native.Nat.{ℕ, ◌^◌, ◌<◌}
use native.Mathlib.Omega.{arith}
use lib.Dec.{eqb}
use lib.ListN.{take, get_or, get_or-eq_default}
use Rattle.word.specs.declared.Checked.{Checked}
use Rattle.word.specs.Sums.{logical_sum}
use Rattle.word.specs.CheckWords.{extra}
use Rattle.word.specs.Checks.{error_of, error_in, check_of, unchecked, is_checked}
use Rattle.word.proofs.Laws.Checks.{check_compares, check_fits, unchecked_fits}
use Rattle.block.specs.Blocks.{data_words, judge_refusal, judged_block}

module _ (block : List ℕ) (sequence check : Bool) (number : ℕ) where
  abbrev whole : Checked
  whole =
      check_of sequence check (logical_sum (take (data_words block sequence check) block)) number (get_or block (data_words block sequence check) 0)

  -- "Error 1 is sequence, 2 check sum, 3 both.": exactly the comparison of the chosen fields that are told beside it
  pub judged_compares : (judged_block block sequence check number).found.error ≡ error_in sequence check (judged_block block sequence check number).found
  unfolding judged_block error_of
  judged_compares = go (eqb (judge_refusal block sequence check number) 0)
    where
      none : (a b : Bool) → 0 ≡ error_in a b unchecked
      none true true = refl
      none true false = refl
      none false true = refl
      none false false = refl

      go : (b : Bool) → (cond b whole unchecked).error ≡ error_in sequence check (cond b whole unchecked)
      go true = check_compares sequence check _ number _
      go false = none sequence check

  -- without a check word there is no word after the data words
  past : (sequence || check) ≡ false → get_or block (data_words block sequence check) 0 ≡ 0
  past e = get_or-eq_default block 0 {n = data_words block sequence check} (let z : extra sequence check ≡ 0 = rw e in omega (arith, z))

  pub judged_fits : number < 2 ^ 15 → is_checked sequence check (judged_block block sequence check number).found ≡ true
  unfolding judged_block
  judged_fits hn = go (eqb (judge_refusal block sequence check number) 0)
    where
      go : (b : Bool) → is_checked sequence check (cond b whole unchecked) ≡ true
      go true = check_fits sequence check _ number _ hn past
      go false = unchecked_fits sequence check
