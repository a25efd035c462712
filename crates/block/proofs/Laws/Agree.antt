-- Sealing and judging agree: what is sealed is judged good, and a check word with a chosen field changed is judged wrong in exactly
-- that field. Assumes nothing.
use borrow.Author.Tests.{lt-ltb, eq-eqb, ne_eqb}
use mathlib.Core.Path.{◌≡◌, refl, sym, ap, ap₂, ◌∙◌}
use mathlib.Core.Bool.{Bool, true, false, cond, ◌||◌}
use mathlib.Core.List.{List, [], ◌∷◌, ◌++◌}
use Prim.Native.Nat.{ℕ, ◌+◌, ◌^◌, ◌≤◌, ◌<◌}
use native.Mathlib.Nat.{add-zero}
use native.Mathlib.Numerals.{add-one}
use native.Mathlib.Omega.{arith}
use lib.Dec.{eqb}
use lib.ListN.{length, take, get_or, set, length-append, get_or-eq_default}
use lib.Seq.{take_all, take-append_seam, get_or-append_seam, take-suc-set, length-take-le}
use Rattle.area.specs.Lists.{all_of}
use Rattle.area.specs.Parts.{is_word}
use Rattle.area.proofs.Walks.{by_test, and_both, or_left, or_right, or_first, or_second, all_append}
use Rattle.word.specs.Sums.{logical_sum, first_half, folded}
use Rattle.word.specs.CheckWords.{address, chosen, check_word, extra}
use Rattle.word.specs.Checks.{error_of, check_of}
use Rattle.block.specs.declared.blocks.Judged.{Judged}
use Rattle.block.specs.Blocks.{block_seal_refusal, sealed_block, data_words, judged_block}
use Rattle.word.proofs.Laws.CheckWord.{address_small, check_word_lt, check_word_first, check_word_address}
use Rattle.block.proofs.Laws.Block.{seal_number, seal_room, seal_place, seal_writes, seal_leaves, judge_found}

-- ---- the error of a word w where the check word is `check_word sequence check sum number`

module _ (sequence check : Bool) (sum number w : ℕ) where
  -- the two fields, compared with what is due
  number_error : ℕ
  number_error = chosen sequence (cond (eqb (address w) number) 0 1)

  sum_error : ℕ
  sum_error = chosen check (cond (eqb (first_half w) (folded sum)) 0 2)

  -- a field that is not chosen is not compared: words that agree in the chosen fields have the same error
  pub error_chosen_only : (v : ℕ) → (sequence ≡ true → address w ≡ address v) → (check ≡ true → first_half w ≡ first_half v)
      → (check_of sequence check sum number w).error ≡ (check_of sequence check sum number v).error
  unfolding check_of error_of
  error_chosen_only v same_number same_sum =
      ap₂ ◌+◌
      (by_test (λ b. (b ≡ true → address w ≡ address v) → chosen b (cond (eqb (address w) number) 0 1) ≡ chosen b (cond (eqb (address v) number) 0 1)) sequence
      (λ t h. ap (λ (n : ℕ). cond (eqb n number) 0 1) (h refl)) (λ f h. refl) same_number)
      (by_test (λ b. (b ≡ true → first_half w ≡ first_half v) → chosen b (cond (eqb (first_half w) (folded sum)) 0 2) ≡ chosen b (cond (eqb (first_half v) (folded sum)) 0 2)) check
      (λ t h. ap (λ (n : ℕ). cond (eqb n (folded sum)) 0 2) (h refl)) (λ f h. refl) same_sum)

  module _ (hn : number < 2 ^ 15) where
    due_number : sequence ≡ true → address (check_word sequence check sum number) ≡ number
    due_number e = check_word_address sequence check sum number ∙ rw e (address_small number hn)

    due_sum : check ≡ true → first_half (check_word sequence check sum number) ≡ folded sum
    due_sum e = check_word_first sequence check sum number ∙ rw e

    number_right : address w ≡ address (check_word sequence check sum number) → number_error ≡ 0
    unfolding number_error
    number_right same =
        by_test (λ b. sequence ≡ b → chosen b (cond (eqb (address w) number) 0 1) ≡ 0) sequence
        (λ t e. rw (eq-eqb (address w) number (same ∙ due_number e))) (λ f e. refl) refl

    number_wrong : sequence ≡ true → (address w ≡ address (check_word sequence check sum number) → ⊥) → number_error ≡ 1
    unfolding number_error
    number_wrong e other = rw (e, ne_eqb (address w) number (λ z. other (z ∙ sym (due_number e))))

    sum_right : first_half w ≡ first_half (check_word sequence check sum number) → sum_error ≡ 0
    unfolding sum_error
    sum_right same =
        by_test (λ b. check ≡ b → chosen b (cond (eqb (first_half w) (folded sum)) 0 2) ≡ 0) check
        (λ t e. rw (eq-eqb (first_half w) (folded sum) (same ∙ due_sum e))) (λ f e. refl) refl

    sum_wrong : check ≡ true → (first_half w ≡ first_half (check_word sequence check sum number) → ⊥) → sum_error ≡ 2
    unfolding sum_error
    sum_wrong e other = rw (e, ne_eqb (first_half w) (folded sum) (λ z. other (z ∙ sym (due_sum e))))

    pub error_none : address w ≡ address (check_word sequence check sum number) → first_half w ≡ first_half (check_word sequence check sum number)
        → (check_of sequence check sum number w).error ≡ 0
    unfolding check_of error_of number_error sum_error
    error_none a b = ap₂ ◌+◌ (number_right a) (sum_right b)

    pub error_sequence : sequence ≡ true → (address w ≡ address (check_word sequence check sum number) → ⊥)
        → first_half w ≡ first_half (check_word sequence check sum number) → (check_of sequence check sum number w).error ≡ 1
    unfolding check_of error_of number_error sum_error
    error_sequence e a b = ap₂ ◌+◌ (number_wrong e a) (sum_right b)

    pub error_check : check ≡ true → address w ≡ address (check_word sequence check sum number)
        → (first_half w ≡ first_half (check_word sequence check sum number) → ⊥) → (check_of sequence check sum number w).error ≡ 2
    unfolding check_of error_of number_error sum_error
    error_check e a b = ap₂ ◌+◌ (number_right a) (sum_wrong e b)

    pub error_both : sequence ≡ true → check ≡ true → (address w ≡ address (check_word sequence check sum number) → ⊥)
        → (first_half w ≡ first_half (check_word sequence check sum number) → ⊥) → (check_of sequence check sum number w).error ≡ 3
    unfolding check_of error_of number_error sum_error
    error_both e f a b = ap₂ ◌+◌ (number_wrong e a) (sum_wrong f b)

-- ---- what judging tells of a block that it does not refuse: this error, with the fields of data words of this sum, of the number due and of the word w

abbrev pub judged_as : ℕ → ℕ → ℕ → ℕ → Judged
judged_as error sum number w =
    record { refusal = 0; found = record { error = error; sum = folded sum; number = number; sumread = first_half w; numberread = address w } }

judged_as_lem : (sequence check : Bool) (sum number w error : ℕ) → (check_of sequence check sum number w).error ≡ error
    → record { refusal = 0; found = check_of sequence check sum number w } ≡ judged_as error sum number w
unfolding check_of
judged_as_lem sequence check sum number w error e = ap (λ (x : ℕ). judged_as x sum number w) e

-- ---- a delivered block: data words, then the word w where a check word is due

module _ (words : List ℕ) (sequence check : Bool) (number w : ℕ) where
  pub judge_delivered : 1 ≤ length words → all_of is_word words ≡ true → w < 2 ^ 36 → number < 2 ^ 15 → (sequence || check) ≡ true
      → judged_block (words ++ w ∷ []) sequence check number ≡ record { refusal = 0; found = check_of sequence check (logical_sum words) number w }
  unfolding all_of
  judge_delivered some all hw hn chose =
      let one : extra sequence check ≡ 1 = rw chose in
      let long : length (words ++ w ∷ []) ≡ length words + 1 = length-append words (w ∷ []) in
      let at : data_words (words ++ w ∷ []) sequence check ≡ length words = omega (arith, one, long) in
      let every : all_of is_word (words ++ w ∷ []) ≡ true =
      all_append is_word words (w ∷ []) ∙ and_both _ _ all (and_both (is_word w) true (lt-ltb w (2 ^ 36) hw) refl) in
      sym (judge_found (words ++ w ∷ []) sequence check number hn every (logical_sum words) w (omega (arith, one, long))
      (ap logical_sum (sym (take-append_seam words (w ∷ []))) ∙ ap (λ (k : ℕ). logical_sum (take k (words ++ w ∷ []))) (sym at))
      (sym (get_or-append_seam words w [] 0) ∙ ap (λ (k : ℕ). get_or (words ++ w ∷ []) k 0) (sym at)))

-- a block of a file that has chosen neither field has no check word, no error, and nothing is read
pub judge_plain : (words : List ℕ) (number : ℕ) → 1 ≤ length words → all_of is_word words ≡ true → number < 2 ^ 15
    → judged_block words false false number ≡ judged_as 0 (logical_sum words) number 0
unfolding check_of error_of
judge_plain words number some all hn =
    sym (judge_found words false false number hn all (logical_sum words) 0 (omega arith)
    (ap logical_sum (sym (take_all (data_words words false false) words (omega arith))))
    (sym (get_or-eq_default words 0 {n = data_words words false false} (omega arith))))

-- ---- what seal writes, judge accepts: the block sealed with a number, delivered with the same number due

module _ (block : List ℕ) (n : ℕ) (sequence check : Bool) (number : ℕ) (accepted : block_seal_refusal block n sequence check number ≡ 0)
    (some : 1 ≤ n) (all : all_of is_word (take n block) ≡ true) where
  long : length (take n block) ≡ n
  long = length-take-le n block (omega (arith, seal_room block n sequence check number accepted))

  -- no error, and both fields are those of the check word
  abbrev good : Judged
  good = judged_as 0 (logical_sum (take n block)) number (check_word sequence check (logical_sum (take n block)) number)

  with_check_word_lem : (sequence || check) ≡ true
      → judged_block (take (n + 1) (sealed_block block n sequence check number)) sequence check number ≡ good
  with_check_word_lem e =
      let sum : ℕ = logical_sum (take n block) in
      let c : ℕ = check_word sequence check sum number in
      let hn : number < 2 ^ 15 = seal_number block n sequence check number accepted in
      let sent : take (n + 1) (sealed_block block n sequence check number) ≡ take n block ++ c ∷ [] =
      ap (take (n + 1)) (seal_writes block n sequence check number accepted e)
      ∙ ap (λ (k : ℕ). take k (set block n c)) (add-one n)
      ∙ take-suc-set block n c (seal_place block n sequence check number accepted e) in
      ap (λ (l : List ℕ). judged_block l sequence check number) sent
      ∙ judge_delivered (take n block) sequence check number c (omega (arith, long)) all (check_word_lt sequence check sum number) hn e
      ∙ judged_as_lem sequence check sum number c 0 (error_none sequence check sum number c hn refl refl)

  without_check_word : (sequence || check) ≡ false
      → judged_block (take (n + 0) (sealed_block block n sequence check number)) sequence check number ≡ good
  unfolding check_word
  without_check_word e =
      let hn : number < 2 ^ 15 = seal_number block n sequence check number accepted in
      ap₂ (λ (l : List ℕ) (b : Bool). judged_block l b check number)
      (ap (take (n + 0)) (seal_leaves block n sequence check number accepted e) ∙ ap (λ (k : ℕ). take k block) (add-zero n))
      (or_left sequence check e)
      ∙ ap (λ (b : Bool). judged_block (take n block) false b number) (or_right sequence check e)
      ∙ judge_plain (take n block) number (omega (arith, long)) all hn
      ∙ rw (or_left sequence check e, or_right sequence check e)

  pub sealed_good : judged_block (take (n + extra sequence check) (sealed_block block n sequence check number)) sequence check number
      ≡ judged_as 0 (logical_sum (take n block)) number (check_word sequence check (logical_sum (take n block)) number)
  sealed_good =
      by_test (λ b. (sequence || check) ≡ b
      → judged_block (take (n + cond b 1 0) (sealed_block block n sequence check number)) sequence check number ≡ good)
      (sequence || check) (λ t e. with_check_word_lem e) (λ f e. without_check_word e) refl

-- ---- and a check word w of a delivered block with a chosen field changed is judged wrong in that field

module _ (words : List ℕ) (sequence check : Bool) (number w : ℕ)
    (some : 1 ≤ length words) (all : all_of is_word words ≡ true) (hw : w < 2 ^ 36) (hn : number < 2 ^ 15) where
  pub changed_number : sequence ≡ true → (address w ≡ address (check_word sequence check (logical_sum words) number) → ⊥)
      → first_half w ≡ first_half (check_word sequence check (logical_sum words) number)
      → judged_block (words ++ w ∷ []) sequence check number ≡ judged_as 1 (logical_sum words) number w
  changed_number e a b =
      judge_delivered words sequence check number w some all hw hn (or_first sequence check e)
      ∙ judged_as_lem sequence check (logical_sum words) number w 1 (error_sequence sequence check (logical_sum words) number w hn e a b)

  pub changed_sum : check ≡ true → address w ≡ address (check_word sequence check (logical_sum words) number)
      → (first_half w ≡ first_half (check_word sequence check (logical_sum words) number) → ⊥)
      → judged_block (words ++ w ∷ []) sequence check number ≡ judged_as 2 (logical_sum words) number w
  changed_sum e a b =
      judge_delivered words sequence check number w some all hw hn (or_second sequence check e)
      ∙ judged_as_lem sequence check (logical_sum words) number w 2 (error_check sequence check (logical_sum words) number w hn e a b)

  pub changed_both : sequence ≡ true → check ≡ true → (address w ≡ address (check_word sequence check (logical_sum words) number) → ⊥)
      → (first_half w ≡ first_half (check_word sequence check (logical_sum words) number) → ⊥)
      → judged_block (words ++ w ∷ []) sequence check number ≡ judged_as 3 (logical_sum words) number w
  changed_both e f a b =
      judge_delivered words sequence check number w some all hw hn (or_first sequence check e)
      ∙ judged_as_lem sequence check (logical_sum words) number w 3 (error_both sequence check (logical_sum words) number w hn e f a b)

  -- what stands in the fields that are not chosen, and between them, does not matter
  pub changed_other : (sequence || check) ≡ true
      → (sequence ≡ true → address w ≡ address (check_word sequence check (logical_sum words) number))
      → (check ≡ true → first_half w ≡ first_half (check_word sequence check (logical_sum words) number))
      → judged_block (words ++ w ∷ []) sequence check number ≡ judged_as 0 (logical_sum words) number w
  changed_other e a b =
      let c : ℕ = check_word sequence check (logical_sum words) number in
      judge_delivered words sequence check number w some all hw hn e
      ∙ judged_as_lem sequence check (logical_sum words) number w 0
      (error_chosen_only sequence check (logical_sum words) number w c a b ∙ error_none sequence check (logical_sum words) number c hn refl refl)
