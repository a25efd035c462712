-- What sealing and checking the words of a block comes to for its bytes. Assumes nothing.
use borrow.Author.Tests.{eqb-true, eq-eqb, ne_eqb, ltb-true, ltb-false, lt-ltb, le-ltb, not-false}
use mathlib.Core.Path.{◌≡◌, refl, sym, ap, ap₂, ◌∙◌}
use mathlib.Core.Bool.{Bool, true, false, cond, not, ◌&&◌, ◌||◌}
use mathlib.Core.List.{List, [], ◌∷◌, ◌++◌}
use Prim.Native.Nat.{ℕ, ◌+◌, ◌*◌, ◌-◌, ◌%◌, ◌≤◌, ◌<◌}
use native.Mathlib.Omega.{arith}
use lib.Dec.{eqb, ltb}
use lib.ListN.{length, take, get_or, set, length-set, get_or-append}
use lib.Seq.{get_or-set_same}
use Rattle.area.specs.Lists.{all_of, one_if}
use Rattle.area.specs.Parts.{is_word, paste, pasted_in}
use Rattle.area.specs.Refusals.{lowest}
use Rattle.area.proofs.Walks.{by_test, or_left, or_right, or_neither}
use Rattle.area.proofs.Marks.{cond_true, cond_false}
use Rattle.area.proofs.Lowest.{lowest_here, lowest_past}
use Rattle.area.proofs.Pastes.{paste_fitting, length_paste}
use Rattle.area.proofs.Joins.{take_paste}
use Rattle.word.specs.declared.Checked.{Checked}
use Rattle.word.specs.Sums.{logical_sum}
use Rattle.word.specs.CheckWords.{check_word, extra}
use Rattle.block.specs.Blocks.{is_number, block_seal_refusal, sealed_block, judge_refusal, judged_block}
use Rattle.block.specs.declared.blocks.Judged.{Judged}
use Rattle.block.proofs.Laws.Block.{seal_writes, seal_place}
use Rattle.session_frame.specs.Fields.{words_of, word_bytes, found_bytes, sum_bytes, size_bytes}
use Rattle.session_frame.proofs.Laws.Bytes.{length_words}
use Rattle.block_bytes.specs.ByteBlocks.{has_sequence, has_check, check_words, argument_wrong, data_count, seal_refusal, checked_bytes, sealed_bytes, check_refusal, found_in, verdict_on, found_after}

-- a check word, or none
extra_most : (sequence check : Bool) → extra sequence check ≤ 1
extra_most sequence check = by_test (λ (b : Bool). cond b 1 0 ≤ 1) (sequence || check) (λ e. omega arith) (λ e. omega arith)

one_none : (b : Bool) → one_if b ≡ 0 → b ≡ false
one_none true e = absurd (omega (arith, e))
one_none false e = refl

one_some : (b : Bool) → (one_if b ≡ 0 → ⊥) → b ≡ true
one_some true h = refl
one_some false h = absurd (h refl)

-- a first row that does not apply is none
two_rows : (p q v r : Bool) → p ≡ false → v ≡ false → r ≡ false → lowest ((1, p) ∷ (2, q) ∷ []) ≡ lowest ((1, v) ∷ (2, q) ∷ (13, r) ∷ [])
unfolding lowest
two_rows p q v r a b c = rw (a, b, c)

-- ---- the words in their room

module _ (bytes zeros : List ℕ) (roomy : length bytes ≤ 5 * length zeros) where
  words_fit_lem : 0 + length (words_of bytes) ≤ length zeros
  words_fit_lem = omega (arith, length_words bytes)

  pub room_long : (room : List ℕ) (k : ℕ) → k ≡ length (words_of bytes) → room ≡ paste 0 (words_of bytes) zeros → k ≤ length room
  room_long room k e er = omega (arith, words_fit_lem, length_paste 0 (words_of bytes) zeros words_fit_lem, ap length er)

  pub room_front : (room : List ℕ) (k : ℕ) → k ≡ length (words_of bytes) → room ≡ paste 0 (words_of bytes) zeros → take k room ≡ words_of bytes
  room_front room k e er =
      let z : k ≡ 0 + k = omega arith in
      ap (take k) er ∙ ap (λ (j : ℕ). take j (paste 0 (words_of bytes) zeros)) z ∙ take_paste 0 k (words_of bytes) zeros (sym e) (omega arith)

  -- the words in their room are judged as they are
  pub judged_room : (room : List ℕ) (k fields number : ℕ) (s c : Bool) (j : Judged) → k ≡ length (words_of bytes) → room ≡ paste 0 (words_of bytes) zeros
      → s ≡ has_sequence fields → c ≡ has_check fields → j ≡ judged_block (take k room) s c number
      → j ≡ judged_block (words_of bytes) (has_sequence fields) (has_check fields) number
  judged_room room k fields number s c j ek er es ec ej =
      ej ∙ ap (λ (l : List ℕ). judged_block l s c number) (room_front room k ek er)
      ∙ ap₂ (λ (a b : Bool). judged_block (words_of bytes) a b number) es ec

  -- and sealed as they are
  pub sealed_room : (room : List ℕ) (k e fields number r : ℕ) (s c : Bool) → k ≡ length (words_of bytes) → room ≡ paste 0 (words_of bytes) zeros
      → e ≡ extra s c → s ≡ has_sequence fields → c ≡ has_check fields → r ≡ block_seal_refusal (take k room) (k - e) s c number
      → r ≡ block_seal_refusal (words_of bytes) (data_count bytes fields) (has_sequence fields) (has_check fields) number
  sealed_room room k e fields number r s c ek er ee es ec e₀ =
      e₀ ∙ ap (λ (l : List ℕ). block_seal_refusal l (k - e) s c number) (room_front room k ek er)
      ∙ ap₂ (λ (a b : ℕ). block_seal_refusal (words_of bytes) (a - b) s c number) ek (ee ∙ ap₂ extra es ec)
      ∙ ap₂ (λ (a b : Bool). block_seal_refusal (words_of bytes) (data_count bytes fields) a b number) es ec

  pub written_room : (room part : List ℕ) (k e fields number : ℕ) (s c : Bool) → k ≡ length (words_of bytes) → room ≡ paste 0 (words_of bytes) zeros
      → e ≡ extra s c → s ≡ has_sequence fields → c ≡ has_check fields → part ≡ sealed_block (take k room) (k - e) s c number
      → part ≡ sealed_block (words_of bytes) (data_count bytes fields) (has_sequence fields) (has_check fields) number
  written_room room part k e fields number s c ek er ee es ec e₀ =
      e₀ ∙ ap (λ (l : List ℕ). sealed_block l (k - e) s c number) (room_front room k ek er)
      ∙ ap₂ (λ (a b : ℕ). sealed_block (words_of bytes) (a - b) s c number) ek (ee ∙ ap₂ extra es ec)
      ∙ ap₂ (λ (a b : Bool). sealed_block (words_of bytes) (data_count bytes fields) a b number) es ec

-- ---- the numbers are in their ranges

module _ (bytes : List ℕ) (fields number : ℕ) where
  pub refused_bytes : (n : ℕ) → (n ≡ 0 → ⊥) → n ≡ seal_refusal bytes fields number → bytes ≡ sealed_bytes bytes fields number
  unfolding sealed_bytes
  refused_bytes n h e = sym (cond_false _ _ (ne_eqb (seal_refusal bytes fields number) 0 (λ z. h (e ∙ z))))

  pub wrong_sealed : argument_wrong (length bytes) fields number ≡ true → 1 ≡ seal_refusal bytes fields number
  unfolding seal_refusal
  wrong_sealed e = sym (lowest_here 1 _ _ e)

  module _ (right : argument_wrong (length bytes) fields number ≡ false) where
    tests : (not (eqb (length bytes % 5) 0) ≡ false) × ((ltb (5 * (1024 + check_words fields)) (length bytes) ≡ false) × (not (is_number number) ≡ false))
    unfolding argument_wrong
    tests =
        let a = or_right (not (eqb (length bytes % 5) 0)) _ right in
        let b = or_right (ltb (5 * (1024 + check_words fields)) (length bytes)) _ a in
        (or_left (not (eqb (length bytes % 5) 0)) _ right, (or_left (ltb (5 * (1024 + check_words fields)) (length bytes)) _ a, or_left (not (is_number number)) _ b))

    pub right_number : number < 32768
    right_number = ltb-true number 32768 (not-false _ tests.1.1)

    pub right_size : length bytes ≤ 5 * (1024 + check_words fields)
    right_size = ltb-false (5 * (1024 + check_words fields)) (length bytes) tests.1.0

    pub right_room : length bytes ≤ 5125
    right_room = omega (arith, right_size, extra_most (has_sequence fields) (has_check fields))

    pub right_count : length bytes ≡ 5 * length (words_of bytes)
    right_count =
        let z : length bytes % 5 ≡ 0 = eqb-true (length bytes % 5) 0 (not-false _ tests.0) in
        omega (arith, length_words bytes)

    -- ---- sealing

    no_summed : length (words_of bytes) < 1 + check_words fields → (has_check fields && not (all_of is_word (take (data_count bytes fields) (words_of bytes)))) ≡ false
    unfolding all_of
    no_summed h =
        let z : data_count bytes fields ≡ 0 = omega arith in
        by_test (λ (b : Bool). (b && not (all_of is_word (take (data_count bytes fields) (words_of bytes)))) ≡ false) (has_check fields)
        (λ e. ap (λ (n : ℕ). not (all_of is_word (take n (words_of bytes)))) z) (λ e. refl)

    pub sealed_none : length (words_of bytes) < 1 + check_words fields → 13 ≡ seal_refusal bytes fields number
    unfolding seal_refusal
    sealed_none h = sym (lowest_past 1 _ _ right ∙ lowest_past 2 _ _ (no_summed h) ∙ lowest_here 13 _ _ (lt-ltb (length (words_of bytes)) (1 + check_words fields) h))

    module _ (some : 1 + check_words fields ≤ length (words_of bytes)) where
      -- the words' own refusal is that of the bytes
      pub sealed_as : block_seal_refusal (words_of bytes) (data_count bytes fields) (has_sequence fields) (has_check fields) number ≡ seal_refusal bytes fields number
      unfolding seal_refusal block_seal_refusal
      sealed_as =
          let long : data_count bytes fields + check_words fields ≤ length (words_of bytes) = omega arith in
          let none : (not (is_number number) || ltb (length (words_of bytes)) (data_count bytes fields + check_words fields)) ≡ false =
          or_neither _ _ tests.1.1 (le-ltb (length (words_of bytes)) (data_count bytes fields + check_words fields) long) in
          two_rows _ _ _ _ none right (le-ltb (length (words_of bytes)) (1 + check_words fields) some)

      module _ (accepted : 0 ≡ seal_refusal bytes fields number) where
        -- no field is chosen: the bytes stay
        pub sealed_plain : check_words fields ≡ 0 → bytes ≡ sealed_bytes bytes fields number
        unfolding sealed_bytes checked_bytes
        sealed_plain z =
            let plain : (has_sequence fields || has_check fields) ≡ false =
            one_none (has_sequence fields || has_check fields) z in
            sym (cond_true _ _ (eq-eqb (seal_refusal bytes fields number) 0 (sym accepted)) ∙ cond_false _ _ plain)

        -- a field is chosen: the word after the data words in the sealed block, as the last five bytes
        module _ (field : check_words fields ≡ 0 → ⊥) where
          abbrev n : ℕ
          n = data_count bytes fields

          abbrev due : ℕ
          due = check_word (has_sequence fields) (has_check fields) (logical_sum (take n (words_of bytes))) number

          chosen_field : (has_sequence fields || has_check fields) ≡ true
          chosen_field =
              one_some (has_sequence fields || has_check fields) field

          word_accepted : block_seal_refusal (words_of bytes) n (has_sequence fields) (has_check fields) number ≡ 0
          word_accepted = sealed_as ∙ sym accepted

          word_place : n < length (words_of bytes)
          word_place = seal_place (words_of bytes) n (has_sequence fields) (has_check fields) number word_accepted chosen_field

          word_there : (rest : List ℕ) → get_or (sealed_block (words_of bytes) n (has_sequence fields) (has_check fields) number ++ rest) n 0 ≡ due
          word_there rest =
              let writes = seal_writes (words_of bytes) n (has_sequence fields) (has_check fields) number word_accepted chosen_field in
              let within : n < length (set (words_of bytes) n due) = omega (arith, length-set (words_of bytes) n due, word_place) in
              ap (λ (l : List ℕ). get_or (l ++ rest) n 0) writes ∙ get_or-append (set (words_of bytes) n due) rest 0 n within ∙ get_or-set_same (words_of bytes) n due 0 word_place

          sealed_checked : (w : ℕ) (rest : List ℕ) → w ≡ get_or (sealed_block (words_of bytes) n (has_sequence fields) (has_check fields) number ++ rest) n 0
              → pasted_in (n * 5) (word_bytes w) bytes ≡ sealed_bytes bytes fields number
          unfolding sealed_bytes checked_bytes word_bytes
          sealed_checked w rest e =
              let is : w ≡ due = e ∙ word_there rest in
              let inside : n * 5 + 5 ≤ length bytes = omega (arith, right_count, word_place) in
              let turned : n * 5 ≡ 5 * n = omega arith in
              paste_fitting (n * 5) (word_bytes w) bytes inside ∙ ap₂ (λ (j v : ℕ). paste j (word_bytes v) bytes) turned is
              ∙ sym (cond_true _ _ (eq-eqb (seal_refusal bytes fields number) 0 (sym accepted)) ∙ cond_true _ _ chosen_field)

          -- the same as the code has it
          pub sealed_last : (k : ℕ) (part rest : List ℕ) → k ≡ n → part ≡ sealed_block (words_of bytes) n (has_sequence fields) (has_check fields) number
              → pasted_in (k * 5) (word_bytes (get_or (part ++ rest) k 0)) bytes ≡ sealed_bytes bytes fields number
          sealed_last k part rest ek ep =
              ap (λ (j : ℕ). pasted_in (j * 5) (word_bytes (get_or (part ++ rest) j 0)) bytes) ek
              ∙ sealed_checked (get_or (part ++ rest) n 0) rest (ap (λ (l : List ℕ). get_or (l ++ rest) n 0) ep)

-- ---- checking

module _ (bytes found : List ℕ) (fields number : ℕ) where
  check_refused : (n : ℕ) → (n ≡ 0 → ⊥) → n ≡ check_refusal bytes fields number (length found)
      → (record { refusal = n; error = 0 } ≡ verdict_on bytes fields number (length found)) × (found ≡ found_after bytes fields number found)
  unfolding verdict_on found_after
  check_refused n h e =
      let other : eqb (check_refusal bytes fields number (length found)) 0 ≡ false = ne_eqb (check_refusal bytes fields number (length found)) 0 (λ z. h (e ∙ z)) in
      (ap₂ (λ (a b : ℕ). record { refusal = a; error = b }) e (sym (cond_false _ _ other)), sym (cond_false _ _ other))

  pub wrong_checked : (argument_wrong (length bytes) fields number || ltb (length found) 12) ≡ true
      → (record { refusal = 1; error = 0 } ≡ verdict_on bytes fields number (length found)) × (found ≡ found_after bytes fields number found)
  unfolding check_refusal
  wrong_checked e = check_refused 1 (λ z. omega (arith, z)) (sym (lowest_here 1 _ _ e))

  module _ (right : (argument_wrong (length bytes) fields number || ltb (length found) 12) ≡ false) (j : Judged)
      (judged : j ≡ judged_block (words_of bytes) (has_sequence fields) (has_check fields) number) where
    checked_as : j.refusal ≡ check_refusal bytes fields number (length found)
    unfolding check_refusal judged_block judge_refusal
    checked_as =
        ap (λ (x : Judged). x.refusal) judged
        ∙ lowest_past 1 _ _ (tests bytes fields number (or_left _ _ right)).1.1 ∙ sym (lowest_past 1 _ _ right)

    pub judged_refused : (j.refusal ≡ 0 → ⊥)
        → (record { refusal = j.refusal; error = 0 } ≡ verdict_on bytes fields number (length found)) × (found ≡ found_after bytes fields number found)
    judged_refused h = check_refused j.refusal h checked_as

    pub judged_found : j.refusal ≡ 0
        → (record { refusal = 0; error = j.found.error } ≡ verdict_on bytes fields number (length found))
        × (pasted_in 0 (found_bytes j.found) found ≡ found_after bytes fields number found)
    unfolding verdict_on found_after sum_bytes size_bytes
    judged_found z =
        let none : check_refusal bytes fields number (length found) ≡ 0 = sym checked_as ∙ z in
        let good : eqb (check_refusal bytes fields number (length found)) 0 ≡ true = eq-eqb (check_refusal bytes fields number (length found)) 0 none in
        let is : j.found ≡ found_in bytes fields number = ap (λ (x : Judged). x.found) judged in
        let fits : 0 + 12 ≤ length found = omega (arith, ltb-false (length found) 12 (or_right (argument_wrong (length bytes) fields number) _ right)) in (
          ap₂ (λ (a b : ℕ). record { refusal = a; error = b }) (sym none) (ap (λ (c : Checked). c.error) is ∙ sym (cond_true _ _ good)),
          paste_fitting 0 (found_bytes j.found) found fits ∙ ap (λ (c : Checked). paste 0 (found_bytes c) found) is ∙ sym (cond_true _ _ good),
        )
