-- The area after a put and after a seal of a sound file: the words in their place, the check word of a sealed block, and nothing else. Assumes nothing.
use mathlib.Core.Path.{◌≡◌, refl, sym, ap, ap₂, subst, ◌∙◌}
use mathlib.Core.Bool.{Bool, true, false, not, cond, ◌&&◌, ◌||◌}
use mathlib.Core.List.{List, [], ◌∷◌, ◌++◌}
use Prim.Native.Nat.{ℕ, ◌+◌, ◌*◌, ◌^◌, ◌≤◌, ◌<◌}
use native.Mathlib.Nat.{le_trans}
use native.Mathlib.Omega.{arith}
use lib.ListN.{length}
use Rattle.area.specs.Lists.{all_of}
use Rattle.area.specs.Parts.{is_word, part_of, pasted_in}
use Rattle.area.proofs.Walks.{all_append}
use Rattle.word.specs.Sums.{logical_sum}
use Rattle.word.specs.CheckWords.{check_word, IsCheckWord, extra}
use Rattle.word.proofs.Laws.CheckWord.{check_word_is}
use Rattle.file.specs.declared.File.{File}
use Rattle.file.specs.Slots.{part_words}
use Rattle.file.specs.Sides.{slot_at, start_at, is_side, part_side}
use Rattle.file_output.specs.Puts.{put_side, put_start, words_after, added}
use Rattle.file_output.specs.Parts.{is_complete, part_start, part_length}
use Rattle.state_sound.proofs.FileFacts.{Sound}
use Rattle.pack_record.specs.Only.{Only}
use Rattle.call_record.specs.Blocks.{held_right, sealed_area}
use Rattle.call_record.specs.Put.{filled_area, put_area}
use Rattle.pack_record.proofs.Written.{only_wider, only_then, pasted_only, pasted_part, part_join, part_same, sealed_only, sealed_block_lem}
use Rattle.pack_record.proofs.Buffers.{part_first, room_too, held_is, buffer_within, block_fits_lem, sealed_there}

-- a block of these data words with its check word, if one is chosen
abbrev pub with_check : File → List ℕ → List ℕ
with_check f data_words_lem = data_words_lem ++ cond (f.sequence || f.check) (check_word f.sequence f.check (logical_sum data_words_lem) f.block ∷ []) []

no_spoilt : (check a b : Bool) → a ≡ true → (check ≡ true → b ≡ true) → (check && not (b && a)) ≡ false
no_spoilt true a b p q = ap not (ap₂ (λ (x y : Bool). x && y) (q refl) p)
no_spoilt false a b p q = refl

module _ (m w : ℕ) (f : File) (words area : List ℕ) (S : Sound m w f) (room : is_side (put_side f) ≡ true) (exact : length words ≡ f.rlen) (long : m * w ≤ length area) where
  -- the buffer's start, and the words that it holds already
  abbrev from : ℕ
  from = start_at f w (put_side f)

  abbrev had : ℕ
  had = part_words (slot_at f (put_side f))

  within : from + w ≤ length area
  within = le_trans (buffer_within m w f S room) long

  fit : put_start w f + length words ≤ length area
  unfolding put_start
  fit = omega (arith, within, block_fits_lem m w f S room, exact)

  filled_only : Only (put_start w f) f.rlen area (filled_area w f words area)
  unfolding filled_area
  filled_only = subst (λ (n : ℕ). Only (put_start w f) n area (pasted_in (put_start w f) words area)) exact (pasted_only (put_start w f) words area fit)

  filled_words : part_of (put_start w f) f.rlen (filled_area w f words area) ≡ words
  unfolding filled_area
  filled_words = ap (λ (n : ℕ). part_of (put_start w f) n (pasted_in (put_start w f) words area)) (sym exact) ∙ pasted_part (put_start w f) words area fit

  -- the block's data words: those that it had, then those of the put
  filled_data : part_of from (words_after f) (filled_area w f words area) ≡ part_of from had area ++ words
  unfolding put_start
  filled_data =
      part_join from had f.rlen (filled_area w f words area)
      ∙ ap₂ (λ (a b : List ℕ). a ++ b)
      (part_same from had (put_start w f) f.rlen area (filled_area w f words area) filled_only (omega arith) (omega (arith, within, block_fits_lem m w f S room)))
      filled_words

  -- no word that a put that seals sums is 2^36 or more
  module _ (given : all_of is_word words ≡ true) (held : is_complete (added f) ≡ true → f.check ≡ true → held_right w f area ≡ true) where
    summed_right : is_complete (added f) ≡ true → (f.check && not (all_of is_word (part_of from (words_after f) (filled_area w f words area)))) ≡ false
    summed_right c =
        ap (λ (l : List ℕ). f.check && not (all_of is_word l)) filled_data
        ∙ ap (λ (t : Bool). f.check && not t) (all_append is_word (part_of from had area) words)
        ∙ no_spoilt f.check (all_of is_word words) (all_of is_word (part_of from had area)) given (λ k. sym (held_is w f area room) ∙ held c k)

    filled_long : from + w ≤ length (filled_area w f words area)
    filled_long = omega (arith, within, filled_only.long)

    numbered : f.block < 2 ^ 15
    numbered = S.number

    -- nothing but the words of the put and a check word changes
    pub put_only : Only (put_start w f) (f.rlen + extra f.sequence f.check) area (put_area w f words area)
    unfolding put_area put_start
    put_only = go (is_complete (added f)) refl
      where
        filled : Only (put_start w f) (f.rlen + extra f.sequence f.check) area (filled_area w f words area)
        filled = only_wider (put_start w f) f.rlen (put_start w f) (f.rlen + extra f.sequence f.check) area (filled_area w f words area) filled_only (omega arith) (omega arith)

        go : (t : Bool) → is_complete (added f) ≡ t
            → Only (put_start w f) (f.rlen + extra f.sequence f.check) area (cond t (sealed_area w (added f) (filled_area w f words area)) (filled_area w f words area))
        go false c = filled
        go true c =
            only_then (put_start w f) (f.rlen + extra f.sequence f.check) area (filled_area w f words area) (sealed_area w (added f) (filled_area w f words area)) filled
            (subst (Only (put_start w f) (f.rlen + extra f.sequence f.check) (filled_area w f words area)) (sym (sealed_there m w f S room (filled_area w f words area)))
            (only_wider (from + words_after f) (extra f.sequence f.check) (put_start w f) (f.rlen + extra f.sequence f.check) (filled_area w f words area) _
            (sealed_only from w (words_after f) f.sequence f.check f.block (filled_area w f words area) filled_long (block_fits_lem m w f S room) numbered (summed_right c))
            (omega arith) (omega arith)))

    -- no word outside the buffer changes
    pub put_buffer : Only from w area (put_area w f words area)
    unfolding put_start
    put_buffer =
        only_wider (put_start w f) (f.rlen + extra f.sequence f.check) from w area (put_area w f words area) put_only (omega arith) (omega (arith, block_fits_lem m w f S room))

    -- a block that is not complete has its words, then those of the put
    pub put_added : is_complete (added f) ≡ false → part_of from (words_after f) (put_area w f words area) ≡ part_of from had area ++ words
    unfolding put_area
    put_added c = ap (λ (t : Bool). part_of from (words_after f) (cond t (sealed_area w (added f) (filled_area w f words area)) (filled_area w f words area))) c ∙ filled_data

    -- one that is complete has its check word after them
    pub put_sealed : is_complete (added f) ≡ true
        → part_of from (words_after f + extra f.sequence f.check) (put_area w f words area) ≡ with_check f (part_of from had area ++ words)
    unfolding put_area
    put_sealed c =
        ap (λ (t : Bool). part_of from (words_after f + extra f.sequence f.check) (cond t (sealed_area w (added f) (filled_area w f words area)) (filled_area w f words area))) c
        ∙ ap (part_of from (words_after f + extra f.sequence f.check)) (sealed_there m w f S room (filled_area w f words area))
        ∙ sealed_block_lem from w (words_after f) f.sequence f.check f.block (filled_area w f words area) filled_long (block_fits_lem m w f S room) numbered (summed_right c)
        ∙ ap (with_check f) filled_data

-- ---- seal

module _ (m w : ℕ) (f : File) (area : List ℕ) (S : Sound m w f) (part : is_side (part_side f) ≡ true) (long : m * w ≤ length area) (held : f.check ≡ true → held_right w f area ≡ true) where
  room : is_side (put_side f) ≡ true
  room = room_too f part

  start_is : part_start w f ≡ start_at f w (put_side f)
  unfolding part_start
  start_is = ap (start_at f w) (sym (part_first f part))

  length_is : part_length f ≡ part_words (slot_at f (put_side f))
  unfolding part_length
  length_is = ap (λ k. part_words (slot_at f k)) (sym (part_first f part))

  seal_within : part_start w f + w ≤ length area
  seal_within = subst (λ (a : ℕ). a + w ≤ length area) (sym start_is) (le_trans (buffer_within m w f S room) long)

  seal_fits : part_length f + extra f.sequence f.check ≤ w
  seal_fits = omega (arith, length_is, block_fits_lem m w f S room)

  seal_right : (f.check && not (all_of is_word (part_of (part_start w f) (part_length f) area))) ≡ false
  seal_right = no_spoilt_one f.check (all_of is_word (part_of (part_start w f) (part_length f) area)) held
    where
      no_spoilt_one : (check b : Bool) → (check ≡ true → b ≡ true) → (check && not b) ≡ false
      no_spoilt_one true b q = ap not (q refl)
      no_spoilt_one false b q = refl

  -- nothing but the check word changes
  pub seal_only : Only (part_start w f + part_length f) (extra f.sequence f.check) area (sealed_area w f area)
  unfolding sealed_area
  seal_only = sealed_only (part_start w f) w (part_length f) f.sequence f.check f.block area seal_within seal_fits S.number seal_right

  -- no word outside the buffer changes
  pub seal_buffer : Only (part_start w f) w area (sealed_area w f area)
  seal_buffer =
      only_wider (part_start w f + part_length f) (extra f.sequence f.check) (part_start w f) w area (sealed_area w f area) seal_only (omega arith) (omega (arith, seal_fits))

  -- the block is its data words, check word last
  pub seal_block : part_of (part_start w f) (part_length f + extra f.sequence f.check) (sealed_area w f area) ≡ with_check f (part_of (part_start w f) (part_length f) area)
  unfolding sealed_area
  seal_block = sealed_block_lem (part_start w f) w (part_length f) f.sequence f.check f.block area seal_within seal_fits S.number seal_right

-- the check word of a block is the one word that document 01's sentence describes
pub right_check : (f : File) (data_words_lem : List ℕ)
    → IsCheckWord f.sequence f.check (logical_sum data_words_lem) f.block (check_word f.sequence f.check (logical_sum data_words_lem) f.block)
right_check f data_words_lem = check_word_is f.sequence f.check (logical_sum data_words_lem) f.block
