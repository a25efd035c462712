-- A block as bytes, as in frames: "Words are five bytes, highest first." (document 01), sealed and checked (document 02, M-103). Assumes nothing.
use Rattle.std.specs.Prelude.{ℕ, ◌+◌, ◌*◌, ◌-◌, ◌/◌, ◌%◌, Bool, not, cond, ◌&&◌, ◌||◌, List, [], ◌∷◌, eqb, ltb, length, take}
use Rattle.area.specs.Lists.{all_of}
use Rattle.area.specs.Parts.{is_word, paste}
use Rattle.area.specs.Refusals.{lowest}
use Rattle.word.specs.declared.Checked.{Checked}
use Rattle.word.specs.Sums.{logical_sum}
use Rattle.word.specs.CheckWords.{check_word, extra}
use Rattle.block.specs.Blocks.{is_number, judged_block}
use Rattle.session_frame.specs.Fields.{words_of, word_bytes, found_bytes}
use Rattle.block_bytes.specs.declared.Verdict.{Verdict}

-- ---- the numbers

-- the chosen fields of a check word, as the flags of an open: 4 sequence, 8 check sums; any other number names none
abbrev pub has_sequence : ℕ → Bool
has_sequence fields = eqb (fields / 4 % 2) 1

abbrev pub has_check : ℕ → Bool
has_check fields = eqb (fields / 8 % 2) 1

abbrev pub other_fields : ℕ → Bool
other_fields fields = ltb 12 fields || not (eqb (fields % 4) 0)

-- "Let e be 1 if sequence or check is chosen, else 0."
abbrev pub check_words : ℕ → ℕ
check_words fields = extra (has_sequence fields) (has_check fields)

-- the bytes of a word, and the most data words of a block
abbrev pub word_size : ℕ
word_size = 5

abbrev pub most_data : ℕ
most_data = 1024

-- 1: the bytes are no number of words, or over 1,024 data words; the number is above 32,767; other fields
unfoldable pub argument_wrong : ℕ → ℕ → ℕ → Bool
argument_wrong bytes fields number =
    not (eqb (bytes % word_size) 0) || (ltb (word_size * (most_data + check_words fields)) bytes || (not (is_number number) || other_fields fields))

-- how many data words the block has
abbrev pub data_count : List ℕ → ℕ → ℕ
data_count bytes fields = length (words_of bytes) - check_words fields

abbrev pub no_data : List ℕ → ℕ → Bool
no_data bytes fields = ltb (length (words_of bytes)) (1 + check_words fields)

-- ---- sealing

-- 2: a word that is summed is 2^36 or more; 13: there is no data word
unfoldable pub seal_refusal : List ℕ → ℕ → ℕ → ℕ
seal_refusal bytes fields number =
    lowest
    ((1, argument_wrong (length bytes) fields number) ∷
    (2, has_check fields && not (all_of is_word (take (data_count bytes fields) (words_of bytes)))) ∷
    (13, no_data bytes fields) ∷
    [])

-- the last five bytes are the check word of the data words before them, if a field is chosen
unfoldable pub checked_bytes : List ℕ → ℕ → ℕ → List ℕ
checked_bytes bytes fields number =
    let n = data_count bytes fields in
    cond (has_sequence fields || has_check fields)
    (paste (word_size * n) (word_bytes (check_word (has_sequence fields) (has_check fields) (logical_sum (take n (words_of bytes))) number)) bytes)
    bytes

-- "A refusal .. changes nothing."
unfoldable pub sealed_bytes : List ℕ → ℕ → ℕ → List ℕ
sealed_bytes bytes fields number = cond (eqb (seal_refusal bytes fields number) 0) (checked_bytes bytes fields number) bytes

-- ---- checking, as delivered

-- M-102's twelve bytes
abbrev pub found_size : ℕ
found_size = 12

-- 1 too for an area that cannot take what is found; 2: a word is 2^36 or more, the check word too
unfoldable pub check_refusal : List ℕ → ℕ → ℕ → ℕ → ℕ
check_refusal bytes fields number room =
    lowest
    ((1, argument_wrong (length bytes) fields number || ltb room found_size) ∷
    (2, not (all_of is_word (words_of bytes))) ∷
    (13, no_data bytes fields) ∷
    [])

-- what is found: that of the words
abbrev pub found_in : List ℕ → ℕ → ℕ → Checked
found_in bytes fields number = (judged_block (words_of bytes) (has_sequence fields) (has_check fields) number).found

-- the refusal, or 0 and the error
unfoldable pub verdict_on : List ℕ → ℕ → ℕ → ℕ → Verdict
verdict_on bytes fields number room =
    let refusal = check_refusal bytes fields number room in
    record { refusal = refusal; error = cond (eqb refusal 0) (found_in bytes fields number).error 0 }

-- the area for what is found, afterwards: its first twelve bytes, the rest of which stays
unfoldable pub found_after : List ℕ → ℕ → ℕ → List ℕ → List ℕ
found_after bytes fields number found =
    cond (eqb (check_refusal bytes fields number (length found)) 0) (paste 0 (found_bytes (found_in bytes fields number)) found) found
