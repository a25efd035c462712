-- The blocks of a file as they lie in the area, blocks as they must be, and how the words put are divided into them. Assumes nothing.
use Rattle.std.specs.Prelude.{◌≡◌, ◌⊎◌, ℕ, ◌+◌, ◌-◌, ◌*◌, ◌≤◌, ◌<◌, Bool, true, cond, ◌||◌, List, [], ◌∷◌, ◌++◌, map, eqb, length}
use Rattle.area.specs.Lists.{any_of}
use Rattle.area.specs.Parts.{part_of}
use Rattle.word.specs.Sums.{logical_sum}
use Rattle.word.specs.CheckWords.{check_word, next_number, extra}
use Rattle.block.specs.Blocks.{judged_block}
use Rattle.file.specs.declared.File.{File}
use Rattle.file_output.specs.Parts.{part_start, part_length}
use Rattle.file_input.specs.Ages.{Block, line}
use Rattle.demands_ledger.specs.Ledgers.{Item, word, Came, wrongs, contents_of}

-- ---- in the area: "Buffer i is words i×W up to (i+1)×W."

-- a full block with its e check words
abbrev pub block_in : ℕ → ℕ → List ℕ → Block → List ℕ
block_in w e area b = part_of (b.number * w) (b.words + e) area

-- what get has not given of a block
abbrev pub unread_in : ℕ → List ℕ → Block → List Item
unread_in w area b = wrongs b.arrival.failed b.arrival.check ++ map word (part_of (b.number * w + b.place) (b.words - b.place) area)

-- the full blocks of a file, the oldest first
abbrev pub blocks_in : ℕ → File → List ℕ → List (List ℕ)
blocks_in w f area = map (block_in w (extra f.sequence f.check) area) (line f)

abbrev pub unread_of : ℕ → File → List ℕ → List (List Item)
unread_of w f area = map (unread_in w area) (line f)

-- the words of its part-filled block
abbrev pub part_in : ℕ → File → List ℕ → List ℕ
part_in w f area = part_of (part_start w f) (part_length f) area

-- ---- as they must be

-- a block of these data words: check word last, if one is chosen
abbrev pub checked : Bool → Bool → ℕ → List ℕ → List ℕ
checked sequence check number words =
    words ++ cond (sequence || check) (check_word sequence check (logical_sum words) number ∷ []) []

-- blocks of these data words in a row, numbered from k on
unfoldable pub all_checked : Bool → Bool → ℕ → List (List ℕ) → List (List ℕ)
all_checked sequence check k [] = []
all_checked sequence check k (words ∷ rest) = checked sequence check k words ∷ all_checked sequence check (next_number k) rest

unfoldable pub joined : {A : Type 0} → List (List A) → List A
joined [] = []
joined (x ∷ xs) = x ++ joined xs

-- what a reader must meet in blocks that were delivered in this order, numbered from k on: the read error of each, and its check error, which with
-- what was found is its judgement as delivered
unfoldable pub contents : Bool → Bool → ℕ → List Came → List Item
contents sequence check k [] = []
contents sequence check k (b ∷ rest) =
    contents_of sequence check b.failed (judged_block b.words sequence check k).found b.words ++ contents sequence check (next_number k) rest

-- the number after so many blocks
unfoldable pub number_after : {A : Type 0} → ℕ → List A → ℕ
number_after k [] = k
number_after k (x ∷ xs) = number_after (next_number k) xs

-- ---- how many words a block has, by the words put and by the seals

-- a seal was accepted when p words had been put
abbrev pub is_sealed : List ℕ → ℕ → Bool
is_sealed seals p = any_of (eqb p) seals

-- A block of these data words, the first of which was put after k others, in a file of records of r words and blocks of B = `size`: whole records,
-- at least one, that B holds; it ends where "less than r then remains of B", or where a seal was accepted; and at the first seal after its
-- first word at the latest.
pub record Sized (r size : ℕ) (seals : List ℕ) (k : ℕ) (words : List ℕ) : Type 0 where
  pub records : ℕ
  pub whole : length words ≡ records * r
  pub some : 0 < length words
  pub fits : length words ≤ size
  pub ends : (size < length words + r) ⊎ (is_sealed seals (k + length words) ≡ true)
  pub within : (p : ℕ) → is_sealed seals p ≡ true → k < p → k + length words ≤ p

-- blocks of these data words, one after the other
pub data Divided (r size : ℕ) (seals : List ℕ) : ℕ → List (List ℕ) → Type 0 where
  done : {k : ℕ} → Divided r size seals k []
  next : {k : ℕ} {words : List ℕ} {blocks : List (List ℕ)} → Sized r size seals k words → Divided r size seals (k + length words) blocks
      → Divided r size seals k (words ∷ blocks)

-- the words of the part-filled block: whole records, room for one more, and no seal since its first word
pub record Filling (r size : ℕ) (seals : List ℕ) (k : ℕ) (words : List ℕ) : Type 0 where
  pub records : ℕ
  pub whole : length words ≡ records * r
  pub room : length words + r ≤ size
  pub unsealed : (p : ℕ) → is_sealed seals p ≡ true → p ≤ k
