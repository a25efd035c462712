-- What get answers and what skip drops, of what the file's ledger says was delivered, given and dropped (document 01, "Files and buffers", Input).
-- Assumes nothing.
use Rattle.std.specs.Prelude.{◌≡◌, Bool, true, false, not, cond, ◌&&◌, ◌||◌, List, [], ◌∷◌, ◌++◌, map, ℕ, ◌+◌, ◌/◌, ◌%◌, ◌^◌, ◌<◌, eqb, length}
use Rattle.word.specs.declared.Checked.{Checked}
use Rattle.word.specs.Sums.{logical_sum, folded}
use Rattle.word.specs.CheckWords.{block_numbers}
use Rattle.file_input.specs.declared.Got.TheVariants.{Record, Leftover, Error, End, Nothing}
use Rattle.pack.specs.Calls.{Added, got}
use Rattle.demands_ledger.specs.Ledgers.{Item, word, wrong, Ledger}

-- An accepted get of a file with records of r words: what its answer adds, and the words that it shows, by whether a mark was read since the
-- open, and by what is owed: of each delivered block that is not done with, the oldest first, its errors that were not told, the read error before the
-- check error, and then its words that were not given. One case alone applies.
pub data Gives (r : ℕ) (marked : Bool) : List (List Item) → Added → List ℕ → Type 0 where
  -- "If that block was used up by an earlier get, it first becomes empty and the next oldest is looked at."
  past : {blocks : List (List Item)} {a : Added} {words : List ℕ} → Gives r marked blocks a words → Gives r marked ([] ∷ blocks) a words
  -- "the block's check error, once, before its first record", and "error 4 or 10, once, before any check error" (document 02, M-101): the error that is
  -- owed first; it is owed no more afterwards; and what was found at delivery comes with it
  tells : (found : Checked) {items : List Item} {blocks : List (List Item)} → Gives r marked ((wrong found ∷ items) ∷ blocks) (got (Error found)) []
  -- "a record (the next r words, as a part of the area)"
  gives : (start : ℕ) (words more : List ℕ) {blocks : List (List Item)} → length words ≡ r
      → Gives r marked (map word (words ++ more) ∷ blocks) (got (Record start r)) words
  -- "a short leftover (fewer than r words remain, all given)"
  leaves : (start n : ℕ) (words : List ℕ) {blocks : List (List Item)} → length words ≡ n → 0 < n → n < r
      → Gives r marked (map word words ∷ blocks) (got (Leftover start n)) words
  -- "*end* (no full block, mark read)"
  ends : marked ≡ true → Gives r marked [] (got End) []
  -- "*nothing yet*"
  waits : marked ≡ false → Gives r marked [] (got Nothing) []

-- "Skip drops the oldest full block, used up or not.": all that is left of it, and nothing of the others. The ledger before and after, and
-- what lies unread in the area after it.
pub record Drops (before after : Ledger) (unread : List (List Item)) : Type 0 where
  pub oldest : List Item
  pub others : List (List Item)
  pub was : before.owed ≡ oldest ∷ others
  pub gone : after.gone ≡ before.gone ++ oldest
  pub owed : after.owed ≡ others
  pub lies : unread ≡ others

-- What is told of a block that was delivered with these words, after so many others since the open (document 01, "The check word"; document 02, "Tell us what was
-- found"): said of the words alone, and not by the definition that the code is proved against.
pub record Finds (sequence check : Bool) (before : ℕ) (words : List ℕ) (c : Checked) : Type 0 where
  -- "check word last", if a field is chosen; "With no check word the fields read are zero"
  pub front : List ℕ
  pub last : ℕ
  pub block : words ≡ front ++ cond (sequence || check) (last ∷ []) []
  pub none : (sequence || check) ≡ false → last ≡ 0
  -- "The logical sum starts at 0 and adds each data word ..", folded: "fields not chosen are still worked out"
  pub sum : c.sum ≡ folded (logical_sum front)
  -- "block numbers start at 1 at each open, go up by one for every block sealed or delivered, and pass from 32,767 to 0"
  pub number : c.number ≡ (1 + before) % block_numbers
  -- "the first 18 bits", and "the address portion, the low 15 bits"
  pub sumread : c.sumread ≡ last / 2 ^ 18 % 2 ^ 18
  pub numberread : c.numberread ≡ last % 2 ^ 15
  -- "On reading, only the chosen fields are compared. Error 1 is sequence, 2 check sum, 3 both."
  pub error : c.error ≡ cond (sequence && not (eqb c.numberread c.number)) 1 0 + cond (check && not (eqb c.sumread c.sum)) 2 0
