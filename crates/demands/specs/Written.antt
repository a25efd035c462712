-- How the words put are divided into blocks, and which block a report hands out (document 01, "Files and buffers", Output), of the file's ledger.
-- Assumes nothing.
use Rattle.std.specs.Prelude.{◌≡◌, ◌≢◌, Bool, true, false, ◌||◌, List, [], ◌∷◌, ◌++◌, map, ℕ, ◌+◌, ◌%◌, eqb, length}
use Rattle.word.specs.CheckWords.{block_numbers}
use Rattle.pack.specs.Calls.{Added, nothing, working, reported, got, returned, runs, Answer}
use Rattle.demands_ledger.specs.Ledgers.{Choice, Ledger, data_of}
use Rattle.demands_ledger.specs.Blocks.{checked, joined, Sized, Divided, Filling}

-- the data words of blocks, each without its check word, by what the open chose
abbrev pub data_by : Choice → List (List ℕ) → List (List ℕ)
data_by c = map (data_of c.sequence c.check)

-- ---- "If less than r then remains of B, the block is sealed at once: it gets its check word and is full. Seal does this early."

-- of an output file, with the blocks that lie full in the area
pub record Cuts (g : Ledger) (full : List (List ℕ)) : Type 0 where
  -- each block that was shown, and then each that lies full, has the most whole records that B holds, unless a seal was accepted for it: then it
  -- ends there
  pub blocks : Divided g.chosen.rlen g.chosen.size g.seals 0 (data_by g.chosen (g.sent ++ full))
  -- and the words put after them, which no block has yet, leave room for a record more, and no seal was accepted for them
  pub part : List ℕ
  pub after : joined (data_by g.chosen (g.sent ++ full)) ++ part ≡ g.puts
  pub filling : Filling g.chosen.rlen g.chosen.size g.seals (length (joined (data_by g.chosen (g.sent ++ full)))) part

-- ---- "Ask write sends the oldest full block."

-- The block that is due after those handed out, of what the open chose, the words put, the seals and the blocks shown. No two blocks are due.
pub record Due (c : Choice) (puts seals : List ℕ) (sent : List (List ℕ)) (block : List ℕ) : Type 0 where
  pub words : List ℕ
  pub rest : List ℕ
  -- its data words are those put next after the words handed out,
  pub oldest : joined (data_by c sent) ++ (words ++ rest) ≡ puts
  -- as many as a block has,
  pub sized : Sized c.rlen c.size seals (length (joined (data_by c sent))) words
  -- "check word last", with the number after theirs
  pub numbered : block ≡ checked c.sequence c.check ((1 + length sent) % block_numbers) words

abbrev pub DueOf : Ledger → List ℕ → Type 0
DueOf g block = Due g.chosen g.puts g.seals g.sent block

-- ---- an accepted report on the unit of a file, with the file's ledger before and after it

-- "01 good .. 04 end of medium"
abbrev pub is_done : Added → Bool
is_done nothing = false
is_done (working u) = false
is_done (reported result error u) = eqb result 1 || eqb result 4
is_done (got g) = false
is_done (returned entered p) = false
is_done (runs p) = false

-- of a write: a block was due,
pub record Sends (before after : Ledger) (a : Answer) : Type 0 where
  pub block : List ℕ
  pub due : DueOf before block
  -- "After a good end or end of medium the answer shows the block's words, check word last": that block, which is handed out then
  pub out : is_done a.added ≡ true → (a.shows ≡ block) × (after.sent ≡ before.sent ++ (block ∷ []))
  -- "after a permanent error it is full still.": no block is handed out, and the same one, with the same number, is due
  pub again : is_done a.added ≡ false → (a.shows ≡ []) × DueOf after block

-- "operation(0 read, 1 write, 2 mark)": a block is handed out by a write alone
pub record HandsOut (before after : Ledger) (a : Answer) : Type 0 where
  pub write : before.asked ≡ 1 → Sends before after a
  pub other : before.asked ≢ 1 → a.shows ≡ []
