-- A posted reel by document 01's rules: which blocks and marks a text of records and marks comes to, and which lines a reader of blocks and marks meets.
-- Assumes nothing.
use Rattle.std.specs.Prelude.{ℕ, zero, suc, ◌+◌, Bool, true, cond, ◌&&◌, List, [], ◌∷◌, ◌++◌, eqb, leb, ltb, length, take, drop}
use Rattle.area.specs.Lists.{all_of}
use Rattle.area.specs.Parts.{is_word}
use Rattle.word.specs.declared.Checked.{Checked}
use Rattle.word.specs.CheckWords.{extra, next_number}
use Rattle.block.specs.Blocks.{judged_block}
use Rattle.file.specs.Sizes.{sizes_fit}
use Rattle.demands_ledger.specs.Ledgers.{Choice, Came, data_of}
use Rattle.demands_ledger.specs.Blocks.{checked}
use Rattle.tape.specs.Reels.{Piece, Words, TapeMark}

-- ---- a text: each line is a record's words, or a mark

-- "Put carries exactly r words", each below 2^36
abbrev pub is_line : Choice → Piece → Bool
is_line c (Words ws) = all_of is_word ws && eqb (length ws) c.rlen
is_line c TapeMark = true

abbrev pub is_text : Choice → List Piece → Bool
is_text c = all_of (is_line c)

-- "Size 13 unless r is 1 to B and B + e is at most W.": W is 1,024
abbrev pub sizes_good : Choice → Bool
sizes_good c = sizes_fit 1024 c.sequence c.check c.size c.rlen

-- ---- writing: the blocks and marks of a text

-- "If less than r then remains of B, the block is sealed at once"
abbrev pub completes : Choice → List ℕ → Bool
completes c part = ltb c.size (length part + c.rlen)

-- block k of these data words, check word last
abbrev pub block_of : Choice → ℕ → List ℕ → Piece
block_of c k part = Words (checked c.sequence c.check k part)

-- "Seal does this early": nothing if no word was put
unfoldable pub sealed_early : Choice → ℕ → List ℕ → List Piece
sealed_early c k [] = []
sealed_early c k (w ∷ ws) = block_of c k (w ∷ ws) ∷ []

-- `part` is put in block k already; "block numbers start at 1 at each open, go up by one for every block sealed"
unfoldable pub written_from : Choice → ℕ → List ℕ → List Piece → List Piece
written_from c k part [] = sealed_early c k part
written_from c k part (TapeMark ∷ text) = sealed_early c k part ++ (TapeMark ∷ written_from c 1 [] text)
written_from c k part (Words ws ∷ text) =
    cond (completes c (part ++ ws)) (block_of c k (part ++ ws) ∷ written_from c (next_number k) [] text) (written_from c k (part ++ ws) text)

unfoldable pub written : Choice → List Piece → List Piece
written c text = written_from c 1 [] text

-- ---- reading: the lines of blocks and marks

pub data Line : Type 0 where
  -- a record, a leftover, a block in error with what was found, a block that is refused, a mark
  entry : List ℕ → Line
  leftover : List ℕ → Line
  wrong : Checked → Line
  refused : ℕ → Line
  mark : Line

-- "a record (the next r words ..); a short leftover (fewer than r words remain, all given)": n lines at most
unfoldable pub cut_on : ℕ → ℕ → List ℕ → List Line
cut_on zero r words = []
cut_on (suc n) r [] = []
cut_on (suc n) r (w ∷ ws) =
    cond (leb r (length (w ∷ ws))) (entry (take r (w ∷ ws)) ∷ cut_on n r (drop r (w ∷ ws))) (leftover (w ∷ ws) ∷ [])

-- "the block's check error, once, before its first record"
abbrev pub wrong_lines : ℕ → Checked → List Line
wrong_lines zero found = []
wrong_lines (suc e) found = wrong found ∷ []

-- block k as delivered: its error, if it is judged to have one, and its data words, of which there are no more records than words
unfoldable pub block_lines : Choice → ℕ → List ℕ → List Line
block_lines c k ws =
    let found = (judged_block ws c.sequence c.check k).found in
    let words = data_of c.sequence c.check ws in
    wrong_lines found.error found ++ cut_on (length words) c.rlen words

-- "A delivered block has 1 + e to B + e words, else 13."
abbrev pub is_taken : Choice → ℕ → Bool
is_taken c n = leb (1 + extra c.sequence c.check) n && leb n (c.size + extra c.sequence c.check)

-- block k is due: "go up by one for every block .. delivered"
unfoldable pub read_from : Choice → ℕ → List Piece → List Line
read_from c k [] = []
read_from c k (TapeMark ∷ pieces) = mark ∷ read_from c 1 pieces
read_from c k (Words ws ∷ pieces) =
    cond (is_taken c (length ws)) (block_lines c k ws ++ read_from c (next_number k) pieces) (refused 13 ∷ read_from c k pieces)

unfoldable pub read_back : Choice → List Piece → List Line
read_back c pieces = read_from c 1 pieces

-- the line of a record and of a mark, of which no other line is one
abbrev pub line_of : Piece → Line
line_of (Words ws) = entry ws
line_of TapeMark = mark

-- ---- blocks of a reel as a ledger notes them

-- a block that a good read brings
abbrev pub well : List ℕ → Came
well words = record { failed = 0; words = words }
