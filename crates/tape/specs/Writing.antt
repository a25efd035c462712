-- A block or a mark written into lent bytes (M-100). Assumes nothing.
use Rattle.std.specs.Prelude.{Bool, not, cond, ◌&&◌, List, [], ◌∷◌, ◌++◌, ℕ, ◌+◌, ◌*◌, eqb, leb, length}
use Rattle.area.specs.Lists.{all_of}
use Rattle.area.specs.Parts.{is_word, paste}
use Rattle.area.specs.Refusals.{lowest}
use Rattle.tape.specs.Lengths.{length_bytes, record_size}
use Rattle.tape.specs.Characters.{data_bytes}

-- a length, the data, the length again: the data of words is even
unfoldable pub block_bytes : Bool → List ℕ → List ℕ
block_bytes bcd ws = length_bytes (6 * length ws) ++ (data_bytes bcd ws ++ length_bytes (6 * length ws))

-- "blocks have 1 to 1,024 words"
abbrev pub is_sized : ℕ → Bool
is_sized n = leb 1 n && leb n 1024

-- "Writing refuses 2, or 13 unless blocks have 1 to 1,024 words and the area has room"
unfoldable pub block_refusal : ℕ → ℕ → List ℕ → ℕ
block_refusal room at ws =
    lowest ((2, not (all_of is_word ws)) ∷ (13, not (is_sized (length ws) && leb (at + record_size (6 * length ws)) room)) ∷ [])

-- the bytes afterwards: a refused block changes none
unfoldable pub block_written : ℕ → Bool → List ℕ → List ℕ → List ℕ
block_written at bcd ws area = cond (eqb (block_refusal (length area) at ws) 0) (paste at (block_bytes bcd ws) area) area

-- the same of a mark, "a length of zero"
unfoldable pub mark_refusal : ℕ → ℕ → ℕ
mark_refusal room at = lowest ((13, not (leb (at + 4) room)) ∷ [])

unfoldable pub mark_written : ℕ → List ℕ → List ℕ
mark_written at area = cond (eqb (mark_refusal (length area) at) 0) (paste at (length_bytes 0) area) area
