-- The faults of a record (M-100). Assumes nothing.
use Rattle.std.specs.Prelude.{Bool, not, cond, ◌&&◌, List, [], ◌∷◌, ℕ, ◌+◌, ◌%◌, max, eqb, leb, ltb, length}
use Rattle.area.specs.Refusals.{Rows}
use Rattle.tape.specs.Lengths.{length_at, padded, record_size}

-- the most data bytes: 1,024 words
abbrev pub most_bytes : ℕ
most_bytes = 6144

-- "the highest number that applies is given": 0 where none applies
unfoldable pub highest : Rows → ℕ
highest [] = 0
highest (x ∷ xs) = max (cond x.1 x.0 0) (highest xs)

-- the second length of a record whose first length is n is there and is another
abbrev pub differ_at : List ℕ → ℕ → Bool
differ_at bs n = leb (record_size n) (length bs) && not (eqb (length_at bs (4 + padded n)) n)

-- "Differing lengths are refused 20, a cut record 21, a data length not a multiple of six 22, a length over 6,144 or a length word of
-- another meaning 23": of a record of which `left` bytes stand, fewer than four of which are no length, with the first length n
abbrev pub fault_rows : ℕ → ℕ → Bool → Rows
fault_rows left n differ =
    (20, differ)
    ∷ (21, ltb left (record_size n))
    ∷ (22, leb 4 left && not (eqb (n % 6) 0))
    ∷ (23, leb 4 left && ltb most_bytes n)
    ∷ []

unfoldable pub fault_of : ℕ → ℕ → Bool → ℕ
fault_of left n differ = highest (fault_rows left n differ)
