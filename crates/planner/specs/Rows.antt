-- A proposal: a pool size, and for each opening, in the list's order, a row that names its file and its buffers. Assumes nothing.
use Rattle.std.specs.Prelude.{Bool, true, false, cond, List, [], ◌∷◌, ℕ, ◌/◌, ◌%◌, eqb}

-- ---- a row is a number of four bytes: how many buffers it names, file, second buffer, first buffer

abbrev pub row_count : ℕ → ℕ
row_count r = r / 16777216

abbrev pub row_file : ℕ → ℕ
row_file r = r / 65536 % 256

abbrev pub row_second : ℕ → ℕ
row_second r = r / 256 % 256

abbrev pub row_first : ℕ → ℕ
row_first r = r % 256

-- the buffers that a row names: one or two, and with another count none that could serve
unfoldable pub buffers_of : ℕ → List ℕ
buffers_of r = cond (eqb (row_count r) 1) (row_first r ∷ []) (cond (eqb (row_count r) 2) (row_second r ∷ row_first r ∷ []) [])

-- ---- buffers in a row

-- b is one of these buffers
unfoldable pub among : ℕ → List ℕ → Bool
among b [] = false
among b (x ∷ xs) = cond (eqb b x) true (among b xs)

-- no buffer stands there twice
unfoldable pub different : List ℕ → Bool
different [] = true
different (b ∷ bs) = cond (among b bs) false (different bs)
