-- The words of a block, brought into a lent area (M-100). Assumes nothing.
use Rattle.std.specs.Prelude.{Bool, cond, ◌&&◌, List, ℕ, ◌+◌, ◌*◌, leb, length}
use Rattle.area.specs.Parts.{paste}
use Rattle.tape.specs.Characters.{words_from}

-- n words stand among the bytes from `place` on and have room in an area of `room` words from `at` on
unfoldable pub words_fit : ℕ → ℕ → ℕ → ℕ → ℕ → Bool
words_fit bytes place n room at = leb (place + 6 * n) bytes && leb (at + n) room

-- the area with the words, or as it was
unfoldable pub words_read : List ℕ → ℕ → ℕ → List ℕ → ℕ → List ℕ
words_read image place n area at = cond (words_fit (length image) place n (length area) at) (paste at (words_from image place n) area) area
