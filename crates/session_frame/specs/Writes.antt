-- Digits written into a lent area. Assumes nothing.
use Rattle.std.specs.Prelude.{cond, List, ℕ, ◌+◌, length}
use Rattle.area.specs.Parts.{paste_fits}

-- the place after ys, written from `at` on; the same place where they do not fit and nothing is written
unfoldable pub place_after : ℕ → List ℕ → List ℕ → ℕ
place_after at ys xs = cond (paste_fits at ys xs) (at + length ys) at
