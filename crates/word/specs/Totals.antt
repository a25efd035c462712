-- The plain total of a list of words, and all its carries put back at once: how the code sums. No public contract cites this file.
-- Assumes nothing.
use Rattle.std.specs.Prelude.{ℕ, zero, suc, ◌+◌, ◌%◌, List, [], ◌∷◌}

unfoldable pub total : List ℕ → ℕ
total [] = 0
total (w ∷ ws) = w + total ws

-- 0 stays; any other number goes to its residue from 1 to m
unfoldable pub reduced : ℕ → ℕ → ℕ
reduced m zero = zero
reduced m (suc n) = suc (n % m)
