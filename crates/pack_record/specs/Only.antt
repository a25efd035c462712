-- Words in which theorems say what of an area a call leaves alone. Assumes nothing.
use Rattle.std.specs.Prelude.{ℕ, ◌+◌, ◌≤◌, ◌<◌, ◌≡◌, List, length, get_or}

-- zs is the area xs, but for the n words from index `at` on at most
pub record Only (at n : ℕ) (xs zs : List ℕ) : Type 0 where
  pub long : length zs ≡ length xs
  pub before : (j : ℕ) → j < at → get_or zs j 0 ≡ get_or xs j 0
  pub after : (j : ℕ) → at + n ≤ j → get_or zs j 0 ≡ get_or xs j 0
