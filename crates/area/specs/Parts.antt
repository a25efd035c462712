-- Words, and parts of an area of words (document 01, "Sizes"). Assumes nothing.
use Rattle.std.specs.Prelude.{Bool, cond, List, ◌++◌, ℕ, ◌+◌, ◌^◌, leb, ltb, length, take, drop}

-- "The caller lends an area of 64-bit numbers, one 36-bit word in each."
abbrev pub is_word : ℕ → Bool
is_word w = ltb w (2 ^ 36)

-- the n elements from index `at` on, or as many of them as there are
abbrev pub part_of : {A : Type 0} → ℕ → ℕ → List A → List A
part_of at n xs = take n (drop at xs)

-- the list with ys in the place of as many elements from index `at` on
unfoldable pub paste : {A : Type 0} → ℕ → List A → List A → List A
paste at ys xs = take at xs ++ (ys ++ drop (at + length ys) xs)

-- ys fit into xs from index `at` on
abbrev pub paste_fits : {A : Type 0} → ℕ → List A → List A → Bool
paste_fits at ys xs = leb (at + length ys) (length xs)

-- ys pasted where they fit; else the list as it was
unfoldable pub pasted_in : {A : Type 0} → ℕ → List A → List A → List A
pasted_in at ys xs = cond (paste_fits at ys xs) (paste at ys xs) xs
