-- Sums of 36-bit words (document 01, "The check word"; the manual, "Block Sequence Numbers and Check Sums"). Assumes nothing.
use Rattle.std.specs.Prelude.{ℕ, ◌+◌, ◌/◌, ◌%◌, ◌^◌, cond, List, [], ◌∷◌}
use Rattle.area.specs.Lists.{all_of}
use Rattle.area.specs.Parts.{is_word}
use Rattle.word.specs.declared.sums.Summed.{Summed}

-- "a carry out of the top is added back at the bottom": the sum of two numbers of k bits
unfoldable pub carry_back : ℕ → ℕ → ℕ → ℕ
carry_back k a b = (a + b) % 2 ^ k + (a + b) / 2 ^ k

-- a sum that stands at s, with each of the words added to it
unfoldable pub sum_from : ℕ → List ℕ → ℕ
sum_from s [] = s
sum_from s (w ∷ ws) = sum_from (carry_back 36 s w) ws

-- "The logical sum starts at 0 and adds each data word"
unfoldable pub logical_sum : List ℕ → ℕ
logical_sum ws = sum_from 0 ws

-- the first and the last 18 bits of a word ("Bit S is the highest of 36")
unfoldable pub first_half : ℕ → ℕ
first_half w = w / 2 ^ 18 % 2 ^ 18

unfoldable pub last_half : ℕ → ℕ
last_half w = w % 2 ^ 18

-- "The two 18-bit halves of the sum are added the same way."
unfoldable pub folded : ℕ → ℕ
folded s = carry_back 18 (first_half s) (last_half s)

-- what one pass tells of a list: whether every word is below 2^36, and then its logical sum
unfoldable pub summed : List ℕ → Summed
summed ws = record { fits = all_of is_word ws; sum = cond (all_of is_word ws) (logical_sum ws) 0 }
