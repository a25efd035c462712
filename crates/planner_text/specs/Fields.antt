-- The fields of a line, and the numbers and words that they are. Assumes nothing.
use Rattle.std.specs.Prelude.{Bool, true, false, cond, ◌&&◌, List, [], ◌∷◌, ℕ, suc, ◌+◌, ◌-◌, ◌*◌, min, eqb, leb, length, get_or, take, drop}

-- ---- a text up to a byte, and after it

-- how many bytes stand before the first `stop`: all, if there is none
unfoldable pub up_to : ℕ → List ℕ → ℕ
up_to stop [] = 0
up_to stop (c ∷ cs) = cond (eqb c stop) 0 (suc (up_to stop cs))

unfoldable pub first_to : ℕ → List ℕ → List ℕ
first_to stop cs = take (up_to stop cs) cs

unfoldable pub rest_to : ℕ → List ℕ → List ℕ
rest_to stop cs = drop (up_to stop cs + 1) cs

-- ---- fields

-- the byte between fields
abbrev pub blank : ℕ → Bool
blank c = eqb c 32

unfoldable pub same_bytes : List ℕ → List ℕ → Bool
same_bytes [] [] = true
same_bytes [] (b ∷ bs) = false
same_bytes (a ∷ rest) [] = false
same_bytes (a ∷ rest) (b ∷ bs) = eqb a b && same_bytes rest bs

-- ---- numbers: decimal, without zeros in front; whatever is over 255 counts as 255, and what is no number as 256

abbrev pub digit : ℕ → Bool
digit c = leb 48 c && leb c 57

unfoldable pub capped : ℕ → ℕ → ℕ
capped v c = min (v * 10 + (c - 48)) 255

unfoldable pub digits_from : ℕ → List ℕ → ℕ
digits_from v [] = v
digits_from v (c ∷ cs) = cond (digit c) (digits_from (capped v c) cs) 256

unfoldable pub number_of : List ℕ → ℕ
number_of cs = cond (eqb (length cs) 0) 256 (cond (eqb (length cs) 1) (digits_from 0 cs) (cond (eqb (get_or cs 0 0) 48) 256 (digits_from 0 cs)))

-- ---- words, in their bytes

abbrev pub open_word : List ℕ
open_word = 111 ∷ 112 ∷ 101 ∷ 110 ∷ []

abbrev pub close_word : List ℕ
close_word = 99 ∷ 108 ∷ 111 ∷ 115 ∷ 101 ∷ []

abbrev pub single_word : List ℕ
single_word = 115 ∷ 105 ∷ 110 ∷ 103 ∷ 108 ∷ 101 ∷ []

abbrev pub double_word : List ℕ
double_word = 100 ∷ 111 ∷ 117 ∷ 98 ∷ 108 ∷ 101 ∷ []

abbrev pub size_word : List ℕ
size_word = 115 ∷ 105 ∷ 122 ∷ 101 ∷ []
