-- Digits, and the bytes that pairs of them stand for (document 01, "The session program"). Assumes nothing.
use Rattle.std.specs.Prelude.{Bool, cond, ◌&&◌, ◌||◌, List, [], ◌∷◌, ◌++◌, ℕ, ◌+◌, ◌-◌, ◌*◌, ◌/◌, ◌%◌, ◌^◌, ltb, leb}

-- "pairs of upper-case hexadecimal digits": the characters 0 to 9 and A to F
abbrev pub is_decimal : ℕ → Bool
is_decimal c = leb 48 c && leb c 57

abbrev pub is_letter : ℕ → Bool
is_letter c = leb 65 c && leb c 70

abbrev pub is_digit : ℕ → Bool
is_digit c = is_decimal c || is_letter c

-- a byte is below 2^8
abbrev pub is_byte : ℕ → Bool
is_byte b = ltb b (2 ^ 8)

-- what a digit stands for, 0 for what is none
unfoldable pub value_of : ℕ → ℕ
value_of c = cond (is_decimal c) (c - 48) (cond (is_letter c) (c - 55) 0)

-- the digit of a number below 16
unfoldable pub digit_of : ℕ → ℕ
digit_of n = cond (ltb n 10) (n + 48) (n + 55)

-- the bytes that the pairs of a line stand for, the high digit first; a last character without a partner stands for nothing
unfoldable pub bytes_of : List ℕ → List ℕ
bytes_of [] = []
bytes_of (h ∷ []) = []
bytes_of (h ∷ l ∷ rest) = (value_of h * 16 + value_of l) ∷ bytes_of rest

-- the pair of a byte
unfoldable pub byte_digits : ℕ → List ℕ
byte_digits b = digit_of (b / 16) ∷ digit_of (b % 16) ∷ []

-- what f makes of each element, one after the other
unfoldable pub concat_map : (ℕ → List ℕ) → List ℕ → List ℕ
concat_map f [] = []
concat_map f (x ∷ xs) = f x ++ concat_map f xs
