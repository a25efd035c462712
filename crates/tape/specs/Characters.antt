-- The characters of a word, and the bytes that hold them (M-100). Assumes nothing.
use Rattle.std.specs.Prelude.{Bool, cond, List, [], ◌∷◌, ◌++◌, ℕ, zero, suc, ◌+◌, ◌*◌, ◌/◌, ◌%◌, ◌^◌, get_or}

-- "One byte holds a six-bit character in its low bits": the higher bits are ignored on reading
abbrev pub character : ℕ → ℕ
character b = b % 64

-- "six make a word, leftmost first"
abbrev pub word_of : ℕ → ℕ → ℕ → ℕ → ℕ → ℕ → ℕ
word_of a b c d e f = ((((a * 64 + b) * 64 + c) * 64 + d) * 64 + e) * 64 + f

-- the word of the six bytes from byte k on
abbrev pub word_at : List ℕ → ℕ → ℕ
word_at bs k =
    word_of (character (get_or bs k 0)) (character (get_or bs (k + 1) 0)) (character (get_or bs (k + 2) 0))
    (character (get_or bs (k + 3) 0)) (character (get_or bs (k + 4) 0)) (character (get_or bs (k + 5) 0))

-- n words, one after the other
unfoldable pub words_from : List ℕ → ℕ → ℕ → List ℕ
words_from bs k zero = []
words_from bs k (suc n) = word_at bs k ∷ words_from bs (k + 6) n

-- the characters of a word
unfoldable pub word_characters : ℕ → List ℕ
word_characters w = w / 2 ^ 30 % 64 ∷ w / 2 ^ 24 % 64 ∷ w / 2 ^ 18 % 64 ∷ w / 2 ^ 12 % 64 ∷ w / 2 ^ 6 % 64 ∷ w % 64 ∷ []

-- the ones among the six bits of a character
abbrev pub ones : ℕ → ℕ
ones c = c % 2 + c / 2 % 2 + c / 4 % 2 + c / 8 % 2 + c / 16 % 2 + c / 32

-- "odd for binary, even for BCD": the bit that makes the count of ones so
unfoldable pub parity_of : Bool → ℕ → ℕ
parity_of bcd c = cond bcd (ones c % 2) ((ones c + 1) % 2)

-- "Parity goes in the next bit on writing"
abbrev pub with_parity : Bool → ℕ → ℕ
with_parity bcd c = c + 64 * parity_of bcd c

-- the bytes of a word as they are written
unfoldable pub word_bytes : Bool → ℕ → List ℕ
word_bytes bcd w =
    with_parity bcd (w / 2 ^ 30 % 64) ∷ with_parity bcd (w / 2 ^ 24 % 64) ∷ with_parity bcd (w / 2 ^ 18 % 64)
    ∷ with_parity bcd (w / 2 ^ 12 % 64) ∷ with_parity bcd (w / 2 ^ 6 % 64) ∷ with_parity bcd (w % 64) ∷ []

-- the data of a block
unfoldable pub data_bytes : Bool → List ℕ → List ℕ
data_bytes bcd [] = []
data_bytes bcd (w ∷ ws) = word_bytes bcd w ++ data_bytes bcd ws
