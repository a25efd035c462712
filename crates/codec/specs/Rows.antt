-- Numbers as bytes, the lowest first: two, four or eight. Assumes nothing.
use Rattle.std.specs.Prelude.{ℕ, ◌+◌, ◌*◌, ◌/◌, ◌%◌, List, [], ◌∷◌, get_or}
use Rattle.codec.specs.Codecs.{Codec}

-- ---- the bytes of a number; the last has all that is left, so that no number is cut

abbrev pub two_bytes : ℕ → List ℕ → List ℕ
two_bytes n rest = n % 256 ∷ n / 256 ∷ rest

abbrev pub four_bytes : ℕ → List ℕ → List ℕ
four_bytes n rest = n % 256 ∷ n / 256 % 256 ∷ n / 256 / 256 % 256 ∷ n / 256 / 256 / 256 ∷ rest

abbrev pub eight_bytes : ℕ → List ℕ
eight_bytes n = four_bytes (n % 4294967296) (four_bytes (n / 4294967296) [])

-- ---- the number of such bytes

abbrev pub two : ℕ → ℕ → ℕ
two a b = a + b * 256

abbrev pub four : ℕ → ℕ → ℕ → ℕ → ℕ
four a b c d = a + (b + (c + d * 256) * 256) * 256

-- the number of the two bytes at a place, and of the four
abbrev pub two_at : List ℕ → ℕ → ℕ
two_at bs at = two (get_or bs at 0) (get_or bs (at + 1) 0)

abbrev pub four_at : List ℕ → ℕ → ℕ
four_at bs at = four (get_or bs at 0) (get_or bs (at + 1) 0) (get_or bs (at + 2) 0) (get_or bs (at + 3) 0)

abbrev pub eight : ℕ → ℕ → ℕ → ℕ → ℕ → ℕ → ℕ → ℕ → ℕ
eight a b c d e f g h = four a b c d + four e f g h * 4294967296

abbrev pub eight_of : List ℕ → ℕ
eight_of bs = eight (get_or bs 0 0) (get_or bs 1 0) (get_or bs 2 0) (get_or bs 3 0) (get_or bs 4 0) (get_or bs 5 0) (get_or bs 6 0) (get_or bs 7 0)

abbrev pub word_codec : Codec ℕ
word_codec = record { size = 8; write = eight_bytes; read = eight_of }
