-- The length words of a tape image (M-100). Assumes nothing.
use Rattle.std.specs.Prelude.{List, [], ◌∷◌, ℕ, ◌+◌, ◌*◌, ◌/◌, ◌%◌, ◌^◌, get_or}

-- "a four-byte length, lowest byte first": the number that four bytes are
abbrev pub length_of : ℕ → ℕ → ℕ → ℕ → ℕ
length_of a b c d = a + 256 * (b + 256 * (c + 256 * d))

-- the length that stands at byte k
abbrev pub length_at : List ℕ → ℕ → ℕ
length_at bs k = length_of (get_or bs k 0) (get_or bs (k + 1) 0) (get_or bs (k + 2) 0) (get_or bs (k + 3) 0)

-- the bytes of a length
unfoldable pub length_bytes : ℕ → List ℕ
length_bytes n = n % 256 ∷ n / 2 ^ 8 % 256 ∷ n / 2 ^ 16 % 256 ∷ n / 2 ^ 24 % 256 ∷ []

-- "the data padded to an even count"
abbrev pub padded : ℕ → ℕ
padded n = n + n % 2

-- how many bytes a record with n bytes of data has: "a four-byte length, .. the data .., the length again"
abbrev pub record_size : ℕ → ℕ
record_size n = padded n + 8
