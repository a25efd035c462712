-- The fields of a frame: bytes, sizes of two bytes, words of five (document 01, "The session program"). Assumes nothing.
use Rattle.std.specs.Prelude.{Bool, cond, List, [], ◌∷◌, ◌++◌, ℕ, ◌+◌, ◌*◌, ◌/◌, ◌%◌, ◌^◌, ltb, get_or}
use Rattle.word.specs.declared.Checked.{Checked}
use Rattle.routines.specs.declared.Program.{Program}
use Rattle.routines.specs.Ranks.{is_main}
use Rattle.session_frame.specs.Digits.{byte_digits, concat_map}

-- "Other numbers are one byte": byte k, 0 past the end
abbrev pub byte_at : List ℕ → ℕ → ℕ
byte_at bytes k = get_or bytes k 0

-- "Sizes B, r, W are two bytes, highest first."
abbrev pub size_at : List ℕ → ℕ → ℕ
size_at bytes k = byte_at bytes k * 256 + byte_at bytes (k + 1)

unfoldable pub size_bytes : ℕ → List ℕ
size_bytes n = n / 2 ^ 8 % 256 ∷ n % 256 ∷ []

-- "four bytes a sum", highest first
unfoldable pub sum_bytes : ℕ → List ℕ
sum_bytes n = n / 2 ^ 24 % 256 ∷ n / 2 ^ 16 % 256 ∷ n / 2 ^ 8 % 256 ∷ n % 256 ∷ []

-- what a check found, its error left out: "worked-out sum and number first, then those read, four bytes a sum, two a number"
abbrev pub found_bytes : Checked → List ℕ
found_bytes c = sum_bytes c.sum ++ (size_bytes c.number ++ (sum_bytes c.sumread ++ size_bytes c.numberread))

-- what runs, its rank left out: channel, unit and number, each 255 for the main program (document 02, M-110)
unfoldable pub program_byte : Program → ℕ → ℕ
program_byte p n = cond (is_main p) 255 n

abbrev pub program_bytes : Program → List ℕ
program_bytes p = program_byte p p.channel ∷ program_byte p p.unit ∷ program_byte p p.routine ∷ []

-- "Words are five bytes, highest first."
abbrev pub word_of : ℕ → ℕ → ℕ → ℕ → ℕ → ℕ
word_of a b c d e = (((a * 256 + b) * 256 + c) * 256 + d) * 256 + e

abbrev pub word_at : List ℕ → ℕ → ℕ
word_at bytes k =
    word_of (byte_at bytes k) (byte_at bytes (k + 1)) (byte_at bytes (k + 2)) (byte_at bytes (k + 3)) (byte_at bytes (k + 4))

unfoldable pub word_bytes : ℕ → List ℕ
word_bytes w = w / 2 ^ 32 % 256 ∷ w / 2 ^ 24 % 256 ∷ w / 2 ^ 16 % 256 ∷ w / 2 ^ 8 % 256 ∷ w % 256 ∷ []

-- what five bytes can hold: below 2^40
abbrev pub is_five : ℕ → Bool
is_five w = ltb w (2 ^ 40)

-- the words that bytes are, as long as five are left
unfoldable pub words_of : List ℕ → List ℕ
words_of [] = []
words_of (a ∷ []) = []
words_of (a ∷ b ∷ []) = []
words_of (a ∷ b ∷ c ∷ []) = []
words_of (a ∷ b ∷ c ∷ d ∷ []) = []
words_of (a ∷ b ∷ c ∷ d ∷ e ∷ rest) = word_of a b c d e ∷ words_of rest

-- the digits of a size, and of a word
unfoldable pub size_digits : ℕ → List ℕ
size_digits n = concat_map byte_digits (size_bytes n)

unfoldable pub word_digits : ℕ → List ℕ
word_digits w = concat_map byte_digits (word_bytes w)
