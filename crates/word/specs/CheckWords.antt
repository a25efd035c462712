-- The check word of a block (document 01, "The check word"). Assumes nothing.
use Rattle.std.specs.Prelude.{◌≡◌, ℕ, ◌+◌, ◌*◌, ◌/◌, ◌%◌, ◌^◌, ◌<◌, Bool, cond, ◌||◌}
use Rattle.word.specs.Sums.{first_half, folded}

-- "the address portion, the low 15 bits", and the bits between it and the first half
unfoldable pub address : ℕ → ℕ
address w = w % 2 ^ 15

unfoldable pub between : ℕ → ℕ
between w = w / 2 ^ 15 % 2 ^ 3

-- "Let e be 1 if sequence or check is chosen, else 0.": how many of a block's words are its check word
abbrev pub extra : Bool → Bool → ℕ
extra sequence check = cond (sequence || check) 1 0

-- a field's value if it is chosen, else zero
abbrev pub chosen : Bool → ℕ → ℕ
chosen choice n = cond choice n 0

-- "That folded sum fills the first 18 bits if check sums are chosen; the block number fills the address portion, the low 15 bits, if sequence is chosen. All else is zero."
unfoldable pub check_word : Bool → Bool → ℕ → ℕ → ℕ
check_word sequence check sum number = chosen check (folded sum) * 2 ^ 18 + chosen sequence (address number)

-- the same sentence, of a word w and with no word computed: law `check_word_only` says that one word alone is like this
pub record IsCheckWord (sequence check : Bool) (sum number w : ℕ) : Type 0 where
  pub word : w < 2 ^ 36
  pub first : first_half w ≡ chosen check (folded sum)
  pub last : address w ≡ chosen sequence (address number)
  pub rest : between w ≡ 0

-- "the block number fills the address portion, the low 15 bits": block numbers are 0 to 32,767
abbrev pub block_numbers : ℕ
block_numbers = 32768

-- "go up by one for every block sealed or delivered, and pass from 32,767 to 0"
abbrev pub next_number : ℕ → ℕ
next_number n = (n + 1) % block_numbers
