-- What the check of a block finds (document 01, "The check word"; document 02, "Tell us what was found"). Assumes nothing.
use Rattle.std.specs.Prelude.{ℕ, ◌+◌, ◌^◌, Bool, cond, ◌&&◌, ◌||◌, ◌==◌, nat_lt}
use Rattle.word.specs.declared.Checked.{Checked}
use Rattle.word.specs.Sums.{first_half, folded}
use Rattle.word.specs.CheckWords.{address, block_numbers, chosen}

-- "On reading, only the chosen fields are compared. Error 1 is sequence, 2 check sum, 3 both.": of the sum and the number worked out, and then those read
unfoldable pub error_of : Bool → Bool → ℕ → ℕ → ℕ → ℕ → ℕ
error_of sequence check sum number sumread numberread =
    chosen sequence (cond (numberread == number) 0 1) + chosen check (cond (sumread == sum) 0 2)

-- the same of what was found: whatever error stands with it, the comparison of its chosen fields
abbrev pub error_in : Bool → Bool → Checked → ℕ
error_in sequence check c = error_of sequence check c.sum c.number c.sumread c.numberread

-- "The check of a block must return, beside the error number, the folded sum and the block number it worked out, and the two fields it read": of the
-- logical sum of the data words, the number that the block is due, and its check word. "fields not chosen are still worked out", and read as they stand.
unfoldable pub check_of : Bool → Bool → ℕ → ℕ → ℕ → Checked
check_of sequence check sum number word = record {
  error = error_of sequence check (folded sum) number (first_half word) (address word);
  sum = folded sum;
  number = number;
  sumread = first_half word;
  numberread = address word;
}

-- where nothing was checked, all is zero
abbrev pub unchecked : Checked
unchecked = record { error = 0; sum = 0; number = 0; sumread = 0; numberread = 0 }

-- what was found, after its error was told: "the block's check error, once"
abbrev pub told_check : Checked → Checked
told_check c = record { error = 0; sum = c.sum; number = c.number; sumread = c.sumread; numberread = c.numberread }

-- the same with another error's number
abbrev pub with_error : ℕ → Checked → Checked
with_error n c = record { error = n; sum = c.sum; number = c.number; sumread = c.sumread; numberread = c.numberread }

-- ---- what may stand with a block of a file that has chosen these fields

-- fields of 18 and of 15 bits; "With no check word the fields read are zero"
abbrev pub fields_fit : Bool → Bool → Checked → Bool
fields_fit sequence check c =
    (nat_lt c.sum (2 ^ 18) && nat_lt c.number block_numbers)
    && ((nat_lt c.sumread (2 ^ 18) && nat_lt c.numberread block_numbers)
    && ((sequence || check) || (c.sumread == 0 && c.numberread == 0)))

-- the chosen fields are unequal exactly where the error says so; an error that was told is 0
unfoldable pub is_checked : Bool → Bool → Checked → Bool
is_checked sequence check c = fields_fit sequence check c && (c.error == 0 || c.error == error_in sequence check c)

-- the error was not told yet: it is exactly the comparison of the chosen fields
abbrev pub is_exact : Bool → Bool → Checked → Bool
is_exact sequence check c = c.error == error_in sequence check c

-- all zero
abbrev pub is_unchecked : Checked → Bool
is_unchecked c = c.error == 0 && ((c.sum == 0 && c.number == 0) && (c.sumread == 0 && c.numberread == 0))
