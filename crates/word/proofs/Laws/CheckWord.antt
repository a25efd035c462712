-- The check word: what stands in each of its fields, that no other word is like it, and the next block number. Assumes nothing.
use Rattle.std.proofs.Common.{◌≡◌, ℕ, ◌+◌, ◌*◌, ◌/◌, ◌%◌, ◌^◌, ◌<◌, ◌≤◌, Bool, true, false, refl, ap, ◌∙◌, mod-lt, mod-eq_of_lt, arith, pow_pos, shl_exact}
use lib.Bits.{bit_or, or_shifted}
use Rattle.word.specs.Sums.{first_half, last_half, folded}
use Rattle.word.specs.CheckWords.{address, between, chosen, check_word, IsCheckWord, next_number}
use Rattle.word.proofs.Laws.Carry.{carry_lt}

-- ---- fields

pub folded_lt : (s : ℕ) → folded s < 2 ^ 18
unfolding folded first_half last_half
folded_lt s = carry_lt 18 (s / 2 ^ 18 % 2 ^ 18) (s % 2 ^ 18) (mod-lt (s / 2 ^ 18) (pow_pos 18)) (mod-lt s (pow_pos 18))

pub address_lt : (n : ℕ) → address n < 2 ^ 15
unfolding address
address_lt n = mod-lt n (pow_pos 15)

pub address_small : (n : ℕ) → n < 2 ^ 15 → address n ≡ n
unfolding address
address_small n h = mod-eq_of_lt h

-- a chosen field is no larger than what would fill it
pub chosen_lt : (choice : Bool) (n b : ℕ) → n < b → chosen choice n < b
chosen_lt true n b h = h
chosen_lt false n b h = omega arith

-- the machine's `(a << k) | b` at w bits, for an a of j bits and a b of k
pub placed : (j k w a b : ℕ) → a < 2 ^ j → b < 2 ^ k → j + k ≤ w → bit_or (a * 2 ^ k % 2 ^ w) b ≡ a * 2 ^ k + b
placed j k w a b ha hb h = ap (λ (n : ℕ). bit_or n b) (shl_exact j k w ha h) ∙ or_shifted a k b hb

-- ---- the check word

module _ (sequence check : Bool) (sum number : ℕ) where
  pub check_word_lt : check_word sequence check sum number < 2 ^ 36
  unfolding check_word
  check_word_lt = omega (arith, chosen_lt check (folded sum) (2 ^ 18) (folded_lt sum), chosen_lt sequence (address number) (2 ^ 15) (address_lt number))

  pub check_word_first : first_half (check_word sequence check sum number) ≡ chosen check (folded sum)
  unfolding check_word first_half
  check_word_first = omega (arith, chosen_lt check (folded sum) (2 ^ 18) (folded_lt sum), chosen_lt sequence (address number) (2 ^ 15) (address_lt number))

  pub check_word_address : address (check_word sequence check sum number) ≡ chosen sequence (address number)
  unfolding check_word address
  check_word_address = omega (arith, chosen_lt sequence (number % 2 ^ 15) (2 ^ 15) (mod-lt number (pow_pos 15)))

  pub check_word_between : between (check_word sequence check sum number) ≡ 0
  unfolding check_word between
  check_word_between = omega (arith, chosen_lt sequence (address number) (2 ^ 15) (address_lt number))

  -- document 01's sentence holds of it
  pub check_word_is : IsCheckWord sequence check sum number (check_word sequence check sum number)
  check_word_is = record { word = check_word_lt; first = check_word_first; last = check_word_address; rest = check_word_between }

  -- and of no other word
  pub check_word_only : (w : ℕ) → IsCheckWord sequence check sum number w → w ≡ check_word sequence check sum number
  unfolding check_word first_half address between
  check_word_only w h = omega (arith, h.word, h.first, h.last, h.rest)

-- without check sums the sum has no part in it
pub check_word_unsummed : (sequence : Bool) (s t number : ℕ) → check_word sequence false s number ≡ check_word sequence false t number
unfolding check_word
check_word_unsummed sequence s t number = refl

-- ---- the next block number: "go up by one .. and pass from 32,767 to 0"

pub next_number_up : (n : ℕ) → n < 32767 → next_number n ≡ n + 1
next_number_up n h = mod-eq_of_lt (omega arith)

pub next_number_wraps : next_number 32767 ≡ 0
next_number_wraps = refl
