-- There and back: what is written reads back as the same number, a byte below 2^8, a size below 2^16, a word below 2^40. Assumes nothing.
use mathlib.Core.Path.{◌≡◌, refl, sym, ap, ◌∙◌}
use mathlib.Core.Bool.{true, false}
use mathlib.Core.List.{List, [], ◌∷◌, ◌++◌, append_assoc}
use Prim.Native.Nat.{ℕ, ◌+◌, ◌*◌, ◌/◌, ◌%◌, ◌^◌, ◌≤◌, ◌<◌}
use native.Mathlib.Nat.{div-add-mod', div-div-eq-div-mul, mod-eq_of_lt}
use native.Mathlib.Omega.{arith}
use borrow.Author.Tests.{ltb-true, ltb-false, le-leb, lt-leb, lt-ltb}
use lib.Dec.{ltb}
use lib.ListN.{length}
use Rattle.area.specs.Lists.{all_of}
use Rattle.area.specs.Parts.{part_of, pasted_in}
use Rattle.area.proofs.Pastes.{paste_part, paste_fitting}
use Rattle.area.proofs.Walks.{by_test, and_both, and_left, and_right, or_first, or_second}
use Rattle.session_frame.specs.Digits.{is_decimal, is_letter, is_digit, is_byte, value_of, digit_of, bytes_of, byte_digits, concat_map}
use Rattle.session_frame.specs.Fields.{byte_at, size_at, size_bytes, word_of, word_at, word_bytes, is_five, words_of, size_digits, word_digits}
use Rattle.session_frame.proofs.Laws.Values.{value_decimal, value_letter, digit_decimal, digit_letter}
use Rattle.session_frame.proofs.Laws.Writes.{length_byte, length_size, length_word, length_concat}

-- ---- a digit

module _ (n : ℕ) (h : n < 16) where
  decimal_is : n < 10 → is_decimal (n + 48) ≡ true
  decimal_is k = and_both _ _ (le-leb 48 (n + 48) (omega arith)) (le-leb (n + 48) 57 (omega arith))

  letter_not : 10 ≤ n → is_decimal (n + 55) ≡ false
  letter_not k = rw (le-leb 48 (n + 55) (omega arith), lt-leb (n + 55) 57 (omega arith))

  letter_is : 10 ≤ n → is_letter (n + 55) ≡ true
  letter_is k = and_both _ _ (le-leb 65 (n + 55) (omega arith)) (le-leb (n + 55) 70 (omega arith))

  pub value_digit : value_of (digit_of n) ≡ n
  value_digit =
      by_test (λ b. ltb n 10 ≡ b → value_of (digit_of n) ≡ n) (ltb n 10)
      (λ t e.
      let k : n < 10 = ltb-true n 10 e in
      ap value_of (digit_decimal n k) ∙ value_decimal (n + 48) (decimal_is k) ∙ omega arith)
      (λ t e.
      let k : 10 ≤ n = ltb-false n 10 e in
      ap value_of (digit_letter n k) ∙ value_letter (n + 55) (letter_not k) (letter_is k) ∙ omega arith)
      refl

  pub digit_is : is_digit (digit_of n) ≡ true
  digit_is =
      by_test (λ b. ltb n 10 ≡ b → is_digit (digit_of n) ≡ true) (ltb n 10)
      (λ t e.
      let k : n < 10 = ltb-true n 10 e in
      ap (λ (c : ℕ). is_digit c) (digit_decimal n k) ∙ or_first (is_decimal (n + 48)) (is_letter (n + 48)) (decimal_is k))
      (λ t e.
      let k : 10 ≤ n = ltb-false n 10 e in
      ap (λ (c : ℕ). is_digit c) (digit_letter n k) ∙ or_second (is_decimal (n + 55)) (is_letter (n + 55)) (letter_is k))
      refl

-- ---- a byte, and bytes one after the other

pub byte_back : (b : ℕ) → b < 2 ^ 8 → value_of (digit_of (b / 16)) * 16 + value_of (digit_of (b % 16)) ≡ b
byte_back b h =
    let k : b / 16 < 16 = omega arith in
    let l : b % 16 < 16 = omega arith in
    rw (value_digit (b / 16) k, value_digit (b % 16) l) (div-add-mod' b 16)

pub bytes_back : (bs : List ℕ) → all_of is_byte bs ≡ true → bytes_of (concat_map byte_digits bs) ≡ bs
unfolding bytes_of concat_map byte_digits all_of
bytes_back [] h = refl
bytes_back (b ∷ bs) h = rw (byte_back b (ltb-true b (2 ^ 8) (and_left _ _ h)), bytes_back bs (and_right (is_byte b) _ h))

-- what is written is digits, of any number
pub digits_are : (bs : List ℕ) → all_of is_byte bs ≡ true → all_of is_digit (concat_map byte_digits bs) ≡ true
unfolding concat_map byte_digits all_of
digits_are [] h = refl
digits_are (b ∷ bs) h =
    let small : b < 2 ^ 8 = ltb-true b (2 ^ 8) (and_left _ _ h) in
    let k : b / 16 < 16 = omega arith in
    let l : b % 16 < 16 = omega arith in
    and_both _ _ (digit_is (b / 16) k) (and_both _ _ (digit_is (b % 16) l) (digits_are bs (and_right (is_byte b) _ h)))

pub concat_append : (f : ℕ → List ℕ) (xs ys : List ℕ) → concat_map f (xs ++ ys) ≡ concat_map f xs ++ concat_map f ys
unfolding concat_map
concat_append f [] ys = refl
concat_append f (x ∷ xs) ys = ap (λ (l : List ℕ). f x ++ l) (concat_append f xs ys) ∙ sym (append_assoc (f x) (concat_map f xs) (concat_map f ys))

-- the digits of words are those of their bytes
pub words_by_bytes : (ws : List ℕ) → concat_map word_digits ws ≡ concat_map byte_digits (concat_map word_bytes ws)
unfolding concat_map word_digits
words_by_bytes [] = refl
words_by_bytes (w ∷ ws) =
    ap (λ (l : List ℕ). word_digits w ++ l) (words_by_bytes ws) ∙ sym (concat_append byte_digits (word_bytes w) (concat_map word_bytes ws))

-- ---- a word, and words one after the other

byte_off : (w n : ℕ) → w / n ≡ w / (n * 256) * 256 + w / n % 256
byte_off w n = sym (rw (← div-div-eq-div-mul w n 256) (div-add-mod' (w / n) 256))

word_plain : (w q1 q2 q3 q4 r0 r1 r2 r3 r4 : ℕ) → w ≡ q1 * 256 + r0 → q1 ≡ q2 * 256 + r1 → q2 ≡ q3 * 256 + r2 → q3 ≡ q4 * 256 + r3 → r4 ≡ q4
    → word_of r4 r3 r2 r1 r0 ≡ w
word_plain w q1 q2 q3 q4 r0 r1 r2 r3 r4 a b c d e = omega arith

pub word_back : (w : ℕ) → w < 2 ^ 40 → word_of (w / 2 ^ 32 % 256) (w / 2 ^ 24 % 256) (w / 2 ^ 16 % 256) (w / 2 ^ 8 % 256) (w % 256) ≡ w
word_back w h =
    word_plain w (w / 2 ^ 8) (w / 2 ^ 16) (w / 2 ^ 24) (w / 2 ^ 32) _ _ _ _ _ (sym (div-add-mod' w 256))
    (byte_off w (2 ^ 8)) (byte_off w (2 ^ 16)) (byte_off w (2 ^ 24)) (let k : w / 2 ^ 32 < 256 = omega arith in mod-eq_of_lt k)

pub words_back : (ws : List ℕ) → all_of is_five ws ≡ true → words_of (concat_map word_bytes ws) ≡ ws
unfolding words_of concat_map word_bytes all_of
words_back [] h = refl
words_back (w ∷ ws) h = rw (word_back w (ltb-true w (2 ^ 40) (and_left _ _ h)), words_back ws (and_right (is_five w) _ h))

-- a word's bytes are bytes
low_byte : (n : ℕ) → is_byte (n % 256) ≡ true
low_byte n = lt-ltb (n % 256) (2 ^ 8) (omega arith)

pub word_bytes_are : (ws : List ℕ) → all_of is_byte (concat_map word_bytes ws) ≡ true
unfolding concat_map word_bytes all_of
word_bytes_are [] = refl
word_bytes_are (w ∷ ws) =
    rw (low_byte (w / 2 ^ 32), low_byte (w / 2 ^ 24), low_byte (w / 2 ^ 16), low_byte (w / 2 ^ 8), low_byte w) (word_bytes_are ws)

-- ---- what is written into a lent area reads back from its part there

module _ (at : ℕ) (xs : List ℕ) where
  part_there : (n : ℕ) (ys : List ℕ) → length ys ≡ n → at + n ≤ length xs → part_of at n (pasted_in at ys xs) ≡ ys
  part_there n ys long room =
      let h : at + length ys ≤ length xs = omega arith in
      ap (λ (k : ℕ). part_of at k (pasted_in at ys xs)) (sym long)
      ∙ ap (λ (l : List ℕ). part_of at (length ys) l) (paste_fitting at ys xs h) ∙ paste_part at ys xs h

  pub byte_reads_back : (b : ℕ) → b < 2 ^ 8 → at + 2 ≤ length xs → byte_at (bytes_of (part_of at 2 (pasted_in at (byte_digits b) xs))) 0 ≡ b
  unfolding bytes_of byte_digits
  byte_reads_back b h room = rw (part_there 2 (byte_digits b) (length_byte b) room) (byte_back b h)

  pub size_reads_back : (n : ℕ) → n < 2 ^ 16 → at + 4 ≤ length xs → size_at (bytes_of (part_of at 4 (pasted_in at (size_digits n) xs))) 0 ≡ n
  unfolding bytes_of size_digits size_bytes concat_map byte_digits
  size_reads_back n h room =
      let high : n / 2 ^ 8 % 256 < 2 ^ 8 = omega arith in
      let low : n % 256 < 2 ^ 8 = omega arith in
      rw (part_there 4 (size_digits n) (length_size n) room, byte_back (n / 2 ^ 8 % 256) high, byte_back (n % 256) low) (omega arith)

  pub word_reads_back : (w : ℕ) → w < 2 ^ 40 → at + 10 ≤ length xs → word_at (bytes_of (part_of at 10 (pasted_in at (word_digits w) xs))) 0 ≡ w
  unfolding word_digits word_bytes all_of
  word_reads_back w h room =
      let same : bytes_of (part_of at 10 (pasted_in at (word_digits w) xs)) ≡ word_bytes w =
      ap bytes_of (part_there 10 (word_digits w) (length_word w) room) ∙ bytes_back (word_bytes w)
      (rw (low_byte (w / 2 ^ 32), low_byte (w / 2 ^ 24), low_byte (w / 2 ^ 16), low_byte (w / 2 ^ 8), low_byte w)) in
      ap (λ (l : List ℕ). word_at l 0) same ∙ word_back w h

  -- all words, one after the other
  pub words_read_back : (ws : List ℕ) → all_of is_five ws ≡ true → at + 10 * length ws ≤ length xs
      → words_of (bytes_of (part_of at (10 * length ws) (pasted_in at (concat_map word_digits ws) xs))) ≡ ws
  words_read_back ws h room =
      ap (λ (l : List ℕ). words_of (bytes_of l))
      (part_there (10 * length ws) (concat_map word_digits ws) (length_concat word_digits 10 length_word ws) room ∙ words_by_bytes ws)
      ∙ ap words_of (bytes_back (concat_map word_bytes ws) (word_bytes_are ws)) ∙ words_back ws h
