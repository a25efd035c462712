-- There and back: a length and its bytes, a word and its characters, bytes that hold words and the words that are read from them.
-- Assumes nothing.
use mathlib.Core.Path.{◌≡◌, refl, sym, ap, ap₂, ◌∙◌, subst}
use mathlib.Core.Bool.{Bool, true}
use mathlib.Core.List.{List, [], ◌∷◌, ◌++◌}
use Prim.Native.Nat.{ℕ, zero, suc, ◌+◌, ◌*◌, ◌/◌, ◌%◌, ◌^◌, ◌≤◌, ◌<◌}
use native.Mathlib.Nat.{div-add-mod', div-div-eq-div-mul, mod-eq_of_lt}
use native.Mathlib.Omega.{arith}
use borrow.Author.Tests.{ltb-true}
use lib.ListN.{length, get_or, take, drop}
use lib.Seq.{get_or-drop}
use Rattle.area.specs.Lists.{all_of}
use Rattle.area.specs.Parts.{is_word}
use Rattle.area.proofs.Walks.{and_left, and_right}
use Rattle.tape.specs.Lengths.{length_of, length_at, length_bytes}
use Rattle.tape.specs.Characters.{character, word_of, word_at, words_from, with_parity, word_bytes, data_bytes}
use Rattle.tape.specs.Images.{Holds, none, six}

-- ---- lengths

-- the four bytes of a length, read
byte_off : (w n : ℕ) → w / n ≡ w / (n * 256) * 256 + w / n % 256
byte_off w n = sym (rw (← div-div-eq-div-mul w n 256) (div-add-mod' (w / n) 256))

length_plain : (n q1 q2 q3 r0 r1 r2 r3 : ℕ) → n ≡ q1 * 256 + r0 → q1 ≡ q2 * 256 + r1 → q2 ≡ q3 * 256 + r2 → r3 ≡ q3 → length_of r0 r1 r2 r3 ≡ n
length_plain n q1 q2 q3 r0 r1 r2 r3 a b c d = omega arith

pub length_back : (n : ℕ) → n < 2 ^ 32 → length_of (n % 256) (n / 2 ^ 8 % 256) (n / 2 ^ 16 % 256) (n / 2 ^ 24 % 256) ≡ n
length_back n h =
    length_plain n (n / 2 ^ 8) (n / 2 ^ 16) (n / 2 ^ 24) _ _ _ _ (sym (div-add-mod' n 256))
    (byte_off n (2 ^ 8)) (byte_off n (2 ^ 16)) (let k : n / 2 ^ 24 < 256 = omega arith in mod-eq_of_lt k)

-- four bytes, written again
pub bytes_back : (a b c d : ℕ) → a < 2 ^ 8 → b < 2 ^ 8 → c < 2 ^ 8 → d < 2 ^ 8 → length_bytes (length_of a b c d) ≡ a ∷ b ∷ c ∷ d ∷ []
unfolding length_bytes
bytes_back a b c d p q r s =
    let n = length_of a b c d in
    let q1 : n / 2 ^ 8 ≡ b + 256 * (c + 256 * d) = omega arith in
    let q2 : n / 2 ^ 16 ≡ c + 256 * d = omega arith in
    let q3 : n / 2 ^ 24 ≡ d = omega arith in
    let e1 : n % 256 ≡ a = omega arith in
    let e2 : n / 2 ^ 8 % 256 ≡ b = ap (λ (x : ℕ). x % 256) q1 ∙ omega arith in
    let e3 : n / 2 ^ 16 % 256 ≡ c = ap (λ (x : ℕ). x % 256) q2 ∙ omega arith in
    let e4 : n / 2 ^ 24 % 256 ≡ d = ap (λ (x : ℕ). x % 256) q3 ∙ omega arith in
    rw (e1, e2, e3, e4)

pub length_first : (n : ℕ) (bs : List ℕ) → n < 2 ^ 32 → length_at (length_bytes n ++ bs) 0 ≡ n
unfolding length_bytes
length_first n bs h = length_back n h

-- ---- words

byte_from : (bs : List ℕ) (k i j : ℕ) → k + i ≡ j → get_or (drop k bs) i 0 ≡ get_or bs j 0
byte_from bs k i j e = get_or-drop k bs i 0 ∙ ap (λ (m : ℕ). get_or bs m 0) e

pub words_from_lem : (bs : List ℕ) (k i j n : ℕ) → k + i ≡ j → words_from (drop k bs) i n ≡ words_from bs j n
unfolding words_from
words_from_lem bs k i j zero h = refl
words_from_lem bs k i j (suc n) h =
    let e : word_at (drop k bs) i ≡ word_at bs j =
    rw (
      byte_from bs k i j h,
      byte_from bs k (i + 1) (j + 1) (omega arith),
      byte_from bs k (i + 2) (j + 2) (omega arith),
      byte_from bs k (i + 3) (j + 3) (omega arith),
      byte_from bs k (i + 4) (j + 4) (omega arith),
      byte_from bs k (i + 5) (j + 5) (omega arith),
    ) in
    ap₂ (λ (x : ℕ) (xs : List ℕ). x ∷ xs) e (words_from_lem bs k (i + 6) (j + 6) n (omega arith))

-- a word is what its characters make
char_off : (w n : ℕ) → w / n ≡ w / (n * 64) * 64 + w / n % 64
char_off w n = sym (rw (← div-div-eq-div-mul w n 64) (div-add-mod' (w / n) 64))

word_plain : (w q1 q2 q3 q4 q5 r0 r1 r2 r3 r4 r5 : ℕ) → w ≡ q1 * 64 + r0 → q1 ≡ q2 * 64 + r1 → q2 ≡ q3 * 64 + r2 → q3 ≡ q4 * 64 + r3 → q4 ≡ q5 * 64 + r4 → r5 ≡ q5
    → word_of r5 r4 r3 r2 r1 r0 ≡ w
word_plain w q1 q2 q3 q4 q5 r0 r1 r2 r3 r4 r5 a b c d e f = omega arith

word_back : (w : ℕ) → w < 2 ^ 36 → word_of (w / 2 ^ 30 % 64) (w / 2 ^ 24 % 64) (w / 2 ^ 18 % 64) (w / 2 ^ 12 % 64) (w / 2 ^ 6 % 64) (w % 64) ≡ w
word_back w h =
    word_plain w (w / 2 ^ 6) (w / 2 ^ 12) (w / 2 ^ 18) (w / 2 ^ 24) (w / 2 ^ 30) _ _ _ _ _ _ (sym (div-add-mod' w 64))
    (char_off w (2 ^ 6)) (char_off w (2 ^ 12)) (char_off w (2 ^ 18)) (char_off w (2 ^ 24)) (let k : w / 2 ^ 30 < 64 = omega arith in mod-eq_of_lt k)

-- six characters are those of their word
record Characters (a b c d e f : ℕ) : Type 0 where
  below : word_of a b c d e f < 2 ^ 36
  first : a ≡ word_of a b c d e f / 2 ^ 30 % 64
  second : b ≡ word_of a b c d e f / 2 ^ 24 % 64
  third : c ≡ word_of a b c d e f / 2 ^ 18 % 64
  fourth : d ≡ word_of a b c d e f / 2 ^ 12 % 64
  fifth : e ≡ word_of a b c d e f / 2 ^ 6 % 64
  last : f ≡ word_of a b c d e f % 64

characters : (a b c d e f : ℕ) → a < 64 → b < 64 → c < 64 → d < 64 → e < 64 → f < 64 → Characters a b c d e f
characters a b c d e f p q r s t u =
    record {
      below = omega arith;
      first = omega arith;
      second = omega arith;
      third = omega arith;
      fourth = omega arith;
      fifth = omega arith;
      last = omega arith;
    }

-- ---- bytes that hold words

pub holds_length : {bs ws : List ℕ} → Holds bs ws → length bs ≡ 6 * length ws
holds_length none = refl
holds_length (six a b c d e f w h p q r s t u rest) = let k = holds_length rest in omega arith

-- read, they are the words
pub holds_read : {bs ws : List ℕ} (more : List ℕ) → Holds bs ws → words_from (bs ++ more) 0 (length ws) ≡ ws
unfolding words_from
holds_read more none = refl
holds_read more (six {bs} {ws} a b c d e f w h p q r s t u rest) =
    let first : word_of (character a) (character b) (character c) (character d) (character e) (character f) ≡ w = rw (p, q, r, s, t, u) (word_back w h) in
    ap₂ (λ (x : ℕ) (xs : List ℕ). x ∷ xs) first
    (sym (words_from_lem (a ∷ b ∷ c ∷ d ∷ e ∷ f ∷ (bs ++ more)) 6 0 6 (length ws) refl) ∙ holds_read more rest)

-- and any bytes hold the words that are read
pub read_holds : (n : ℕ) (bs : List ℕ) → 6 * n ≤ length bs → Holds (take (6 * n) bs) (words_from bs 0 n)
unfolding words_from
read_holds zero bs h = none
read_holds (suc n) [] h = absurd (omega arith)
read_holds (suc n) (a ∷ []) h = absurd (omega arith)
read_holds (suc n) (a ∷ b ∷ []) h = absurd (omega arith)
read_holds (suc n) (a ∷ b ∷ c ∷ []) h = absurd (omega arith)
read_holds (suc n) (a ∷ b ∷ c ∷ d ∷ []) h = absurd (omega arith)
read_holds (suc n) (a ∷ b ∷ c ∷ d ∷ e ∷ []) h = absurd (omega arith)
read_holds (suc n) (a ∷ b ∷ c ∷ d ∷ e ∷ f ∷ bs) h =
    let k : 6 * suc n ≡ suc (suc (suc (suc (suc (suc (6 * n)))))) = omega arith in
    let x = characters (a % 64) (b % 64) (c % 64) (d % 64) (e % 64) (f % 64) (omega arith) (omega arith) (omega arith) (omega arith) (omega arith) (omega arith) in
    let more : Holds (take (6 * n) bs) (words_from bs 0 n) = read_holds n bs (omega arith) in
    subst (λ (l : List ℕ). Holds l (words_from (a ∷ b ∷ c ∷ d ∷ e ∷ f ∷ bs) 0 (suc n))) (ap (λ (m : ℕ). take m (a ∷ b ∷ c ∷ d ∷ e ∷ f ∷ bs)) (sym k))
    (six a b c d e f _ x.below x.first x.second x.third x.fourth x.fifth x.last
    (subst (λ (ws : List ℕ). Holds (take (6 * n) bs) ws) (words_from_lem (a ∷ b ∷ c ∷ d ∷ e ∷ f ∷ bs) 6 0 6 n refl) more))

-- what is written holds its words: parity is ignored
parity_off : (bcd : Bool) (n : ℕ) → character (with_parity bcd (n % 64)) ≡ n % 64
parity_off bcd n = omega arith

pub data_holds : (bcd : Bool) (ws : List ℕ) → all_of is_word ws ≡ true → Holds (data_bytes bcd ws) ws
unfolding all_of data_bytes word_bytes
data_holds bcd [] h = none
data_holds bcd (w ∷ ws) h =
    six _ _ _ _ _ _ w (ltb-true w (2 ^ 36) (and_left _ _ h)) (parity_off bcd (w / 2 ^ 30)) (parity_off bcd (w / 2 ^ 24)) (parity_off bcd (w / 2 ^ 18))
    (parity_off bcd (w / 2 ^ 12)) (parity_off bcd (w / 2 ^ 6)) (parity_off bcd w) (data_holds bcd ws (and_right (is_word w) _ h))
