-- Laws of the bytes and words of a line. Assumes nothing.
use mathlib.Core.Path.{◌≡◌, refl}
use mathlib.Core.List.{List, [], ◌∷◌}
use Prim.Native.Nat.{ℕ, zero, suc, ◌+◌, ◌*◌, ◌/◌, ◌≤◌, ◌<◌}
use native.Mathlib.Omega.{arith}
use borrow.Author.Tests.{leb-true, leb-false}
use lib.Dec.{leb}
use lib.ListN.{length, get_or, drop, get_or-eq_default}
use lib.Seq.{drop-cons}
use Rattle.area.proofs.Walks.{by_test}
use Rattle.session_frame.specs.Digits.{value_of, bytes_of}
use Rattle.session_frame.specs.Fields.{byte_at, size_at, word_at, words_of}
use Rattle.session_frame.proofs.Laws.Values.{value_small}

-- half as many bytes as characters
pub length_bytes_lem : (line : List ℕ) → length (bytes_of line) ≡ length line / 2
unfolding bytes_of
length_bytes_lem [] = refl
length_bytes_lem (x ∷ []) = refl
length_bytes_lem (x ∷ y ∷ rest) =
    let e : length (bytes_of rest) ≡ length rest / 2 = length_bytes_lem rest in
    omega arith

-- byte k by its two digits
pub byte_digits_lem : (line : List ℕ) (k : ℕ) → k < length line / 2
    → byte_at (bytes_of line) k ≡ value_of (get_or line (2 * k) 0) * 16 + value_of (get_or line (2 * k + 1) 0)
unfolding bytes_of
byte_digits_lem [] k h = absurd (omega arith)
byte_digits_lem (x ∷ []) k h = let z : k < 1 / 2 = h in absurd (omega arith)
byte_digits_lem (x ∷ y ∷ rest) zero h = refl
byte_digits_lem (x ∷ y ∷ rest) (suc k) h =
    let e : 2 * suc k ≡ suc (suc (2 * k)) = omega arith in
    let f : 2 * suc k + 1 ≡ suc (suc (2 * k + 1)) = omega arith in
    let g : k < length rest / 2 = omega arith in
    rw (f, e) (byte_digits_lem rest k g)

-- past the last byte
pub byte_past : (line : List ℕ) (k : ℕ) → length line / 2 ≤ k → byte_at (bytes_of line) k ≡ 0
byte_past line k h =
    let g : length (bytes_of line) ≤ k = omega (arith, length_bytes_lem line) in
    get_or-eq_default (bytes_of line) 0 g

-- a byte is below 2^8, and a size below 2^16
pub byte_small : (line : List ℕ) (k : ℕ) → byte_at (bytes_of line) k < 256
byte_small line k =
    by_test (λ t. leb (length line / 2) k ≡ t → byte_at (bytes_of line) k < 256) (leb (length line / 2) k)
    (λ t e. omega (arith, byte_past line k (leb-true (length line / 2) k e)))
    (λ t e.
    omega (arith, byte_digits_lem line k (leb-false (length line / 2) k e), value_small (get_or line (2 * k) 0), value_small (get_or line (2 * k + 1) 0)))
    refl

pub size_small : (line : List ℕ) (k : ℕ) → size_at (bytes_of line) k < 65536
size_small line k = omega (arith, byte_small line k, byte_small line (k + 1))

pub size_past : (line : List ℕ) (k : ℕ) → length line / 2 ≤ k → size_at (bytes_of line) k ≡ 0
size_past line k h =
    let z : byte_at (bytes_of line) k ≡ 0 = byte_past line k h in
    let o : byte_at (bytes_of line) (k + 1) ≡ 0 = byte_past line (k + 1) (omega arith) in
    omega arith

pub word_past : (line : List ℕ) (k : ℕ) → length line / 2 ≤ k → word_at (bytes_of line) k ≡ 0
word_past line k h =
    let z : byte_at (bytes_of line) k ≡ 0 = byte_past line k h in
    let a : byte_at (bytes_of line) (k + 1) ≡ 0 = byte_past line (k + 1) (omega arith) in
    let b : byte_at (bytes_of line) (k + 2) ≡ 0 = byte_past line (k + 2) (omega arith) in
    let c : byte_at (bytes_of line) (k + 3) ≡ 0 = byte_past line (k + 3) (omega arith) in
    let d : byte_at (bytes_of line) (k + 4) ≡ 0 = byte_past line (k + 4) (omega arith) in
    omega arith

-- the next word, and the words after it
pub words_step : (b : List ℕ) (at : ℕ) → at + 5 ≤ length b → words_of (drop at b) ≡ word_at b at ∷ words_of (drop (at + 5) b)
unfolding words_of
words_step b at h =
    let e1 : at + 1 ≡ suc at = omega arith in
    let e2 : at + 2 ≡ suc (suc at) = omega arith in
    let e3 : at + 3 ≡ suc (suc (suc at)) = omega arith in
    let e4 : at + 4 ≡ suc (suc (suc (suc at))) = omega arith in
    let e5 : at + 5 ≡ suc (suc (suc (suc (suc at)))) = omega arith in
    let h0 : at < length b = omega arith in
    let h1 : suc at < length b = omega arith in
    let h2 : suc (suc at) < length b = omega arith in
    let h3 : suc (suc (suc at)) < length b = omega arith in
    let h4 : suc (suc (suc (suc at))) < length b = omega arith in
    rw (
      e5,
      e4,
      e3,
      e2,
      e1,
      drop-cons b at 0 h0,
      drop-cons b (suc at) 0 h1,
      drop-cons b (suc (suc at)) 0 h2,
      drop-cons b (suc (suc (suc at))) 0 h3,
      drop-cons b (suc (suc (suc (suc at)))) 0 h4,
    )

-- a fifth as many words as bytes
pub length_words : (b : List ℕ) → length (words_of b) ≡ length b / 5
unfolding words_of
length_words [] = refl
length_words (p ∷ []) = refl
length_words (p ∷ q ∷ []) = refl
length_words (p ∷ q ∷ r ∷ []) = refl
length_words (p ∷ q ∷ r ∷ s ∷ []) = refl
length_words (p ∷ q ∷ r ∷ s ∷ t ∷ rest) =
    let e : length (words_of rest) ≡ length rest / 5 = length_words rest in
    omega arith
