-- Laws of digits written into a lent area. Assumes nothing.
use mathlib.Core.Path.{◌≡◌, refl, sym, ap, ap₂, ◌∙◌}
use mathlib.Core.Bool.{Bool, true, false}
use mathlib.Core.List.{List, [], ◌∷◌, ◌++◌}
use Prim.Native.Nat.{ℕ, suc, ◌+◌, ◌-◌, ◌*◌, ◌/◌, ◌%◌, ◌^◌, ◌≤◌, ◌<◌}
use native.Mathlib.Numerals.{add-one, unary_clauses}
use native.Mathlib.Omega.{arith}
use borrow.Author.Tests.{leb-true, le-leb}
use lib.Dec.{leb}
use lib.ListN.{length, get_or, drop, length-append, drop_of_length-le}
use lib.Seq.{drop-cons}
use Rattle.area.specs.Parts.{paste, paste_fits, pasted_in}
use Rattle.area.proofs.Pastes.{paste_nothing, length_paste}
use Rattle.area.proofs.Joins.{paste_paste}
use Rattle.area.proofs.Walks.{by_test, true_not_false}
use Rattle.session_frame.specs.Digits.{byte_digits, concat_map}
use Rattle.session_frame.specs.Fields.{size_bytes, word_bytes, size_digits, word_digits}
use Rattle.session_frame.specs.Writes.{place_after}

-- ---- how many characters

pub length_byte : (b : ℕ) → length (byte_digits b) ≡ 2
unfolding byte_digits
length_byte b = refl

pub length_size : (n : ℕ) → length (size_digits n) ≡ 4
unfolding size_digits size_bytes byte_digits concat_map
length_size n = refl

pub length_word : (w : ℕ) → length (word_digits w) ≡ 10
unfolding word_digits word_bytes byte_digits concat_map
length_word w = refl

pub length_concat : (f : ℕ → List ℕ) (k : ℕ) → ((x : ℕ) → length (f x) ≡ k) → (xs : List ℕ) → length (concat_map f xs) ≡ k * length xs
unfolding concat_map
length_concat f k h [] = omega arith
length_concat f k h (x ∷ xs) =
    let more : k * suc (length xs) ≡ k + k * length xs = simp unary_clauses (omega arith) in
    length-append (f x) (concat_map f xs) ∙ ap₂ (λ (a b : ℕ). a + b) (h x) (length_concat f k h xs) ∙ sym more

-- ---- whether they fit

leb_same : (a b c d : ℕ) → (a ≤ b → c ≤ d) → (c ≤ d → a ≤ b) → leb a b ≡ leb c d
leb_same a b c d f g =
    by_test (λ t. leb a b ≡ t → t ≡ leb c d) (leb a b) (λ t e. sym (le-leb c d (f (leb-true a b e))))
    (λ t e. by_test (λ u. leb c d ≡ u → false ≡ u) (leb c d) (λ u k. true_not_false (le-leb a b (g (leb-true c d k))) e) (λ u k. refl) refl) refl

pub room_left : (len at n : ℕ) → at ≤ len → leb n (len - at) ≡ leb (at + n) len
room_left len at n h = leb_same n (len - at) (at + n) len (λ k. omega arith) (λ k. omega arith)

pub words_left_lem : (len at n : ℕ) → at ≤ len → leb n ((len - at) / 10) ≡ leb (at + 10 * n) len
words_left_lem len at n h = leb_same n ((len - at) / 10) (at + 10 * n) len (λ k. omega arith) (λ k. omega arith)

-- ---- what fits is written, and the place is the one after it; what does not fit leaves both

module _ (at n : ℕ) (ys xs : List ℕ) (long : length ys ≡ n) (t : Bool) (test : t ≡ leb (at + n) (length xs)) where
  fitting : paste_fits at ys xs ≡ t
  fitting = ap (λ (k : ℕ). leb (at + k) (length xs)) long ∙ sym test

  pub written : t ≡ true → (out : List ℕ) → out ≡ paste at ys xs → (at + n ≡ place_after at ys xs) × (out ≡ pasted_in at ys xs)
  unfolding place_after pasted_in
  written e out w = (rw (fitting, e, long), w ∙ rw (fitting, e))

  pub unwritten : t ≡ false → (at ≡ place_after at ys xs) × (xs ≡ pasted_in at ys xs)
  unfolding place_after pasted_in
  unwritten e = (rw (fitting, e), rw (fitting, e))

-- ---- the bytes of a number, one after the other

-- one piece more after those that are written
pub paste_more : (at n : ℕ) (ys zs xs out new : List ℕ) → length ys ≡ n → at + n ≤ length xs → out ≡ paste at ys xs → new ≡ paste (at + n) zs out
    → new ≡ paste at (ys ++ zs) xs
paste_more at n ys zs xs out new long room o w = w ∙ ap (paste (at + n) zs) o ∙ paste_paste at n ys zs xs long room

module _ (at : ℕ) (xs : List ℕ) (w : ℕ) where
  pub word_written : (o p q r s : List ℕ) → at + 10 ≤ length xs → o ≡ paste at (byte_digits (w / 2 ^ 32 % 256)) xs
      → p ≡ paste (at + 2) (byte_digits (w / 2 ^ 24 % 256)) o → q ≡ paste (at + 4) (byte_digits (w / 2 ^ 16 % 256)) p
      → r ≡ paste (at + 6) (byte_digits (w / 2 ^ 8 % 256)) q → s ≡ paste (at + 8) (byte_digits (w % 256)) r → s ≡ paste at (word_digits w) xs
  unfolding word_digits word_bytes byte_digits concat_map
  word_written o p q r s room e f g h i =
      let a = byte_digits (w / 2 ^ 32 % 256) in
      let b = byte_digits (w / 2 ^ 24 % 256) in
      let c = byte_digits (w / 2 ^ 16 % 256) in
      let d = byte_digits (w / 2 ^ 8 % 256) in
      let two = paste_more at 2 a b xs o p refl (omega arith) e f in
      let three = paste_more at 4 (a ++ b) c xs p q refl (omega arith) two g in
      let four = paste_more at 6 ((a ++ b) ++ c) d xs q r refl (omega arith) three h in
      paste_more at 8 (((a ++ b) ++ c) ++ d) (byte_digits (w % 256)) xs r s refl (omega arith) four i

-- ---- the loop that writes what f makes of each element, k characters each

module _ (f : ℕ → List ℕ) (k : ℕ) (long : (x : ℕ) → length (f x) ≡ k) (xs ws out : List ℕ) (to i : ℕ) where
  concat_step : i < length ws → concat_map f (drop i ws) ≡ f (get_or ws i 0) ++ concat_map f (drop (i + 1) ws)
  unfolding concat_map
  concat_step h = rw (add-one, drop-cons ws i 0)

  pub write_one : (at : ℕ) → i < length ws → to + k ≤ length out → paste to (concat_map f (drop i ws)) out ≡ paste at (concat_map f ws) xs
      → (new : List ℕ) → new ≡ paste to (f (get_or ws i 0)) out → paste (to + k) (concat_map f (drop (i + 1) ws)) new ≡ paste at (concat_map f ws) xs
  write_one at h r inv new e =
      rw e (paste_paste to k (f (get_or ws i 0)) (concat_map f (drop (i + 1) ws)) out (long (get_or ws i 0)) r)
      ∙ ap (λ (l : List ℕ). paste to l out) (sym (concat_step h)) ∙ inv

  pub write_length : to + k ≤ length out → (new : List ℕ) → new ≡ paste to (f (get_or ws i 0)) out → length new ≡ length out
  write_length r new e =
      let g : to + length (f (get_or ws i 0)) ≤ length out = rw (long (get_or ws i 0)) r in
      rw e (length_paste to (f (get_or ws i 0)) out g)

  pub write_all : (at : ℕ) → length ws ≤ i → paste to (concat_map f (drop i ws)) out ≡ paste at (concat_map f ws) xs → out ≡ paste at (concat_map f ws) xs
  unfolding concat_map
  write_all at h inv =
      let e : drop i ws ≡ [] = drop_of_length-le ws h in
      sym (paste_nothing to out) ∙ ap (λ (l : List ℕ). paste to (concat_map f l) out) (sym e) ∙ inv
