-- The words of a line, brought one after the other into a room. Assumes nothing.
use mathlib.Core.Path.{◌≡◌, refl, sym, ap, ◌∙◌}
use mathlib.Core.List.{List, [], ◌∷◌}
use Prim.Native.Nat.{ℕ, suc, ◌+◌, ◌-◌, ◌/◌, ◌≤◌, ◌<◌}
use native.Mathlib.Omega.{arith}
use lib.ListN.{length, take, drop, set, length-drop}
use lib.Seq.{take-nil}
use Rattle.area.specs.Parts.{paste}
use Rattle.area.proofs.Pastes.{paste_nothing}
use Rattle.area.proofs.Joins.{set_paste, paste_paste}
use Rattle.session_frame.specs.Digits.{bytes_of}
use Rattle.session_frame.specs.Fields.{word_at, words_of}
use Rattle.session_frame.proofs.Laws.Bytes.{length_bytes_lem, words_step, length_words}
use Rattle.session_frame.specs.Frames.{words_from}

empty : (ws : List ℕ) → length ws ≡ 0 → ws ≡ []
empty [] e = refl
empty (w ∷ ws) e = absurd (omega arith)

-- the words that are left, for a room of `len` words of which i are filled
module _ (line room xs : List ℕ) (at i len n : ℕ) where
  -- they fill the rest of the room, and their count with i is the answer
  pub Fills : Type 0
  Fills = (i + length (words_from line at (len - i)) ≡ n) × (paste i (words_from line at (len - i)) room ≡ xs)

  unfilled : words_from line at (len - i) ≡ [] → Fills → (i ≡ n) × (room ≡ xs)
  unfolding Fills
  unfilled e f =
      let none : length (words_from line at (len - i)) ≡ 0 = ap length e in
      (omega (arith, f.0), sym (paste_nothing i room) ∙ ap (λ (l : List ℕ). paste i l room) (sym e) ∙ f.1)

  -- no word is left in the line
  pub filled_line : length line / 2 < at + 5 → Fills → (i ≡ n) × (room ≡ xs)
  unfolding words_from
  filled_line h =
      let none : length (words_of (drop at (bytes_of line))) ≡ 0 =
      omega (arith, length_words (drop at (bytes_of line)), length-drop at (bytes_of line), length_bytes_lem line) in
      unfilled (ap (take (len - i)) (empty (words_of (drop at (bytes_of line))) none) ∙ take-nil (len - i))

  -- no room is left
  pub filled_room : len ≤ i → Fills → (i ≡ n) × (room ≡ xs)
  unfolding words_from
  filled_room h =
      let z : len - i ≡ 0 = omega arith in
      unfilled (ap (λ (k : ℕ). take k (words_of (drop at (bytes_of line)))) z)

module _ (line room xs : List ℕ) (at i len n : ℕ) (long : length room ≡ len) (below : i < len) (left : at + 5 ≤ length line / 2) where
  next_word : words_from line at (len - i) ≡ word_at (bytes_of line) at ∷ words_from line (at + 5) (len - (i + 1))
  unfolding words_from
  next_word =
      let e : len - i ≡ suc (len - (i + 1)) = omega arith in
      let h : at + 5 ≤ length (bytes_of line) = omega (arith, length_bytes_lem line) in
      rw (e, words_step (bytes_of line) at h)

  -- one word more
  pub fills_one : Fills line room xs at i len n → Fills line (set room i (word_at (bytes_of line) at)) xs (at + 5) (i + 1) len n
  unfolding Fills
  fills_one f =
      let w = word_at (bytes_of line) at in
      let rest = words_from line (at + 5) (len - (i + 1)) in
      let count : length (words_from line at (len - i)) ≡ suc (length rest) = ap length next_word in
      let inside : i < length room = omega arith in (
        omega (arith, f.0),
        ap (paste (i + 1) rest) (set_paste i w room inside) ∙ paste_paste i 1 (w ∷ []) rest room refl (omega arith)
            ∙ ap (λ (l : List ℕ). paste i l room) (sym next_word) ∙ f.1,
      )

pub fills_none : (line room : List ℕ) (start len : ℕ) → Fills line room (paste 0 (words_from line start len) room) start 0 len (length (words_from line start len))
unfolding Fills
fills_none line room start len =
    let e : len - 0 ≡ len = omega arith in
    (ap (λ (k : ℕ). 0 + length (words_from line start k)) e ∙ omega arith, ap (λ (k : ℕ). paste 0 (words_from line start k) room) e)
