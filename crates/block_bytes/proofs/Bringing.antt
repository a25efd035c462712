-- The words of a block, brought one after the other into a room. Assumes nothing.
use mathlib.Core.Path.{◌≡◌, refl, sym, ap, ◌∙◌}
use mathlib.Core.List.{List, [], ◌∷◌}
use Prim.Native.Nat.{ℕ, ◌+◌, ◌≤◌, ◌<◌}
use native.Mathlib.Omega.{arith}
use lib.ListN.{length, drop, set, length-drop}
use Rattle.area.specs.Parts.{paste}
use Rattle.area.proofs.Pastes.{paste_nothing}
use Rattle.area.proofs.Joins.{set_paste, paste_paste}
use Rattle.session_frame.specs.Fields.{word_at, words_of}
use Rattle.session_frame.proofs.Laws.Bytes.{words_step, length_words}

empty : (ws : List ℕ) → length ws ≡ 0 → ws ≡ []
empty [] e = refl
empty (w ∷ ws) e = absurd (omega arith)

module _ (bytes room xs : List ℕ) (at i : ℕ) where
  -- what is left goes behind the i words that were brought
  pub Brings : Type 0
  Brings = paste i (words_of (drop at bytes)) room ≡ xs

  -- no word is left
  pub brought_all : length bytes < at + 5 → Brings → room ≡ xs
  unfolding Brings
  brought_all h e =
      let none : length (words_of (drop at bytes)) ≡ 0 = omega (arith, length_words (drop at bytes), length-drop at bytes) in
      sym (paste_nothing i room) ∙ ap (λ (l : List ℕ). paste i l room) (sym (empty (words_of (drop at bytes)) none)) ∙ e

-- one word more
pub brought_one : (bytes room xs : List ℕ) (at i : ℕ) → at + 5 ≤ length bytes → i < length room → Brings bytes room xs at i
    → Brings bytes (set room i (word_at bytes at)) xs (at + 5) (i + 1)
unfolding Brings
brought_one bytes room xs at i left inside e =
    let w = word_at bytes at in
    let rest = words_of (drop (at + 5) bytes) in
    ap (paste (i + 1) rest) (set_paste i w room inside) ∙ paste_paste i 1 (w ∷ []) rest room refl (omega arith)
    ∙ ap (λ (l : List ℕ). paste i l room) (sym (words_step bytes at left)) ∙ e

pub brought_none : (bytes room : List ℕ) → Brings bytes room (paste 0 (words_of bytes) room) 0 0
unfolding Brings
brought_none bytes room = refl
