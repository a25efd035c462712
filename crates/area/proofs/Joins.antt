-- Laws of one `paste` right after another, and of one or two elements stored. Assumes nothing.
use mathlib.Core.Path.{◌≡◌, sym, ap, ◌∙◌}
use mathlib.Core.List.{List, [], ◌∷◌, ◌++◌, append_assoc}
use Prim.Native.Nat.{ℕ, ◌+◌, ◌≤◌, ◌<◌}
use native.Mathlib.Numerals.{add-one}
use native.Mathlib.Omega.{arith}
use lib.ListN.{length, take, drop, set, length-append}
use lib.Seq.{drop-drop, length-take-le, set_split, sets-eq, take_at}
use Rattle.area.specs.Parts.{paste}
use Rattle.area.proofs.Pastes.{paste_after}

module _ {A : Type 0} where
  -- one element stored is a paste of one
  pub set_paste : (at : ℕ) (x : A) (xs : List A) → at < length xs → set xs at x ≡ paste at (x ∷ []) xs
  unfolding paste
  set_paste at x xs h = rw add-one (set_split xs at x h)

  -- two elements stored, one after the other
  pub set_set_paste : (at : ℕ) (x y : A) (xs : List A) → at + 2 ≤ length xs → set (set xs at x) (at + 1) y ≡ paste at (x ∷ y ∷ []) xs
  unfolding paste
  set_set_paste at x y xs h = rw add-one (simp append_assoc at (sets-eq (x ∷ y ∷ []) xs at h))

  -- what lies before the end of what was pasted
  pub take_paste : (at n : ℕ) (ys xs : List A) → length ys ≡ n → at ≤ length xs → take (at + n) (paste at ys xs) ≡ take at xs ++ ys
  unfolding paste
  take_paste at n ys xs e h =
      let long : length (take at xs ++ ys) ≡ at + n = simp (length-append, length-take-le at xs h, e) in
      ap (take (at + n)) (sym (append_assoc (take at xs) ys (drop (at + length ys) xs)))
      ∙ take_at (take at xs ++ ys) (drop (at + length ys) xs) (at + n) long

  -- one paste right after another is the paste of both
  pub paste_paste : (at n : ℕ) (ys zs xs : List A) → length ys ≡ n → at + n ≤ length xs → paste (at + n) zs (paste at ys xs) ≡ paste at (ys ++ zs) xs
  unfolding paste
  paste_paste at n ys zs xs e h =
      let below : at ≤ length xs = omega arith in
      let front : take (at + n) (paste at ys xs) ≡ take at xs ++ ys = take_paste at n ys xs e below in
      let back : drop (at + n) (paste at ys xs) ≡ drop (at + n) xs =
      ap (λ (k : ℕ). drop (at + k) (paste at ys xs)) (sym e) ∙ paste_after at ys xs below ∙ ap (λ (k : ℕ). drop (at + k) xs) e in
      let rest : drop (at + n + length zs) (paste at ys xs) ≡ drop (at + n + length zs) xs =
      sym (drop-drop (length zs) (at + n) (paste at ys xs)) ∙ ap (drop (length zs)) back ∙ drop-drop (length zs) (at + n) xs in
      let sum : at + length (ys ++ zs) ≡ at + n + length zs = omega (arith, length-append ys zs) in
      rw (sum, front, rest) (simp append_assoc)
