-- Laws of parts and of `paste`. Assumes nothing.
use borrow.Author.Tests.{le-leb, lt-leb}
use mathlib.Core.Path.{◌≡◌, refl, sym, ap, ◌∙◌}
use mathlib.Core.List.{List, [], ◌++◌, append_assoc, append-nil}
use Prim.Native.Nat.{ℕ, ◌+◌, ◌-◌, ◌≤◌, ◌<◌}
use native.Mathlib.Omega.{arith}
use lib.ListN.{length, take, drop, length-append, length-take, length-drop, drop_of_length-le, take-append-drop}
use lib.Seq.{take_at, drop_at, take_all, take-length, take-nil, length-take-le}
use lib.Seq as Seq
use Rattle.area.specs.Parts.{part_of, paste, pasted_in}

module _ {A : Type 0} where
  -- ---- parts

  pub length_part : (at n : ℕ) (xs : List A) → at + n ≤ length xs → length (part_of at n xs) ≡ n
  length_part at n xs h = length-take-le n (drop at xs) (simp length-drop (omega arith))

  -- a part that begins past the end has nothing
  pub part_past : (at n : ℕ) (xs : List A) → length xs ≤ at → part_of at n xs ≡ []
  part_past at n xs h = ap (take n) (drop_of_length-le xs h) ∙ take-nil n

  -- a part that runs past the end is what there is
  pub part_all : (at n : ℕ) (xs : List A) → length xs - at ≤ n → part_of at n xs ≡ drop at xs
  part_all at n xs h = take_all n (drop at xs) (simp length-drop h)

  -- ---- paste

  pub paste_fitting : (at : ℕ) (ys xs : List A) → at + length ys ≤ length xs → pasted_in at ys xs ≡ paste at ys xs
  unfolding pasted_in
  paste_fitting at ys xs h = rw (le-leb (at + length ys) (length xs) h)

  pub paste_misfit : (at : ℕ) (ys xs : List A) → length xs < at + length ys → pasted_in at ys xs ≡ xs
  unfolding pasted_in
  paste_misfit at ys xs h = rw (lt-leb (at + length ys) (length xs) h)

  pub length_paste : (at : ℕ) (ys xs : List A) → at + length ys ≤ length xs → length (paste at ys xs) ≡ length xs
  unfolding paste
  length_paste at ys xs h = simp (length-append, length-take, length-drop) (omega arith)

  -- what was pasted is the part from there on
  pub paste_part : (at : ℕ) (ys xs : List A) → at + length ys ≤ length xs → part_of at (length ys) (paste at ys xs) ≡ ys
  unfolding paste
  paste_part at ys xs h =
      ap (take (length ys)) (drop_at (take at xs) (ys ++ drop (at + length ys) xs) at (length-take-le at xs (omega arith)))
      ∙ take_at ys (drop (at + length ys) xs) (length ys) refl

  -- what lies before it stays
  pub paste_before : (at : ℕ) (ys xs : List A) → at ≤ length xs → take at (paste at ys xs) ≡ take at xs
  unfolding paste
  paste_before at ys xs h = take_at (take at xs) (ys ++ drop (at + length ys) xs) at (length-take-le at xs h)

  -- what lies after it stays
  pub paste_after : (at : ℕ) (ys xs : List A) → at ≤ length xs → drop (at + length ys) (paste at ys xs) ≡ drop (at + length ys) xs
  unfolding paste
  paste_after at ys xs h =
      ap (drop (at + length ys)) (sym (append_assoc (take at xs) ys (drop (at + length ys) xs)))
      ∙ drop_at (take at xs ++ ys) (drop (at + length ys) xs) (at + length ys) (simp (length-append) (ap (λ (n : ℕ). n + length ys) (length-take-le at xs h)))

  -- nothing pasted changes nothing
  pub paste_nothing : (at : ℕ) (xs : List A) → paste at [] xs ≡ xs
  unfolding paste
  paste_nothing at xs =
      let e : at + length {A = A} [] ≡ at = omega arith in
      ap (λ (n : ℕ). take at xs ++ drop n xs) e ∙ take-append-drop at xs

  -- ys pasted over a list as long as they are
  pub paste_whole : (ys xs : List A) → length xs ≡ length ys → pasted_in 0 ys xs ≡ ys
  unfolding paste
  paste_whole ys xs h =
      paste_fitting 0 ys xs (omega arith)
      ∙ ap (λ (l : List A). ys ++ l) (drop_of_length-le xs {i = 0 + length ys} (omega arith))
      ∙ append-nil ys

  -- a copy of every element, one after the other, is a paste
  pub paste_copied : (at i : ℕ) (ys xs : List A) → length ys ≤ i → i ≤ length ys → Seq.paste xs at ys i ≡ paste at ys xs
  unfolding paste
  paste_copied at i ys xs h k =
      let e : i ≡ length ys = omega arith in
      ap (λ (n : ℕ). take at xs ++ take n ys ++ drop (at + n) xs) e
      ∙ append_assoc (take at xs) (take (length ys) ys) (drop (at + length ys) xs)
      ∙ ap (λ (l : List A). take at xs ++ (l ++ drop (at + length ys) xs)) (take-length ys)
