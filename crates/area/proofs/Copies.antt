-- Laws of a copy, element by element, into a part of a list: the loops of the copying functions go by these. Assumes nothing.
use borrow.Author.Tests.{le-leb, lt-leb}
use mathlib.Core.Path.{◌≡◌, sym, ap, ◌∙◌}
use mathlib.Core.Bool.{true, false}
use mathlib.Core.List.{List, ◌++◌}
use Prim.Native.Nat.{ℕ, ◌+◌, ◌-◌, ◌≤◌, ◌<◌}
use native.Mathlib.Numerals.{add-one}
use native.Mathlib.Omega.{arith}
use lib.ListN.{length, get_or, set, take, drop}
use lib.Seq.{paste-zero, paste-suc, length-paste, drop-drop}
use lib.Seq as Seq
use Rattle.area.specs.Parts.{paste, paste_fits, pasted_in}
use Rattle.area.proofs.Pastes.{paste_copied, paste_fitting, paste_misfit}

module _ {A : Type 0} (at : ℕ) (ys xs : List A) where
  -- ys do not fit: nothing is copied
  pub copy_misfit : length xs < at + length ys → (false ≡ paste_fits at ys xs) × (xs ≡ pasted_in at ys xs)
  copy_misfit h = (sym (lt-leb (at + length ys) (length xs) h), sym (paste_misfit at ys xs h))

  -- the list after i elements have been copied
  pub record Copied (i : ℕ) (zs : List A) : Type 0 where
    pub within : i ≤ length ys
    pub fits : at + length ys ≤ length xs
    pub far : zs ≡ Seq.paste xs at ys i

  pub copied_none : at + length ys ≤ length xs → Copied 0 xs
  copied_none h = record { within = omega arith; fits = h; far = paste-zero xs at ys }

  pub copied_length : (i : ℕ) (zs : List A) → Copied i zs → length zs ≡ length xs
  copied_length i zs c = ap length c.far ∙ length-paste xs at ys i (omega (arith, c.within, c.fits)) c.within

  -- one element more, at index j
  pub copied_one : (i j : ℕ) (zs : List A) (d : A) → j ≡ at + i → i < length ys → Copied i zs → Copied (i + 1) (set zs j (get_or ys i d))
  copied_one i j zs d e h c =
      record {
        within = omega arith;
        fits = c.fits;
        far =
            ap (λ (k : ℕ). set zs k (get_or ys i d)) e
            ∙ ap (λ (l : List A). set l (at + i) (get_or ys i d)) c.far
            ∙ paste-suc xs at ys i d (omega (arith, c.fits)) h
            ∙ ap (Seq.paste xs at ys) (sym (add-one i));
      }

  pub copied_all : (i : ℕ) (zs : List A) → length ys ≤ i → Copied i zs → (true ≡ paste_fits at ys xs) × (zs ≡ pasted_in at ys xs)
  copied_all i zs h c =
      (sym (le-leb (at + length ys) (length xs) c.fits), c.far ∙ paste_copied at i ys xs h c.within ∙ sym (paste_fitting at ys xs c.fits))

  -- a part as long as ys that is copied over, and what lay before and after it
  pub copied_over : at + length ys ≤ length xs → take at xs ++ (ys ++ drop (at + length ys - at) (drop at xs)) ≡ pasted_in at ys xs
  unfolding paste
  copied_over h =
      let k : at + length ys - at ≡ length ys = omega arith in
      ap (λ (l : List A). take at xs ++ (ys ++ l)) (ap (λ (n : ℕ). drop n (drop at xs)) k ∙ drop-drop (length ys) at xs) ∙ sym (paste_fitting at ys xs h)
