-- The cases of a line that grows, and of a step. Assumes nothing.
use mathlib.Core.Path.{◌≡◌, sym, ap, ◌∙◌}
use mathlib.Core.Bool.{Bool, true, false}
use mathlib.Core.List.{List}
use Prim.Native.Nat.{ℕ, ◌+◌, ◌-◌, ◌≤◌, ◌<◌}
use native.Mathlib.Omega.{arith}
use borrow.Author.Tests.{lt-ltb, le-ltb}
use lib.Dec.{ltb}
use lib.ListN.{length, take, drop, length-drop}
use Rattle.area.specs.Parts.{paste_fits, pasted_in}
use Rattle.area.proofs.Marks.{cond_true, cond_false}
use Rattle.session_line.specs.declared.Line.{Line}
use Rattle.session_line.specs.declared.Step.{Step}
use Rattle.session_line.specs.Lines.{feed_at}
use Rattle.session_line.specs.Machine.{overlong_line, filled_in, grown_line, grown_room, step_of, room_of}

module _ (line : Line) (piece room : List ℕ) where
  pub grown_over : line.overlong ≡ true → (grown_line line piece room ≡ overlong_line) × (grown_room line piece room ≡ room)
  unfolding grown_line grown_room
  grown_over e = (cond_true _ _ e, cond_true _ _ e)

  pub grown_fits : line.overlong ≡ false → paste_fits (filled_in line (length room)) piece room ≡ true
      → (grown_line line piece room ≡ record { filled = filled_in line (length room) + length piece; overlong = false })
      × (grown_room line piece room ≡ pasted_in (filled_in line (length room)) piece room)
  unfolding grown_line grown_room
  grown_fits e f = (cond_false _ _ e ∙ cond_true _ _ f, cond_false _ _ e)

  pub grown_misfit : line.overlong ≡ false → paste_fits (filled_in line (length room)) piece room ≡ false
      → (grown_line line piece room ≡ overlong_line) × (grown_room line piece room ≡ pasted_in (filled_in line (length room)) piece room)
  unfolding grown_line grown_room
  grown_misfit e f = (cond_false _ _ e ∙ cond_false _ _ f, cond_false _ _ e)

  -- the same of a computed place n, and a test t that was made of it
  module _ (n : ℕ) (place : n ≡ filled_in line (length room)) (e : line.overlong ≡ false) (t : Bool) (new : List ℕ) (test : t ≡ paste_fits n piece room) where
    fits_at : paste_fits (filled_in line (length room)) piece room ≡ t
    fits_at = ap (λ (k : ℕ). paste_fits k piece room) (sym place) ∙ sym test

    pasted_at : new ≡ pasted_in n piece room → new ≡ pasted_in (filled_in line (length room)) piece room
    pasted_at w = w ∙ ap (λ (k : ℕ). pasted_in k piece room) place

    pub fits_as : t ≡ true → new ≡ pasted_in n piece room
        → (◌≡◌ {A = Line} (record { filled = n + length piece; overlong = false }) (grown_line line piece room)) × (new ≡ grown_room line piece room)
    fits_as f w =
        let g = grown_fits e (fits_at ∙ f) in
        (ap (λ (k : ℕ). record { filled = k + length piece; overlong = false }) place ∙ sym g.0, pasted_at w ∙ sym g.1)

    pub misfit_as : t ≡ false → new ≡ pasted_in n piece room → (made : Line) → made ≡ overlong_line → (made ≡ grown_line line piece room) × (new ≡ grown_room line piece room)
    misfit_as f w made m =
        let g = grown_misfit e (fits_at ∙ f) in
        (m ∙ sym g.0, pasted_at w ∙ sym g.1)

-- ---- a step

step_same : {l m : Line} {a b : ℕ} {t u : Bool} → l ≡ m → a ≡ b → t ≡ u
    → ◌≡◌ {A = Step} (record { line = l; at = a; ended = t }) (record { line = m; at = b; ended = u })
step_same p q r = rw (p, q, r)

module _ (line grown : Line) (bytes piece room new : List ℕ) (at end : ℕ) (found : end ≡ at + feed_at (drop at bytes))
    (cut : piece ≡ take (end - at) (drop at bytes)) (grew : grown ≡ grown_line line piece room) (made : new ≡ grown_room line piece room) where
  piece_is : piece ≡ take (feed_at (drop at bytes)) (drop at bytes)
  piece_is =
      let far : end - at ≡ feed_at (drop at bytes) = omega arith in
      cut ∙ ap (λ (n : ℕ). take n (drop at bytes)) far

  line_is : grown ≡ grown_line line (take (feed_at (drop at bytes)) (drop at bytes)) room
  line_is = grew ∙ ap (λ (p : List ℕ). grown_line line p room) piece_is

  room_is : new ≡ room_of line (drop at bytes) room
  unfolding room_of
  room_is = made ∙ ap (λ (p : List ℕ). grown_room line p room) piece_is

  pub step_ends : end < length bytes
      → (◌≡◌ {A = Step} (record { line = grown; at = end + 1; ended = true }) (step_of line (drop at bytes) at room)) × (new ≡ room_of line (drop at bytes) room)
  unfolding step_of
  step_ends h =
      let t : ltb (feed_at (drop at bytes)) (length (drop at bytes)) ≡ true = lt-ltb (feed_at (drop at bytes)) (length (drop at bytes)) (omega (arith, length-drop at bytes)) in
      let place : end + 1 ≡ at + feed_at (drop at bytes) + 1 = omega arith in
      (step_same line_is (place ∙ sym (cond_true _ _ t)) (sym t), room_is)

  pub step_stops : length bytes ≤ end
      → (◌≡◌ {A = Step} (record { line = grown; at = end; ended = false }) (step_of line (drop at bytes) at room)) × (new ≡ room_of line (drop at bytes) room)
  unfolding step_of
  step_stops h =
      let t : ltb (feed_at (drop at bytes)) (length (drop at bytes)) ≡ false = le-ltb (feed_at (drop at bytes)) (length (drop at bytes)) (omega (arith, length-drop at bytes)) in
      (step_same line_is (found ∙ sym (cond_false _ _ t)) (sym t), room_is)
