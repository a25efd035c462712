-- The line and its room hold what has come of the line. Assumes nothing.
use mathlib.Core.Path.{◌≡◌, refl, sym, ap, ◌∙◌, subst}
use mathlib.Core.Bool.{Bool, true, false, not, cond, ◌||◌}
use mathlib.Core.List.{List, [], ◌∷◌, ◌++◌}
use Prim.Native.Nat.{ℕ, suc, ◌+◌, ◌≤◌, ◌<◌}
use native.Mathlib.Omega.{arith}
use borrow.Author.Tests.{le-leb, lt-leb, leb-true, leb-false, le-ltb, eq-eqb, ne_eqb}
use lib.Dec.{leb, eqb}
use lib.ListN.{length, take, length-append}
use lib.Seq.{length-take-le}
use Rattle.area.specs.Parts.{paste, paste_fits}
use Rattle.area.proofs.Pastes.{length_paste, paste_fitting, paste_misfit}
use Rattle.area.proofs.Joins.{take_paste}
use Rattle.area.proofs.Marks.{cond_true, cond_false}
use Rattle.area.proofs.Walks.{by_test}
use Rattle.session_line.specs.declared.Line.{Line}
use Rattle.session_line.specs.Lines.{Text, Overlong, clip}
use Rattle.session_line.specs.Machine.{no_line, overlong_line, has_begun, held_of, Holds, filled_in, grown_line, grown_room}
use Rattle.session_line.proofs.Laws.Grows.{grown_over, grown_fits, grown_misfit}

-- ---- what is kept of a line

module _ (room : ℕ) (l : List ℕ) where
  pub clip_text : length l ≤ room → clip room l ≡ Text l
  unfolding clip
  clip_text h = rw (le-leb (length l) room h)

  pub clip_over : room < length l → clip room l ≡ Overlong
  unfolding clip
  clip_over h = rw (lt-leb (length l) room h)

  -- the other way round
  clip_is_over : clip room l ≡ Overlong → room < length l
  unfolding clip
  clip_is_over e =
      by_test (λ t. leb (length l) room ≡ t → cond t (Text l) Overlong ≡ Overlong → room < length l) (leb (length l) room)
      (λ q t k. absurd (let z : ◌≡◌ {A = ℕ} 0 1 = cc in omega arith)) (λ q t k. leb-false (length l) room t) refl e

  clip_is_text : (k : List ℕ) → clip room l ≡ Text k → l ≡ k
  unfolding clip
  clip_is_text k e =
      by_test (λ t. cond t (Text l) Overlong ≡ Text k → l ≡ k) (leb (length l) room)
      (λ q h. let z : l ≡ k = cc in z) (λ q h. absurd (let z : ◌≡◌ {A = ℕ} 0 1 = cc in omega arith)) e

module _ (line : Line) (room : List ℕ) where
  pub held_over : line.overlong ≡ true → held_of line room ≡ Overlong
  unfolding held_of
  held_over e = cond_true _ _ e

  pub held_text_lem : line.overlong ≡ false → held_of line room ≡ Text (take line.filled room)
  unfolding held_of
  held_text_lem e = cond_false _ _ e

-- ---- nothing has come

pub holds_none : (room : List ℕ) → Holds no_line room []
unfolding held_of
holds_none room = record { held = sym (clip_text (length room) [] (omega arith)); within = omega arith }

-- ---- a piece more

module _ (line : Line) (room l piece : List ℕ) (h : Holds line room l) where
  module _ (e : line.overlong ≡ false) where
    line_is : take line.filled room ≡ l
    line_is = sym (clip_is_text (length room) l (take line.filled room) (sym h.held ∙ held_text_lem line room e))

    filled_is : line.filled ≡ length l
    filled_is = sym (length-take-le line.filled room h.within) ∙ ap length line_is

    filled_in_lem : filled_in line (length room) ≡ line.filled
    unfolding filled_in
    filled_in_lem = cond_false _ _ (le-ltb (length room) line.filled h.within)

  pub grown_length : length (grown_room line piece room) ≡ length room
  grown_length =
      by_test (λ t. line.overlong ≡ t → length (grown_room line piece room) ≡ length room) line.overlong
      (λ q e. ap length (grown_over line piece room e).1)
      (λ q e. by_test (λ t. paste_fits (filled_in line (length room)) piece room ≡ t → length (grown_room line piece room) ≡ length room)
      (paste_fits (filled_in line (length room)) piece room)
      (λ r f.
      let fit : filled_in line (length room) + length piece ≤ length room = leb-true _ _ f in
      ap length ((grown_fits line piece room e f).1 ∙ paste_fitting (filled_in line (length room)) piece room fit)
      ∙ length_paste (filled_in line (length room)) piece room fit)
      (λ r f. ap length ((grown_misfit line piece room e f).1 ∙ paste_misfit (filled_in line (length room)) piece room (leb-false _ _ f)))
      refl)
      refl

  over_holds : length room < length (l ++ piece) → (new : Line) (other : List ℕ) → new ≡ overlong_line → length other ≡ length room → Holds new other (l ++ piece)
  over_holds k new other e same =
      let big : length other < length (l ++ piece) = omega arith in
      subst (λ (x : Line). Holds x other (l ++ piece)) (sym e) (
      record {
        held = held_over overlong_line other refl ∙ sym (clip_over (length other) (l ++ piece) big);
        within = omega arith;
      })

  text_holds : line.overlong ≡ false → (fit : line.filled + length piece ≤ length room)
      → Holds (record { filled = line.filled + length piece; overlong = false }) (paste line.filled piece room) (l ++ piece)
  text_holds e fit =
      let new : Line = record { filled = line.filled + length piece; overlong = false } in
      let same : length (paste line.filled piece room) ≡ length room = length_paste line.filled piece room fit in
      let short : length (l ++ piece) ≤ length (paste line.filled piece room) = omega (arith, length-append l piece, filled_is e) in
      record {
        held =
            held_text_lem (record { filled = line.filled + length piece; overlong = false }) (paste line.filled piece room) refl
            ∙ ap Text (take_paste line.filled (length piece) piece room refl h.within ∙ ap (λ (x : List ℕ). x ++ piece) (line_is e))
            ∙ sym (clip_text (length (paste line.filled piece room)) (l ++ piece) short);
        within = omega arith;
      }

  pub grown_holds : Holds (grown_line line piece room) (grown_room line piece room) (l ++ piece)
  grown_holds =
      by_test (λ t. line.overlong ≡ t → Holds (grown_line line piece room) (grown_room line piece room) (l ++ piece)) line.overlong
      (λ q e.
      let long : length room < length l = clip_is_over (length room) l (sym h.held ∙ held_over line room e) in
      over_holds (omega (arith, length-append l piece)) _ _ (grown_over line piece room e).0 grown_length)
      (λ q e. by_test (λ t. paste_fits (filled_in line (length room)) piece room ≡ t → Holds (grown_line line piece room) (grown_room line piece room) (l ++ piece))
      (paste_fits (filled_in line (length room)) piece room)
      (λ r f. fits_holds e f)
      (λ r f.
      let big : length room < filled_in line (length room) + length piece = leb-false _ _ f in
      over_holds (omega (arith, length-append l piece, filled_is e, filled_in_lem e)) _ _ (grown_misfit line piece room e f).0 grown_length)
      refl)
      refl
    where
      fits_holds : line.overlong ≡ false → paste_fits (filled_in line (length room)) piece room ≡ true
          → Holds (grown_line line piece room) (grown_room line piece room) (l ++ piece)
      fits_holds e f =
          let fit : filled_in line (length room) + length piece ≤ length room = leb-true _ _ f in
          let fit' : line.filled + length piece ≤ length room = omega (arith, filled_in_lem e) in
          let g = grown_fits line piece room e f in
          let a : grown_line line piece room ≡ record { filled = line.filled + length piece; overlong = false } =
          g.0 ∙ ap (λ (n : ℕ). record { filled = n + length piece; overlong = false }) (filled_in_lem e) in
          let b : grown_room line piece room ≡ paste line.filled piece room =
          g.1 ∙ paste_fitting (filled_in line (length room)) piece room fit ∙ ap (λ (n : ℕ). paste n piece room) (filled_in_lem e) in
          subst (λ (x : Line). Holds x (grown_room line piece room) (l ++ piece)) (sym a)
          (subst (λ (y : List ℕ). Holds (record { filled = line.filled + length piece; overlong = false }) y (l ++ piece)) (sym b) (text_holds e fit'))

-- ---- whether something has come

pub begun_none : (line : Line) (room : List ℕ) → Holds line room [] → has_begun line ≡ false
begun_none line room h =
    by_test (λ t. line.overlong ≡ t → has_begun line ≡ false) line.overlong
    (λ q e.
    let long : length room < 0 = clip_is_over (length room) [] (sym h.held ∙ held_over line room e) in
    absurd (omega arith))
    (λ q e.
    let none : line.filled ≡ 0 = filled_is line room [] [] h e in
    ap (λ (b : Bool). b || not (eqb line.filled 0)) e ∙ ap not (eq-eqb line.filled 0 none))
    refl

pub begun_some : (line : Line) (room : List ℕ) (c : ℕ) (l : List ℕ) → Holds line room (c ∷ l) → has_begun line ≡ true
begun_some line room c l h =
    by_test (λ t. line.overlong ≡ t → has_begun line ≡ true) line.overlong
    (λ q e. ap (λ (b : Bool). b || not (eqb line.filled 0)) e)
    (λ q e.
    let some : line.filled ≡ suc (length l) = filled_is line room (c ∷ l) [] h e in
    ap (λ (b : Bool). b || not (eqb line.filled 0)) e ∙ ap not (ne_eqb line.filled 0 (λ z. omega arith)))
    refl
