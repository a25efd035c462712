-- Laws of words read one after the other into an area. Assumes nothing.
use mathlib.Core.Path.{◌≡◌, refl, sym, ap, ap₂, ◌∙◌}
use mathlib.Core.Bool.{Bool, true, false, ◌&&◌}
use mathlib.Core.List.{List, [], ◌∷◌}
use Prim.Native.Nat.{ℕ, zero, suc, ◌+◌, ◌-◌, ◌*◌, ◌/◌, ◌≤◌, ◌<◌}
use native.Mathlib.Omega.{arith}
use borrow.Author.Tests.{leb-true, lt-leb}
use lib.Dec.{leb}
use lib.ListN.{length, set, length-set}
use Rattle.area.specs.Parts.{paste}
use Rattle.area.proofs.Marks.{cond_true, cond_false}
use Rattle.area.proofs.Pastes.{paste_nothing}
use Rattle.area.proofs.Joins.{set_paste, paste_paste}
use Rattle.area.proofs.Walks.{and_left, and_right}
use Rattle.tape.specs.Characters.{word_at, words_from}
use Rattle.tape.specs.Reading.{words_fit, words_read}
use Rattle.tape.proofs.Laws.Stores.{room_left, sixes_left}

and_false : (b : Bool) → false ≡ (b && false)
and_false true = refl
and_false false = refl

-- ---- whether they fit

module _ (bytes place n room at : ℕ) where
  pub unfit_bytes : bytes < place → false ≡ words_fit bytes place n room at
  unfolding words_fit
  unfit_bytes h =
      let k : bytes < place + 6 * n = omega arith in
      rw (lt-leb (place + 6 * n) bytes k)

  pub unfit_room : room < at → false ≡ words_fit bytes place n room at
  unfolding words_fit
  unfit_room h =
      let k : room < at + n = omega arith in
      rw (lt-leb (at + n) room k) (and_false (leb (place + 6 * n) bytes))

  pub fit_both : place ≤ bytes → at ≤ room → (leb n ((bytes - place) / 6) && leb n (room - at)) ≡ words_fit bytes place n room at
  unfolding words_fit
  fit_both h k = ap₂ (λ (a b : Bool). a && b) (sixes_left bytes place n h) (room_left room at n k)

-- ---- one word after the other

words_step : (bs : List ℕ) (k n : ℕ) → 0 < n → words_from bs k n ≡ word_at bs k ∷ words_from bs (k + 6) (n - 1)
unfolding words_from
words_step bs k zero h = absurd (omega arith)
words_step bs k (suc n) h =
    let e : suc n - 1 ≡ n = omega arith in
    ap (λ (m : ℕ). word_at bs k ∷ words_from bs (k + 6) m) (sym e)

pub length_words : (bs : List ℕ) (k n : ℕ) → length (words_from bs k n) ≡ n
unfolding words_from
length_words bs k zero = refl
length_words bs k (suc n) = ap suc (length_words bs (k + 6) n)

-- i words came: with those that are still to come the area is what it is to be
pub record Brought (image start : List ℕ) (place n at : ℕ) (area : List ℕ) (i : ℕ) : Type 0 where
  pub there : place + 6 * n ≤ length image
  pub room : at + n ≤ length start
  pub long : length area ≡ length start
  pub rest : paste (at + i) (words_from image (place + 6 * i) (n - i)) area ≡ paste at (words_from image place n) start

module _ (image start : List ℕ) (place n at : ℕ) where
  -- the two facts of a test of room
  pub fit_facts : (t : Bool) → t ≡ words_fit (length image) place n (length start) at → t ≡ true → (place + 6 * n ≤ length image) × (at + n ≤ length start)
  unfolding words_fit
  fit_facts t e h =
      let k : (leb (place + 6 * n) (length image) && leb (at + n) (length start)) ≡ true = sym e ∙ h in
      (leb-true _ _ (and_left _ _ k), leb-true _ _ (and_right (leb (place + 6 * n) (length image)) _ k))

  pub brought_none : (place + 6 * n ≤ length image) × (at + n ≤ length start) → Brought image start place n at start 0
  brought_none h =
      let t : at + 0 ≡ at = omega arith in
      let f : place + 6 * 0 ≡ place = omega arith in
      let l : n - 0 ≡ n = omega arith in
      record {
        there = h.0;
        room = h.1;
        long = refl;
        rest = ap₂ (λ (x y : ℕ). paste x (words_from image y (n - 0)) start) t f ∙ ap (λ (x : ℕ). paste at (words_from image place x) start) l;
      }

  pub brought_one : (area : List ℕ) (i w : ℕ) → i < n → w ≡ word_at image (place + 6 * i) → Brought image start place n at area i
      → Brought image start place n at (set area (at + i) w) (i + 1)
  brought_one area i w some e b =
      let to = at + i in
      let from = place + 6 * i in
      let inside : to < length area = omega (arith, b.room, b.long) in
      let more = words_from image (from + 6) (n - i - 1) in
      let left : 0 < n - i = omega arith in
      let f : place + 6 * (i + 1) ≡ from + 6 = omega arith in
      let l : n - (i + 1) ≡ n - i - 1 = omega arith in
      let t : at + (i + 1) ≡ to + 1 = omega arith in
      record {
        there = b.there;
        room = b.room;
        long = length-set area to w ∙ b.long;
        rest =
            ap₂ (λ (x y : ℕ). paste x (words_from image y (n - (i + 1))) (set area to w)) t f
            ∙ ap (λ (x : ℕ). paste (to + 1) (words_from image (from + 6) x) (set area to w)) l
            ∙ ap (paste (to + 1) more) (set_paste to w area inside) ∙ paste_paste to 1 (w ∷ []) more area refl (omega arith)
            ∙ ap (λ (x : ℕ). paste to (x ∷ more) area) e
            ∙ ap (λ (l : List ℕ). paste to l area) (sym (words_step image from (n - i) left)) ∙ b.rest;
      }

  pub brought_all : (area : List ℕ) (i : ℕ) → n ≤ i → Brought image start place n at area i
      → (t : Bool) → t ≡ words_fit (length image) place n (length start) at → t ≡ true
      → (true ≡ words_fit (length image) place n (length start) at) × (area ≡ words_read image place n start at)
  unfolding words_from words_read
  brought_all area i none b t e h =
      let z : n - i ≡ 0 = omega arith in
      let done : area ≡ paste at (words_from image place n) start =
      sym (paste_nothing (at + i) area) ∙ ap (λ (k : ℕ). paste (at + i) (words_from image (place + 6 * i) k) area) (sym z) ∙ b.rest in
      (sym h ∙ e, done ∙ sym (cond_true _ _ (sym e ∙ h)))

  pub brought_not : (t : Bool) → t ≡ words_fit (length image) place n (length start) at → t ≡ false
      → (false ≡ words_fit (length image) place n (length start) at) × (start ≡ words_read image place n start at)
  unfolding words_read
  brought_not t e h = (sym h ∙ e, sym (cond_false _ _ (sym e ∙ h)))
