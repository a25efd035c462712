-- Laws of words, blocks and marks written into bytes. Assumes nothing.
use mathlib.Core.Path.{◌≡◌, refl, sym, ap, ◌∙◌}
use mathlib.Core.Bool.{Bool, true, false, not, cond, ◌&&◌}
use mathlib.Core.List.{List, [], ◌∷◌, ◌++◌, append_assoc}
use Prim.Native.Nat.{ℕ, ◌+◌, ◌*◌, ◌≤◌, ◌<◌}
use native.Mathlib.Numerals.{add-one}
use native.Mathlib.Omega.{arith}
use native.Mathlib.Nat.{add-zero}
use borrow.Author.Tests.{leb-true, lt-leb, le-leb, eq-eqb, ne_eqb}
use lib.Dec.{leb}
use lib.ListN.{length, get_or, take, drop, length-append, drop_of_length-le}
use lib.Seq.{drop-cons}
use Rattle.area.specs.Lists.{all_of}
use Rattle.area.specs.Parts.{is_word, part_of, paste}
use Rattle.area.specs.Refusals.{lowest}
use Rattle.area.proofs.Marks.{cond_true, cond_false}
use Rattle.area.proofs.Pastes.{paste_nothing, length_paste, paste_before, paste_after, paste_part}
use Rattle.area.proofs.Joins.{paste_paste}
use Rattle.area.proofs.Walks.{and_left, and_right}
use Rattle.tape.specs.Lengths.{length_bytes, record_size}
use Rattle.tape.specs.Characters.{word_bytes, data_bytes}
use Rattle.tape.specs.Writing.{block_bytes, is_sized, block_refusal, block_written, mark_refusal, mark_written}
use Rattle.tape.proofs.Laws.Stores.{paste_more}

-- ---- how many bytes

pub length_lengths : (n : ℕ) → length (length_bytes n) ≡ 4
unfolding length_bytes
length_lengths n = refl

pub length_word : (bcd : Bool) (w : ℕ) → length (word_bytes bcd w) ≡ 6
unfolding word_bytes
length_word bcd w = refl

pub length_data : (bcd : Bool) (ws : List ℕ) → length (data_bytes bcd ws) ≡ 6 * length ws
unfolding data_bytes
length_data bcd [] = refl
length_data bcd (w ∷ ws) = length-append (word_bytes bcd w) (data_bytes bcd ws) ∙ omega (arith, length_word bcd w, length_data bcd ws)

-- ---- words, one after the other: i are written, and with the others the bytes are what they are to be

pub record Put (start : List ℕ) (at : ℕ) (bcd : Bool) (ws area : List ℕ) (i : ℕ) : Type 0 where
  pub room : at + 6 * length ws ≤ length start
  pub long : length area ≡ length start
  pub rest : paste (at + 6 * i) (data_bytes bcd (drop i ws)) area ≡ paste at (data_bytes bcd ws) start

module _ (start : List ℕ) (at : ℕ) (bcd : Bool) (ws : List ℕ) where
  pub put_none : at + 6 * length ws ≤ length start → Put start at bcd ws start 0
  put_none h = record { room = h; long = refl; rest = ap (λ (k : ℕ). paste k (data_bytes bcd ws) start) (add-zero at) }

  data_step : (i : ℕ) → i < length ws → data_bytes bcd (drop i ws) ≡ word_bytes bcd (get_or ws i 0) ++ data_bytes bcd (drop (i + 1) ws)
  unfolding data_bytes
  data_step i h = rw (add-one, drop-cons ws i 0)

  pub put_room : (area : List ℕ) (i : ℕ) → i < length ws → Put start at bcd ws area i → at + 6 * i + 6 ≤ length area
  put_room area i h p = omega (arith, p.room, p.long)

  pub put_one : (area : List ℕ) (i : ℕ) → i < length ws → Put start at bcd ws area i
      → (new : List ℕ) → new ≡ paste (at + 6 * i) (word_bytes bcd (get_or ws i 0)) area → Put start at bcd ws new (i + 1)
  put_one area i h p new e =
      let to = at + 6 * i in
      let w = word_bytes bcd (get_or ws i 0) in
      let more = data_bytes bcd (drop (i + 1) ws) in
      let fits : to + 6 ≤ length area = put_room area i h p in
      let fit : to + length w ≤ length area = omega (arith, length_word bcd (get_or ws i 0)) in
      let next : at + 6 * (i + 1) ≡ to + 6 = omega arith in
      record {
        room = p.room;
        long = ap length e ∙ length_paste to w area fit ∙ p.long;
        rest =
            ap (λ (k : ℕ). paste k more new) next
            ∙ ap (paste (to + 6) more) e ∙ paste_paste to 6 w more area (length_word bcd (get_or ws i 0)) fits
            ∙ ap (λ (l : List ℕ). paste to l area) (sym (data_step i h)) ∙ p.rest;
      }

  pub put_all : (area : List ℕ) (i : ℕ) → length ws ≤ i → Put start at bcd ws area i → area ≡ paste at (data_bytes bcd ws) start
  unfolding data_bytes
  put_all area i h p =
      let to = at + 6 * i in
      sym (paste_nothing to area) ∙ ap (λ (l : List ℕ). paste to (data_bytes bcd l) area) (sym (drop_of_length-le ws h)) ∙ p.rest

-- ---- a block

even_size : (n : ℕ) → record_size (6 * n) ≡ 6 * n + 8
even_size n = omega arith

and_false : (b : Bool) → (b && false) ≡ false
and_false true = refl
and_false false = refl

module _ (room at : ℕ) (ws : List ℕ) where
  pub refused_word : all_of is_word ws ≡ false → 2 ≡ block_refusal room at ws
  unfolding block_refusal lowest
  refused_word e = rw e

  module _ (good : all_of is_word ws ≡ true) where
    refused_test : (is_sized (length ws) && leb (at + record_size (6 * length ws)) room) ≡ false → 13 ≡ block_refusal room at ws
    unfolding block_refusal lowest
    refused_test e = rw (good, e)

    pub refused_none : length ws ≡ 0 → 13 ≡ block_refusal room at ws
    refused_none e = let z : length ws < 1 = omega arith in refused_test (rw (lt-leb 1 (length ws) z))

    pub refused_long : 1024 < length ws → 13 ≡ block_refusal room at ws
    refused_long h = refused_test (rw (lt-leb (length ws) 1024 h, and_false (leb 1 (length ws))))

    pub refused_room : (t : Bool) → t ≡ leb (at + (6 * length ws + 8)) room → t ≡ false → 13 ≡ block_refusal room at ws
    refused_room t e h = refused_test (rw (even_size (length ws), ← e, h, and_false (is_sized (length ws))))

    pub refused_not : (length ws ≡ 0 → ⊥) → length ws ≤ 1024 → (t : Bool) → t ≡ leb (at + (6 * length ws + 8)) room → t ≡ true → 0 ≡ block_refusal room at ws
    unfolding block_refusal lowest
    refused_not some most t e h =
        let k : 1 ≤ length ws = omega (arith, some) in
        rw (good, even_size (length ws), le-leb 1 (length ws) k, le-leb (length ws) 1024 most, ← e, h)

  -- what holds of a block that is not refused
  pub record Accepted : Type 0 where
    pub words : all_of is_word ws ≡ true
    pub some : 1 ≤ length ws
    pub most : length ws ≤ 1024
    pub fits : at + (6 * length ws + 8) ≤ room

  pub accepted : block_refusal room at ws ≡ 0 → Accepted
  unfolding block_refusal lowest
  accepted e = go (all_of is_word ws) refl (is_sized (length ws) && leb (at + record_size (6 * length ws)) room) refl e
    where
      go : (a : Bool) → all_of is_word ws ≡ a → (b : Bool) → (is_sized (length ws) && leb (at + record_size (6 * length ws)) room) ≡ b
          → ◌≡◌ {A = ℕ} (cond (not a) 2 (cond (not b) 13 0)) 0 → Accepted
      go true p true q z =
          let sized = and_left (is_sized (length ws)) _ q in
          let fit : at + record_size (6 * length ws) ≤ room = leb-true _ _ (and_right (is_sized (length ws)) _ q) in
          record {
            words = p;
            some = leb-true _ _ (and_left (leb 1 (length ws)) _ sized);
            most = leb-true _ _ (and_right (leb 1 (length ws)) _ sized);
            fits = omega (arith, even_size (length ws), fit);
          }
      go true p false q z = absurd (omega arith)
      go false p b q z = absurd (omega arith)

-- the bytes of an accepted block: a length, the data, the length again
module _ (start : List ℕ) (at : ℕ) (bcd : Bool) (ws : List ℕ) where
  pub block_left : (r : ℕ) → r ≡ block_refusal (length start) at ws → (r ≡ 0 → ⊥) → (r ≡ block_refusal (length start) at ws) × (start ≡ block_written at bcd ws start)
  unfolding block_written
  block_left r e h = (e, sym (cond_false _ _ (ne_eqb (block_refusal (length start) at ws) 0 (λ z. h (e ∙ z)))))

  pub block_put : (r : ℕ) → r ≡ block_refusal (length start) at ws → r ≡ 0
      → (one two three : List ℕ) → one ≡ paste at (length_bytes (6 * length ws)) start → two ≡ paste (at + 4) (data_bytes bcd ws) one
      → three ≡ paste (at + 4 + 6 * length ws) (length_bytes (6 * length ws)) two
      → (0 ≡ block_refusal (length start) at ws) × (three ≡ block_written at bcd ws start)
  unfolding block_written block_bytes
  block_put r e z one two three o w t =
      let a = accepted (length start) at ws (sym e ∙ z) in
      let n = 6 * length ws in
      let l = length_bytes n in
      let d = data_bytes bcd ws in
      let both : two ≡ paste at (l ++ d) start = paste_more at 4 l d start one two (length_lengths n) (omega (arith, a.fits)) o w in
      let long : length (l ++ d) ≡ 4 + n = length-append l d ∙ omega (arith, length_lengths n, length_data bcd ws) in
      let p : at + 4 + n ≡ at + (4 + n) = omega arith in
      let all : three ≡ paste at ((l ++ d) ++ l) start =
      paste_more at (4 + n) (l ++ d) l start two three long (omega (arith, a.fits)) both (t ∙ ap (λ (k : ℕ). paste k l two) p) in (
        sym z ∙ e,
        all ∙ ap (λ (x : List ℕ). paste at x start) (append_assoc l d l) ∙ sym (cond_true _ _ (eq-eqb (block_refusal (length start) at ws) 0 (sym e ∙ z))),
      )

  -- the room of each of its three parts
  pub block_room : (r : ℕ) → r ≡ block_refusal (length start) at ws → r ≡ 0 → (at + (6 * length ws + 8) ≤ length start) × (length ws ≤ 1024)
  block_room r e z = let a = accepted (length start) at ws (sym e ∙ z) in (a.fits, a.most)

  -- "an accepted one only the bytes of its record": what lies before and after stays, and the record stands between
  pub record OnlyRecord (new : List ℕ) : Type 0 where
    pub long : length new ≡ length start
    pub before : take at new ≡ take at start
    pub after : drop (at + length (block_bytes bcd ws)) new ≡ drop (at + length (block_bytes bcd ws)) start
    pub stands : part_of at (length (block_bytes bcd ws)) new ≡ block_bytes bcd ws

  pub length_block : length (block_bytes bcd ws) ≡ 6 * length ws + 8
  unfolding block_bytes
  length_block =
      let l = length_bytes (6 * length ws) in
      length-append l (data_bytes bcd ws ++ l) ∙ omega (arith, length-append (data_bytes bcd ws) l, length_lengths (6 * length ws), length_data bcd ws)

  pub block_only : block_refusal (length start) at ws ≡ 0 → OnlyRecord (block_written at bcd ws start)
  unfolding block_written
  block_only z =
      let a = accepted (length start) at ws z in
      let fit : at + length (block_bytes bcd ws) ≤ length start = omega (arith, a.fits, length_block) in
      let is : block_written at bcd ws start ≡ paste at (block_bytes bcd ws) start = cond_true _ _ (eq-eqb (block_refusal (length start) at ws) 0 z) in
      record {
        long = ap length is ∙ length_paste at (block_bytes bcd ws) start fit;
        before = ap (take at) is ∙ paste_before at (block_bytes bcd ws) start (omega arith);
        after = ap (drop (at + length (block_bytes bcd ws))) is ∙ paste_after at (block_bytes bcd ws) start (omega arith);
        stands = ap (λ (l : List ℕ). part_of at (length (block_bytes bcd ws)) l) is ∙ paste_part at (block_bytes bcd ws) start fit;
      }

  pub block_refused : (block_refusal (length start) at ws ≡ 0 → ⊥) → block_written at bcd ws start ≡ start
  unfolding block_written
  block_refused h = cond_false _ _ (ne_eqb (block_refusal (length start) at ws) 0 h)

-- ---- a mark

module _ (start : List ℕ) (at : ℕ) (t : Bool) (e : t ≡ leb (at + 4) (length start)) where
  pub mark_left : t ≡ false → (13 ≡ mark_refusal (length start) at) × (start ≡ mark_written at start)
  unfolding mark_written mark_refusal lowest
  mark_left h =
      let f : leb (at + 4) (length start) ≡ false = sym e ∙ h in
      (rw f, rw f)

  pub mark_put : t ≡ true → (new : List ℕ) → new ≡ paste at (length_bytes 0) start → (0 ≡ mark_refusal (length start) at) × (new ≡ mark_written at start)
  unfolding mark_written mark_refusal lowest
  mark_put h new w =
      let f : leb (at + 4) (length start) ≡ true = sym e ∙ h in
      (rw f, w ∙ rw f)
