-- What a sound file names of the area lies in its own buffers: the words that get shows, those that a put adds and a seal sums, those that a
-- write sends, and the room for a delivered block. Assumes nothing.
use mathlib.Core.Path.{◌≡◌, refl, sym, ap, subst, ◌∙◌}
use mathlib.Core.Bool.{Bool, true, false, cond, ◌&&◌}
use Prim.Native.Nat.{ℕ, ◌+◌, ◌-◌, ◌*◌, ◌≤◌, ◌<◌}
use native.Mathlib.Nat.{mul-le-mul_right, suc-mul}
use native.Mathlib.Omega.{arith}
use borrow.Author.Tests.{leb-true, ltb-true, eq-eqb}
use lib.Dec.{leb, ltb, eqb}
use Rattle.area.proofs.Walks.{true_not_false, and_right, and_both, or_first, or_second}
use Rattle.area.proofs.Marks.{cond_true}
use Rattle.word.specs.declared.Checked.{Checked}
use Rattle.file.specs.Arrivals.{error_due, error_told}
use Rattle.file.specs.declared.Slot.TheVariants.{Full}
use Rattle.file.specs.declared.Side.{Side}
use Rattle.file.specs.declared.Side.TheVariants.{Low, High, Neither}
use Rattle.file.specs.declared.File.{File}
use Rattle.file.specs.Slots.{full_words}
use Rattle.file.specs.Sides.{buffer_at, slot_at, start_at, is_side, taken_side, oldest}
use Rattle.word.specs.CheckWords.{extra}
use Rattle.file_output.specs.Puts.{put_side, words_after}
use Rattle.file_output.specs.Sends.{send_start, send_words}
use Rattle.file_input.proofs.Ages.{Aged, no_block, old, aged}
use Rattle.file_input.specs.Gets.{found_in, found_none, found, looked_at, get_from, got_start, got_words}
use Rattle.file_input.specs.declared.Got.{Got}
use Rattle.file_input.specs.declared.Got.TheVariants.{Record, Leftover, Error}
use Rattle.pool.specs.Free.{held_by}
use Rattle.state_sound.specs.Files.{is_no_buffer}
use Rattle.state_sound.proofs.FileFacts.{Sound}
use Rattle.state_sound.proofs.FilesKept.{owns}
use Rattle.state_sound.proofs.Changes.{numbers, own_taken, own_oldest, passed_sound}
use Rattle.state_sound.proofs.Puts.{put_at}

-- the first n words of buffer b, of m buffers of w words
pub buffer_inside : (m w b n : ℕ) → b < m → n ≤ w → b * w + n ≤ m * w
buffer_inside m w b n h l = omega (arith, mul-le-mul_right w h, suc-mul b w)

-- an open file holds the buffers that it owns
pub held_own : (f : File) (k : Side) → f.opened ≡ true → owns f k ≡ true → held_by (buffer_at f k).number f ≡ true
held_own f Low o h = and_both f.opened _ o (or_first (eqb f.low.number f.low.number) _ (eq-eqb f.low.number f.low.number refl))
held_own f High o h =
    and_both f.opened _ o (or_second (eqb f.low.number f.high.number) _
    (and_both f.double _ h (eq-eqb f.high.number f.high.number refl)))
held_own f Neither o h = true_not_false h refl

module _ (m w : ℕ) (f : File) (S : Sound m w f) where
  -- the numbers of its buffers are below m
  pub number_less : (k : Side) → owns f k ≡ true → (buffer_at f k).number < m
  number_less Low o = S.first
  number_less High o =
      ltb-true f.high.number m (and_right (ltb f.low.number f.high.number) _ (sym (cond_true (ltb f.low.number f.high.number && ltb f.high.number m) (is_no_buffer f.high) o) ∙ S.second))
  number_less Neither o = true_not_false o refl

  -- B with a check word fits a buffer
  pub size_fits : f.size + extra f.sequence f.check ≤ w
  size_fits =
      leb-true (f.size + extra f.sequence f.check) w (and_right (leb f.rlen f.size) _ (and_right (leb 1 f.rlen) _ S.sizes))

  -- a block of any size that may be delivered
  pub taken_inside : (n : ℕ) → is_side (taken_side f) ≡ true → n ≤ f.size + extra f.sequence f.check → start_at f w (taken_side f) + n ≤ m * w
  taken_inside n s l = buffer_inside m w (buffer_at f (taken_side f)).number n (number_less (taken_side f) (own_taken m w f S s)) (omega (arith, size_fits))

  -- the words of a put, and the whole block with its check word
  pub put_inside : is_side (put_side f) ≡ true → start_at f w (put_side f) + (words_after f + extra f.sequence f.check) ≤ m * w
  put_inside s =
      let P = put_at m w f S s in
      buffer_inside m w (buffer_at f (put_side f)).number (words_after f + extra f.sequence f.check) (number_less (put_side f) P.own) (omega (arith, size_fits, P.fit))

  -- the words that a write sends
  pub send_inside : is_side (oldest f) ≡ true → send_start w f + send_words f ≤ m * w
  unfolding send_start send_words
  send_inside s = go (oldest f) (aged f) s (own_oldest m w f S s)
    where
      go : (k : Side) → Aged f k → is_side k ≡ true → owns f k ≡ true → start_at f w k + (full_words (slot_at f k) + extra f.sequence f.check) ≤ m * w
      go Neither (no_block e) t o = true_not_false t refl
      go k (old _ n at e rest t x l gone moved) u o =
          let N = numbers m w f k n at e S x in
          let words : full_words (slot_at f k) ≡ n = ap full_words x in
          buffer_inside m w (buffer_at f k).number (full_words (slot_at f k) + extra f.sequence f.check) (number_less k o) (omega (arith, size_fits, N.fit))

  -- what is found in a block lies in it
  found_inside : got_start (found w f) + got_words (found w f) ≤ m * w
  unfolding found
  found_inside = go (oldest f) (aged f) (own_oldest m w f S)
    where
      none : (t : Bool) → got_start (found_none t) + got_words (found_none t) ≤ m * w
      none true = omega arith
      none false = omega arith

      within : (start r n at : ℕ) (e : Checked) (s t : Bool) → leb r (n - at) ≡ t → at ≤ n → start + n ≤ m * w
          → got_start (cond s (Error e) (cond t (Record (start + at) r) (Leftover (start + at) (n - at)))) + got_words (cond s (Error e) (cond t (Record (start + at) r) (Leftover (start + at) (n - at)))) ≤ m * w
      within start r n at e true t q p l = omega arith
      within start r n at e false true q p l = omega (arith, leb-true r (n - at) q)
      within start r n at e false false q p l = omega arith

      go : (k : Side) → Aged f k → (is_side k ≡ true → owns f k ≡ true)
          → got_start (cond (is_side k) (found_in (start_at f w k) f.rlen (slot_at f k)) (found_none f.marked)) + got_words (cond (is_side k) (found_in (start_at f w k) f.rlen (slot_at f k)) (found_none f.marked)) ≤ m * w
      go Neither (no_block e) o = none f.marked
      go k (old _ n at e rest t x l gone moved) o =
          let N = numbers m w f k n at e S x in
          let block : start_at f w k + n ≤ m * w = buffer_inside m w (buffer_at f k).number n (number_less k (o t)) (omega (arith, size_fits, N.fit)) in
          let g : cond (is_side k) (found_in (start_at f w k) f.rlen (slot_at f k)) (found_none f.marked) ≡ found_in (start_at f w k) f.rlen (Full n at e) =
          cond_true (found_in (start_at f w k) f.rlen (slot_at f k)) (found_none f.marked) t ∙ ap (found_in (start_at f w k) f.rlen) x in
          subst (λ (z : Got). got_start z + got_words z ≤ m * w) (sym g) (within (start_at f w k) f.rlen n at (error_told e) (ltb 0 (error_due e)) (leb f.rlen (n - at)) refl N.place block)

pub get_inside : (m w : ℕ) (f : File) → Sound m w f → got_start (get_from w f).got + got_words (get_from w f).got ≤ m * w
unfolding get_from looked_at
get_inside m w f S = found_inside m w (looked_at f) (passed_sound m w _ (passed_sound m w f S))
