-- Put on a sound output file: what it comes to, that its words fit, and that the file after it is sound. Assumes nothing.
use mathlib.Core.Path.{◌≡◌, refl, sym, ap, subst, ◌∙◌}
use mathlib.Core.Bool.{Bool, true, false, cond}
use Prim.Native.Nat.{ℕ, ◌+◌, ◌≤◌}
use native.Mathlib.Omega.{arith}
use borrow.Author.Tests.{le-leb, le-ltb, ltb-false}
use lib.Dec.{leb, ltb}
use Rattle.area.proofs.Walks.{true_not_false, and_both}
use Rattle.area.proofs.Marks.{cond_true}
use Rattle.file.proofs.SlotLaws.{empty_words}
use Rattle.file.specs.Arrivals.{no_arrival}
use Rattle.file.proofs.ArrivalLaws.{no_arrival_fits}
use Rattle.file.specs.declared.Slot.TheVariants.{Part}
use Rattle.file.specs.declared.Side.{Side}
use Rattle.file.specs.declared.Side.TheVariants.{Low, High, Neither}
use Rattle.file.specs.declared.File.{File}
use Rattle.file.specs.Slots.{is_part, part_words}
use Rattle.file.specs.Sides.{slot_at, is_side, lower, empty_side, part_side}
use Rattle.file.specs.Fills.{with_slot, filled_at}
use Rattle.file_output.specs.Puts.{put_side, words_after, added, after_put}
use Rattle.file_output.specs.Parts.{part_length, is_complete, sealed_file}
use Rattle.file.proofs.Which.{lower_cases, empty_there, part_there}
use Rattle.area.specs.Lists.{one_if}
use Rattle.state_sound.proofs.FileFacts.{slot_fits, Sound}
use Rattle.state_sound.proofs.FilesKept.{quiet_slot, other, owns, slot_fits_lem, part_sides, changed, beside, filled}
use Rattle.state_sound.proofs.Changes.{own_empty, own_part, part_numbers, one_record, within}

-- the buffer k that a put adds to: it is the file's, has room for r words, and the one beside it is not part-filled
pub record PutAt (f : File) (k : Side) : Type 0 where
  pub own : owns f k ≡ true
  pub fit : part_words (slot_at f k) + f.rlen ≤ f.size
  pub alone : is_part (other f k) ≡ false

one_zero : (b : Bool) → one_if b ≡ 0 → b ≡ false
one_zero true e = absurd (omega arith)
one_zero false e = refl

-- where no buffer is part-filled, the one beside k is not
none_part : (f : File) (k : Side) → is_side (part_side f) ≡ false → is_part (other f k) ≡ false
unfolding part_side
none_part f k =
    lower_cases (λ j. is_side j ≡ false → is_part (other f k) ≡ false) (is_part f.low.slot) (is_part f.high.slot)
    (λ a s. true_not_false refl s) (λ a b s. true_not_false refl s) (λ a b s. beside_none k a b)
  where
    beside_none : (k : Side) → is_part f.low.slot ≡ false → is_part f.high.slot ≡ false → is_part (other f k) ≡ false
    beside_none Low a b = b
    beside_none High a b = a
    beside_none Neither a b = refl

module _ (m w : ℕ) (f : File) (S : Sound m w f) where
  at_part : is_side (part_side f) ≡ true → PutAt f (part_side f)
  at_part s =
      let one : one_if (is_part (slot_at f (part_side f))) ≡ 1 = ap one_if (part_there f s) in
      let most : one_if f.output ≤ 1 = one_most f.output in
      record {
        own = own_part m w f S s;
        fit = (part_numbers f.sequence f.check f.output f.size f.rlen (slot_at f (part_side f)) (slot_fits_lem m w f (part_side f) S) (part_there f s)).1;
        alone = one_zero (is_part (other f (part_side f))) (omega (arith, part_sides f (part_side f) s, S.part));
      }
    where
      one_most : (b : Bool) → one_if b ≤ 1
      one_most true = omega arith
      one_most false = omega arith

  at_empty : is_side (part_side f) ≡ false → is_side (empty_side f) ≡ true → PutAt f (empty_side f)
  at_empty p s =
      let none : part_words (slot_at f (empty_side f)) ≡ 0 = empty_words (slot_at f (empty_side f)) (empty_there f s) in
      record { own = own_empty m w f S s; fit = omega (arith, within m w f S); alone = none_part f (empty_side f) p }

  pub put_at : is_side (put_side f) ≡ true → PutAt f (put_side f)
  unfolding put_side
  put_at = go (is_side (part_side f)) refl
    where
      go : (t : Bool) → is_side (part_side f) ≡ t → is_side (cond t (part_side f) (empty_side f)) ≡ true → PutAt f (cond t (part_side f) (empty_side f))
      go true p s = at_part s
      go false p s = at_empty p s

-- ---- what a put comes to

-- the file with n words in buffer k
abbrev holding : File → Side → ℕ → File
holding f k n = with_slot f k (Part n) false f.block

part_is : (f : File) (k : Side) (n : ℕ) → is_side k ≡ true → is_part (other f k) ≡ false → part_side (holding f k n) ≡ k
unfolding part_side
part_is f Low n s a = refl
part_is f High n s a = ap (λ (t : Bool). lower t true) a
part_is f Neither n s a = true_not_false s refl

length_is : (f : File) (k : Side) (n : ℕ) → is_side k ≡ true → is_part (other f k) ≡ false → part_length (holding f k n) ≡ n
unfolding part_length
length_is f k n s a = ap (λ (j : Side). part_words (slot_at (holding f k n) j)) (part_is f k n s a) ∙ there k s
  where
    there : (k : Side) → is_side k ≡ true → part_words (slot_at (holding f k n) k) ≡ n
    there Low s = refl
    there High s = refl
    there Neither s = true_not_false s refl

complete_is : (f : File) (k : Side) (n : ℕ) → is_side k ≡ true → is_part (other f k) ≡ false → is_complete (holding f k n) ≡ ltb f.size (n + f.rlen)
unfolding is_complete
complete_is f k n s a = ap (λ (j : ℕ). ltb (holding f k n).size (j + (holding f k n).rlen)) (length_is f k n s a) ∙ there k
  where
    there : (k : Side) → ltb (holding f k n).size (n + (holding f k n).rlen) ≡ ltb f.size (n + f.rlen)
    there Low = refl
    there High = refl
    there Neither = refl

sealed_is : (f : File) (k : Side) (n : ℕ) → is_side k ≡ true → is_part (other f k) ≡ false → sealed_file (holding f k n) ≡ filled_at f k n no_arrival
unfolding sealed_file filled_at
sealed_is f k n s a =
    ap (λ (j : Side). filled_at (holding f k n) j (part_length (holding f k n)) no_arrival) (part_is f k n s a)
    ∙ ap (λ (j : ℕ). filled_at (holding f k n) k j no_arrival) (length_is f k n s a) ∙ there k
  where
    there : (k : Side) → filled_at (holding f k n) k n no_arrival ≡ filled_at f k n no_arrival
    there Low = refl
    there High = refl
    there Neither = refl

-- r words more in buffer k; sealed if less than r then remains of B
pub put_is : (f : File) → is_side (put_side f) ≡ true → PutAt f (put_side f)
    → after_put f ≡ cond (ltb f.size (words_after f + f.rlen)) (filled_at f (put_side f) (words_after f) no_arrival) (with_slot f (put_side f) (Part (words_after f)) false f.block)
unfolding after_put added
put_is f s P =
    let k = put_side f in
    let n = words_after f in
    let there : added f ≡ holding f k n = cond_true (holding f k n) f (le-leb n f.size P.fit) in
    ap (λ (g : File). cond (is_complete g) (sealed_file g) g) there
    ∙ ap (λ (t : Bool). cond t (sealed_file (holding f k n)) (holding f k n)) (complete_is f k n s P.alone)
    ∙ ap (λ (g : File). cond (ltb f.size (n + f.rlen)) g (holding f k n)) (sealed_is f k n s P.alone)

pub put_sound : (m w : ℕ) (f : File) → Sound m w f → f.output ≡ true → is_side (put_side f) ≡ true → Sound m w (after_put f)
put_sound m w f S o s = subst (Sound m w) (sym (put_is f s P)) (go (ltb f.size (words_after f + f.rlen)) refl)
  where
    P : PutAt f (put_side f)
    P = put_at m w f S s

    go : (t : Bool) → ltb f.size (words_after f + f.rlen) ≡ t → Sound m w (cond t (filled_at f (put_side f) (words_after f) no_arrival) (with_slot f (put_side f) (Part (words_after f)) false f.block))
    go true e = filled m w f (put_side f) (words_after f) no_arrival S P.own (omega (arith, one_record m w f S)) P.fit (no_arrival_fits f.sequence f.check) (λ q. refl)
    go false e =
        let room : words_after f + f.rlen ≤ f.size = ltb-false f.size (words_after f + f.rlen) e in
        let one : one_if f.output ≡ 1 = ap one_if o in
        let none : one_if (is_part (other f (put_side f))) ≡ 0 = ap one_if P.alone in
        changed m w f (put_side f) (Part (words_after f)) false f.block S
        (record {
          own = P.own;
          slot = part_slot (words_after f) (omega arith) room;
          taken = omega (arith, (beside m w f (put_side f) S P.own).0);
          part = omega arith;
          order = λ q. true_not_false q refl;
          number = S.number;
        })
      where
        part_slot : (n : ℕ) → f.rlen ≤ n → n + f.rlen ≤ f.size → slot_fits f.sequence f.check f.output f.size f.rlen (Part n) ≡ true
        part_slot n h l =
            quiet_slot f.sequence f.check f.output f.size f.rlen (Part n) refl refl
            (and_both (leb f.rlen n) _ (le-leb f.rlen n h) (le-leb (n + f.rlen) f.size l)) refl refl

-- a block is sealed by the put that leaves less than r of B, and not by the next: in a sound file no part-filled block has less than r left
pub sealed_in_time : (m w : ℕ) (f : File) → Sound m w f → is_complete f ≡ false
unfolding is_complete part_length
sealed_in_time m w f S = le-ltb f.size (part_words (slot_at f (part_side f)) + f.rlen) (go (is_side (part_side f)) refl)
  where
    none : (k : Side) → is_side k ≡ false → part_words (slot_at f k) ≡ 0
    none Low s = true_not_false refl s
    none High s = true_not_false refl s
    none Neither s = refl

    go : (t : Bool) → is_side (part_side f) ≡ t → part_words (slot_at f (part_side f)) + f.rlen ≤ f.size
    go true s = (at_part m w f S s).fit
    go false s = omega (arith, none (part_side f) s, within m w f S)
