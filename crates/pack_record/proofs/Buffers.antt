-- The buffer of a sound file that a put adds to and a seal closes: where it lies in the area, and what it holds after the words are added.
-- Assumes nothing.
use mathlib.Core.Path.{◌≡◌, refl, sym, ap, ◌∙◌}
use mathlib.Core.Bool.{Bool, true, false}
use mathlib.Core.List.{List}
use Prim.Native.Nat.{ℕ, ◌+◌, ◌*◌, ◌≤◌, ◌<◌}
use native.Mathlib.Decide.{dec_lt}
use native.Mathlib.Nat.{mul-le-mul_right, suc-mul}
use native.Mathlib.Omega.{arith}
use borrow.Author.Tests.{le-leb}
use Rattle.area.specs.Lists.{all_of}
use Rattle.area.specs.Parts.{is_word, part_of}
use Rattle.area.proofs.Walks.{true_not_false}
use Rattle.area.proofs.Marks.{cond_true, cond_false}
use Rattle.file.proofs.SlotLaws.{empty_words}
use Rattle.file.specs.declared.Slot.TheVariants.{Part}
use Rattle.file.specs.declared.Side.{Side}
use Rattle.file.specs.declared.Side.TheVariants.{Low, High, Neither}
use Rattle.file.specs.declared.File.{File}
use Rattle.file.specs.Slots.{is_part, part_words}
use Rattle.file.specs.Sides.{buffer_at, slot_at, start_at, is_side, lower, empty_side, part_side}
use Rattle.file.specs.Fills.{with_slot}
use Rattle.word.specs.CheckWords.{extra}
use Rattle.file_output.specs.Puts.{put_side, words_after, added}
use Rattle.file_output.specs.Parts.{part_start, part_length}
use Rattle.file.proofs.Which.{none_side, empty_there}
use Rattle.state_sound.proofs.FileFacts.{Sound}
use Rattle.state_sound.proofs.FilesKept.{other}
use Rattle.state_sound.proofs.Changes.{one_record}
use Rattle.state_sound.proofs.Puts.{PutAt, put_at}
use Rattle.state_sound.proofs.Inside.{put_inside, size_fits}
use Rattle.call_record.specs.Blocks.{held_right, sealed_in, sealed_area}

-- a buffer of which a word lies among the words of m buffers lies there whole
pub whole_buffer : (b w m x : ℕ) → 1 ≤ x → b * w + x ≤ m * w → b * w + w ≤ m * w
whole_buffer b w m x some h = go (dec_lt b m)
  where
    go : Dec (b < m) → b * w + w ≤ m * w
    go (yes l) = omega (arith, mul-le-mul_right w l, suc-mul b w)
    go (no l) =
        let less : m ≤ b = omega (arith, l) in
        absurd (omega (arith, mul-le-mul_right w less))

-- a put adds to the part-filled buffer if there is one
pub part_first : (f : File) → is_side (part_side f) ≡ true → put_side f ≡ part_side f
unfolding put_side
part_first f s = cond_true (part_side f) (empty_side f) s

pub room_too : (f : File) → is_side (part_side f) ≡ true → is_side (put_side f) ≡ true
room_too f s = ap is_side (part_first f s) ∙ s

-- the words that it holds before the put are those that a seal would sum
pub held_is : (w : ℕ) (f : File) (area : List ℕ) → is_side (put_side f) ≡ true
    → held_right w f area ≡ all_of is_word (part_of (start_at f w (put_side f)) (part_words (slot_at f (put_side f))) area)
unfolding part_start part_length put_side
held_is w f area room = go (is_side (part_side f)) refl
  where
    words_of : Side → List ℕ
    words_of k = part_of (start_at f w k) (part_words (slot_at f k)) area

    go : (t : Bool) → is_side (part_side f) ≡ t → all_of is_word (words_of (part_side f)) ≡ all_of is_word (words_of (put_side f))
    go true s = ap (λ (k : Side). all_of is_word (words_of k)) (sym (part_first f s))
    go false s =
        let second : put_side f ≡ empty_side f = cond_false (part_side f) (empty_side f) s in
        let none : part_words (slot_at f (put_side f)) ≡ 0 =
        ap (λ (k : Side). part_words (slot_at f k)) second ∙ empty_words (slot_at f (empty_side f)) (empty_there f (sym (ap is_side second) ∙ room)) in
        ap (λ (k : Side). all_of is_word (words_of k)) (none_side (part_side f) s) ∙ sym (ap (λ (n : ℕ). all_of is_word (part_of (start_at f w (put_side f)) n area)) none)

-- ---- the file with n words in buffer k, and no other part-filled

part_now : (f : File) (k : Side) (n : ℕ) → is_side k ≡ true → is_part (other f k) ≡ false → part_side (with_slot f k (Part n) false f.block) ≡ k
unfolding part_side
part_now f Low n s a = refl
part_now f High n s a = ap (λ (t : Bool). lower t true) a
part_now f Neither n s a = true_not_false s refl

sealed_at : (w : ℕ) (f : File) (k : Side) (n : ℕ) (xs : List ℕ) → is_side k ≡ true
    → sealed_in (start_at (with_slot f k (Part n) false f.block) w k) w (part_words (slot_at (with_slot f k (Part n) false f.block) k))
    (with_slot f k (Part n) false f.block).sequence (with_slot f k (Part n) false f.block).check (with_slot f k (Part n) false f.block).block xs
    ≡ sealed_in (start_at f w k) w n f.sequence f.check f.block xs
sealed_at w f Low n xs s = refl
sealed_at w f High n xs s = refl
sealed_at w f Neither n xs s = true_not_false s refl

module _ (m w : ℕ) (f : File) (S : Sound m w f) (room : is_side (put_side f) ≡ true) where
  P : PutAt f (put_side f)
  P = put_at m w f S room

  -- where the buffer begins
  abbrev pub start : ℕ
  start = start_at f w (put_side f)

  pub some_words : 1 ≤ words_after f
  some_words = omega (arith, one_record m w f S)

  pub buffer_within : start + w ≤ m * w
  buffer_within = whole_buffer (buffer_at f (put_side f)).number w m (words_after f + extra f.sequence f.check) (omega (arith, some_words)) (put_inside m w f S room)

  pub block_fits_lem : words_after f + extra f.sequence f.check ≤ w
  block_fits_lem = omega (arith, P.fit, size_fits m w f S)

  -- the block that is complete after the put is sealed where the put went
  pub sealed_there : (xs : List ℕ) → sealed_area w (added f) xs ≡ sealed_in start w (words_after f) f.sequence f.check f.block xs
  unfolding sealed_area part_start part_length added
  sealed_there xs =
      let g = with_slot f (put_side f) (Part (words_after f)) false f.block in
      let there : added f ≡ g = cond_true g f (le-leb (words_after f) f.size P.fit) in
      let side : part_side g ≡ put_side f = part_now f (put_side f) (words_after f) room P.alone in
      ap (λ (h : File). sealed_in (start_at h w (part_side h)) w (part_words (slot_at h (part_side h))) h.sequence h.check h.block xs) there
      ∙ ap (λ (k : Side). sealed_in (start_at g w k) w (part_words (slot_at g k)) g.sequence g.check g.block xs) side
      ∙ sealed_at w f (put_side f) (words_after f) xs room
