-- What images stand for, with any number n of units on each channel up to all that there are: so it holds of both sizes, should there be two.
-- "not the image of a sound state as document 01 lists it": `image_good` and `good_image`. "Two different good images never stand for the same
-- state": `one_image`. Assumes nothing.
use borrow.Author.Tests.{eqb-true, eq-eqb}
use mathlib.Core.Path.{◌≡◌, sym, ap, ◌∙◌}
use mathlib.Core.Bool.{true, false}
use mathlib.Core.List.{List, [], ◌++◌, append-nil}
use Prim.Native.Nat.{ℕ, ◌+◌, ◌*◌, ◌-◌, ◌≤◌, ◌<◌}
use native.Mathlib.Omega.{arith}
use lib.Dec.{eqb}
use lib.ListN.{length, take, drop, length-append, length-drop, take-append-drop, drop_of_length-le}
use lib.Seq.{take_at, drop_at}
use Rattle.area.proofs.Walks.{and_left, and_right, and_both}
use Rattle.channel.specs.Units.{unit_count, idle_unit}
use Rattle.file.specs.Sizes.{closed_file}
use Rattle.pool.specs.Free.{file_count}
use Rattle.state.specs.declared.State.{State}
use Rattle.state.specs.Places.{channel_count, no_channel}
use Rattle.state_sound.specs.Soundness.{sound}
use Rattle.state_sound.proofs.Facts.{sound_facts}
use Rattle.codec.specs.Codecs.{same, read_each, write_each}
use Rattle.codec.specs.Rows.{word_codec}
use Rattle.codec.proofs.Codecs.{any, all_any, same_self, same_is, padded_keeps, padded_length, padded_rest, read_whole, write_whole, read_each_lem, all_drop}
use Rattle.codec.proofs.Numbers.{word_keeps, words_tight}
use Rattle.state_image.specs.Units.{channel_codec, channel_head, unit_codec}
use Rattle.state_image.specs.Files.{file_codec, files_codec}
use Rattle.routines.specs.Ranks.{depth, main_program}
use Rattle.routines.specs.Posts.{empty_post}
use Rattle.state_image.specs.Routines.{program_size, program_codec, programs_size, post_codec, posts_codec, empty_posts}
use Rattle.state_image.specs.Images.{state_head, channels_codec, state_size, state_codec, image_words, words_codec, image_size, image_of, state_in, area_in, is_image, UnitsTo, PostsTo, Whole, AreBytes}
use Rattle.state_image.proofs.Keeps.{state_sized, words_sized, state_keeps}

-- ---- sizes

pub image_sized : (n : ℕ) (s : State) (area : List ℕ) → length (image_of n s area) ≡ image_size n
unfolding image_of
image_sized n s area = length-append ((state_codec n).write s) (words_codec.write area) ∙ rw (state_sized n s, words_sized area)

-- ---- what was written is read back

pub area_back : (n : ℕ) (s : State) (area : List ℕ) → length area ≡ image_words → area_in n (image_of n s area) ≡ area
unfolding image_of area_in
area_back n s area e =
    let ws = words_codec.write area in
    let far : length area ≤ image_words = omega arith in
    let none : ws ≡ ws ++ [] = sym (append-nil ws) in
    ap words_codec.read (drop_at ((state_codec n).write s) ws (state_size n) (state_sized n s) ∙ none)
    ∙ (padded_keeps word_codec any word_keeps 0 image_words image_words).back area []
    (record { long = omega arith; each = all_any (take image_words area); rest = drop_of_length-le area far })

-- ---- the parts of an image

image_front : (n : ℕ) (s : State) (area : List ℕ) → take (state_size n) (image_of n s area) ≡ (state_codec n).write s
unfolding image_of
image_front n s area = take_at ((state_codec n).write s) (words_codec.write area) (state_size n) (state_sized n s)

own_bytes : (n : ℕ) (bs : List ℕ) → is_image n bs ≡ true → take (state_size n) bs ≡ (state_codec n).write (state_in n bs)
unfolding is_image
own_bytes n bs e = sym (same_is _ _ (and_right (sound (state_in n bs)) _ (and_right (eqb (length bs) (image_size n)) _ e)))

image_joined : (n : ℕ) (bs : List ℕ) → take (state_size n) bs ≡ (state_codec n).write (state_in n bs)
    → write_each word_codec (read_each word_codec image_words (drop (state_size n) bs)) ≡ drop (state_size n) bs
    → take (state_size n) bs ++ drop (state_size n) bs ≡ image_of n (state_in n bs) (area_in n bs)
unfolding image_of area_in
image_joined n bs e f =
    let ds = drop (state_size n) bs in
    let same_words : words_codec.write (words_codec.read ds) ≡ ds =
    write_whole word_codec 0 image_words (words_codec.read ds) (padded_length word_codec 0 image_words image_words (omega arith) ds)
    ∙ ap (write_each word_codec) (read_whole word_codec 0 image_words ds) ∙ f in
    ap (λ (l : List ℕ). l ++ ds) e ∙ ap (λ (l : List ℕ). (state_codec n).write (state_in n bs) ++ l) (sym same_words)

module _ (n : ℕ) (h : n ≤ unit_count) where
  pub state_back : (s : State) (area : List ℕ) → Whole n s → sound s ≡ true → state_in n (image_of n s area) ≡ s
  unfolding image_of state_in
  state_back s area w e = (state_keeps n h).back s (words_codec.write area) (w, (sound_facts s e).free)

  -- ---- good bytes

  -- the image of a sound state is good
  pub image_good : (s : State) (area : List ℕ) → Whole n s → sound s ≡ true → is_image n (image_of n s area) ≡ true
  unfolding is_image
  image_good s area w e =
      let bs = image_of n s area in
      let b : state_in n bs ≡ s = state_back s area w e in
      let own : take (state_size n) bs ≡ (state_codec n).write s = image_front n s area in
      and_both (eqb (length bs) (image_size n)) _ (eq-eqb _ _ (image_sized n s area))
      (and_both (sound (state_in n bs)) _ (ap sound b ∙ e)
      (ap (λ (x : State). same ((state_codec n).write x) (take (state_size n) bs)) b ∙ ap (same ((state_codec n).write s)) own ∙ same_self ((state_codec n).write s)))

  -- good bytes have the size, and stand for a sound state
  pub good_size : (bs : List ℕ) → is_image n bs ≡ true → length bs ≡ image_size n
  unfolding is_image
  good_size bs e = eqb-true (length bs) (image_size n) (and_left (eqb (length bs) (image_size n)) _ e)

  pub good_sound : (bs : List ℕ) → is_image n bs ≡ true → sound (state_in n bs) ≡ true
  unfolding is_image
  good_sound bs e = and_left (sound (state_in n bs)) _ (and_right (eqb (length bs) (image_size n)) _ e)

  -- and they are its image
  pub good_image : (bs : List ℕ) → AreBytes bs → is_image n bs ≡ true → bs ≡ image_of n (state_in n bs) (area_in n bs)
  good_image bs g e =
      let left : length (drop (state_size n) bs) ≡ image_words * 8 =
      length-drop (state_size n) bs ∙ (let z : length bs - state_size n ≡ image_words * 8 = omega (arith, good_size bs e) in z) in
      sym (take-append-drop (state_size n) bs)
      ∙ image_joined n bs (own_bytes n bs e) (words_tight image_words (drop (state_size n) bs) left (all_drop (λ (b : ℕ). b < 256) (state_size n) bs g))

  -- "Two different good images never stand for the same state.": state and area
  pub one_image : (bs cs : List ℕ) → AreBytes bs → AreBytes cs → is_image n bs ≡ true → is_image n cs ≡ true
      → state_in n bs ≡ state_in n cs → area_in n bs ≡ area_in n cs → bs ≡ cs
  one_image bs cs f g d e p q =
      good_image bs f d ∙ ap (λ (s : State). image_of n s (area_in n bs)) p ∙ ap (image_of n (state_in n cs)) q ∙ sym (good_image cs g e)

  -- and one image stands for one state
  pub one_state : (s t : State) (a b : List ℕ) → Whole n s → Whole n t → sound s ≡ true → sound t ≡ true → length a ≡ image_words → length b ≡ image_words
      → image_of n s a ≡ image_of n t b → (s ≡ t) × (a ≡ b)
  one_state s t a b v w d e k l p =
      (sym (state_back s a v d) ∙ ap (state_in n) p ∙ state_back t b w e, sym (area_back n s a k) ∙ ap (area_in n) p ∙ area_back n t b l)

  -- ---- what is read is a state as the code has it, with its area

  units_read : (bs : List ℕ) → UnitsTo n ((channel_codec n).read bs)
  units_read bs =
      (padded_length unit_codec (idle_unit false) unit_count n h (drop channel_head bs), padded_rest unit_codec (idle_unit false) unit_count n h (drop channel_head bs))

  posts_read : (bs : List ℕ) → PostsTo n ((posts_codec n).read bs)
  posts_read bs = (padded_length post_codec empty_post unit_count n h bs, padded_rest post_codec empty_post unit_count n h bs)

  pub whole_read : (bs : List ℕ) → Whole n (state_in n bs)
  unfolding state_in
  whole_read bs =
      let cs = drop state_head bs in
      let fs = drop (state_head + (channels_codec n).size) bs in
      let rs = drop (state_head + ((channels_codec n).size + files_codec.size)) bs in
      record {
        channels = padded_length (channel_codec n) no_channel channel_count channel_count (omega arith) cs;
        units = rw (read_whole (channel_codec n) no_channel channel_count cs) (read_each_lem (channel_codec n) (UnitsTo n) units_read channel_count cs);
        files = padded_length file_codec closed_file file_count file_count (omega arith) fs;
        pushed = padded_length program_codec main_program depth depth (omega arith) (drop (1 + program_size) rs);
        posts = padded_length (posts_codec n) empty_posts channel_count channel_count (omega arith) (drop programs_size rs);
        unit_posts = rw (read_whole (posts_codec n) empty_posts channel_count (drop programs_size rs)) (read_each_lem (posts_codec n) (PostsTo n) posts_read channel_count (drop programs_size rs));
      }

  pub area_read : (bs : List ℕ) → length (area_in n bs) ≡ image_words
  unfolding area_in
  area_read bs = padded_length word_codec 0 image_words image_words (omega arith) (drop (state_size n) bs)
