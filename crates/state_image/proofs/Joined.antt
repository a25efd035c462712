-- Pieces of an image put one after the other, and read one after the other, are the whole. Assumes nothing.
use borrow.Author.Tests.{eq-eqb, ne_eqb}
use mathlib.Core.Path.{◌≡◌, refl, sym, ap, ap₂, ◌∙◌}
use mathlib.Core.Bool.{Bool, true, false, cond, ◌&&◌, and-false}
use mathlib.Core.List.{List, [], ◌∷◌, ◌++◌, append_assoc, append-nil}
use Prim.Native.Nat.{ℕ, ◌+◌, ◌*◌, ◌≤◌}
use native.Mathlib.Omega.{arith}
use lib.ListN.{length, take, drop, get_or, length-append, drop_of_length-le}
use lib.Seq.{drop-drop, get_or-drop}
use Rattle.area.specs.Parts.{paste, pasted_in}
use Rattle.channel.specs.declared.Channel.{Channel}
use Rattle.channel.specs.Units.{unit_count}
use Rattle.file.specs.declared.Buffer.{Buffer}
use Rattle.file.specs.declared.File.{File}
use Rattle.pool.specs.Free.{file_count}
use Rattle.state.specs.declared.State.{State}
use Rattle.state.specs.Places.{channel_count, no_channel, before_start}
use Rattle.state_sound.specs.Soundness.{sound}
use lib.Dec.{eqb}
use Rattle.codec.specs.Codecs.{Codec, same}
use Rattle.codec.specs.Rows.{two, two_at, four_at}
use Rattle.codec.proofs.Codecs.{each_length, first_length}
use Rattle.codec.proofs.Loops.{put_fits, put_then}
use Rattle.state_image.specs.Units.{channel_head, channel_row, units_codec, channel_codec}
use Rattle.state_image.specs.Files.{buffer_bytes, buffer_size, buffer_codec, file_head, file_size, file_row, file_from, file_codec, files_codec}
use Rattle.state_image.specs.Routines.{routines_codec}
use Rattle.state_image.specs.Images.{state_head, state_row, channels_codec, state_size, state_codec, words_codec, image_words, image_size, image_of, state_in, is_image, image_in, image_fits}
use Rattle.state_image.specs.declared.Image.{Image}
use Rattle.state_image.proofs.Keeps.{channels_sized, files_keep, state_sized}

-- ---- numbers at their places

pub first_there : (bs : List ℕ) (at : ℕ) → get_or bs at 0 ≡ get_or (drop at bs) 0 0
first_there bs at =
    let z : at ≡ at + 0 = omega arith in
    ap (λ (j : ℕ). get_or bs j 0) z ∙ sym (get_or-drop at bs 0 0)

pub byte_there : (bs : List ℕ) (at k : ℕ) → get_or bs (at + k) 0 ≡ get_or (drop at bs) k 0
byte_there bs at k = sym (get_or-drop at bs k 0)

pub two_there : (bs : List ℕ) (at k : ℕ) → two_at bs (at + k) ≡ two_at (drop at bs) k
two_there bs at k =
    let z : at + k + 1 ≡ at + (k + 1) = omega arith in
    sym (ap₂ two (get_or-drop at bs k 0) (get_or-drop at bs (k + 1) 0 ∙ ap (λ (j : ℕ). get_or bs j 0) (sym z)))

pub four_there : (bs : List ℕ) (at k : ℕ) → four_at bs (at + k) ≡ four_at (drop at bs) k
four_there bs at k =
    let x : at + (k + 1) ≡ at + k + 1 = omega arith in
    let y : at + (k + 2) ≡ at + k + 2 = omega arith in
    let z : at + (k + 3) ≡ at + k + 3 = omega arith in
    sym (rw (get_or-drop at bs k 0, get_or-drop at bs (k + 1) 0, get_or-drop at bs (k + 2) 0, get_or-drop at bs (k + 3) 0, x, y, z))

-- ---- a file: its own numbers and its two buffers

file_there : (at : ℕ) (bs : List ℕ)
    → file_from (drop at bs) (buffer_codec.read (drop (at + file_head) bs)) (buffer_codec.read (drop (at + file_head + buffer_size) bs)) ≡ file_codec.read (drop at bs)
file_there at bs =
    let e : drop file_head (drop at bs) ≡ drop (at + file_head) bs = drop-drop file_head at bs in
    let z : at + (file_head + buffer_size) ≡ at + file_head + buffer_size = omega arith in
    let f : drop (file_head + buffer_size) (drop at bs) ≡ drop (at + file_head + buffer_size) bs =
    drop-drop (file_head + buffer_size) at bs ∙ ap (λ (k : ℕ). drop k bs) z in
    sym (ap₂ (λ (l m : List ℕ). file_from (drop at bs) (buffer_codec.read l) (buffer_codec.read m)) e f)

file_own : (bs : List ℕ) (at : ℕ) (low high : Buffer)
    → record {
      opened = eqb (get_or bs at 0) 1;
      channel = get_or bs (at + 1) 0;
      unit = get_or bs (at + 2) 0;
      output = eqb (get_or bs (at + 3) 0) 1;
      double = eqb (get_or bs (at + 4) 0) 1;
      sequence = eqb (get_or bs (at + 5) 0) 1;
      check = eqb (get_or bs (at + 6) 0) 1;
      size = two_at bs (at + 9);
      rlen = two_at bs (at + 11);
      low = low;
      high = high;
      turned = eqb (get_or bs (at + 7) 0) 1;
      block = two_at bs (at + 13);
      marked = eqb (get_or bs (at + 8) 0) 1;
    }
    ≡ file_from (drop at bs) low high
file_own bs at low high =
    rw (two_there bs at 9, two_there bs at 11, two_there bs at 13, first_there bs at, byte_there bs at 1, byte_there bs at 2, byte_there bs at 3, byte_there bs at 4, byte_there bs at 5, byte_there bs at 6, byte_there bs at 7, byte_there bs at 8)

pub file_read : (bs : List ℕ) (at : ℕ) (low high : Buffer) (size rlen block : ℕ) → low ≡ buffer_codec.read (drop (at + file_head) bs)
    → high ≡ buffer_codec.read (drop (at + file_head + buffer_size) bs) → size ≡ two_at bs (at + 9) → rlen ≡ two_at bs (at + 11) → block ≡ two_at bs (at + 13)
    → record {
      opened = eqb (get_or bs at 0) 1;
      channel = get_or bs (at + 1) 0;
      unit = get_or bs (at + 2) 0;
      output = eqb (get_or bs (at + 3) 0) 1;
      double = eqb (get_or bs (at + 4) 0) 1;
      sequence = eqb (get_or bs (at + 5) 0) 1;
      check = eqb (get_or bs (at + 6) 0) 1;
      size = size;
      rlen = rlen;
      low = low;
      high = high;
      turned = eqb (get_or bs (at + 7) 0) 1;
      block = block;
      marked = eqb (get_or bs (at + 8) 0) 1;
    }
    ≡ file_codec.read (drop at bs)
file_read bs at low high size rlen block el eh es er eb =
    rw (es, er, eb) (file_own bs at low high) ∙ ap₂ (file_from (drop at bs)) el eh ∙ file_there at bs

pub file_put : (at : ℕ) (f : File) (xs o p q : List ℕ) → at + file_size ≤ length xs → o ≡ pasted_in at (file_row f f.block) xs
    → p ≡ paste (at + file_head) (buffer_bytes f.low) o → q ≡ paste (at + file_head + buffer_size) (buffer_bytes f.high) p → q ≡ paste at (file_codec.write f) xs
file_put at f xs o p q room e g h =
    let one : o ≡ paste at (file_row f f.block) xs = put_fits at (file_row f f.block) xs o (omega arith) e in
    let two : p ≡ paste at (file_row f f.block ++ buffer_bytes f.low) xs =
    put_then at file_head (at + file_head) (file_row f f.block) (buffer_bytes f.low) xs o p refl refl (omega arith) one g in
    let z : at + file_head + buffer_size ≡ at + (file_head + buffer_size) = omega arith in
    put_then at (file_head + buffer_size) (at + file_head + buffer_size) (file_row f f.block ++ buffer_bytes f.low) (buffer_bytes f.high) xs p q z refl (omega arith) two h

-- ---- a channel: its own numbers and its units

pub channel_put : (n at : ℕ) (c : Channel) (xs o p : List ℕ) → at + (channel_codec n).size ≤ length xs → o ≡ pasted_in at (channel_row c) xs
    → p ≡ paste (at + channel_head) ((units_codec n).write c.units) o → p ≡ paste at ((channel_codec n).write c) xs
channel_put n at c xs o p room e g =
    let one : o ≡ paste at (channel_row c) xs = put_fits at (channel_row c) xs o (omega arith) e in
    put_then at channel_head (at + channel_head) (channel_row c) ((units_codec n).write c.units) xs o p refl refl (omega arith) one g

-- ---- a state: its own numbers, the channels, the files and the routines

pub state_put : (n : ℕ) (s : State) (xs o p q r : List ℕ) → state_size n ≤ length xs → o ≡ pasted_in 0 (state_row s) xs
    → p ≡ paste state_head ((channels_codec n).write s.channels) o → q ≡ paste (state_head + (channels_codec n).size) (files_codec.write s.files) p
    → r ≡ paste (state_head + ((channels_codec n).size + files_codec.size)) ((routines_codec n).write s.routines) q
    → r ≡ paste 0 ((state_codec n).write s) xs
state_put n s xs o p q r room e g h k =
    let cs = (channels_codec n).write s.channels in
    let fs = files_codec.write s.files in
    let rs = (routines_codec n).write s.routines in
    let long : length cs ≡ (channels_codec n).size = channels_sized n s.channels in
    let one : o ≡ paste 0 (state_row s) xs = put_fits 0 (state_row s) xs o (omega arith) e in
    let two : p ≡ paste 0 (state_row s ++ cs) xs = put_then 0 state_head state_head (state_row s) cs xs o p refl refl (omega arith) one g in
    let far : length (state_row s ++ cs) ≡ state_head + (channels_codec n).size = length-append (state_row s) cs ∙ rw long in
    let z : state_head + (channels_codec n).size ≡ 0 + (state_head + (channels_codec n).size) = omega arith in
    let three : q ≡ paste 0 ((state_row s ++ cs) ++ fs) xs =
    put_then 0 (state_head + (channels_codec n).size) (state_head + (channels_codec n).size) (state_row s ++ cs) fs xs p q z far (omega arith) two h in
    let end = state_head + ((channels_codec n).size + files_codec.size) in
    let farther : length ((state_row s ++ cs) ++ fs) ≡ end =
    length-append (state_row s ++ cs) fs ∙ (let y : length (state_row s ++ cs) + length fs ≡ end = omega (arith, far, files_keep.sized s.files) in y) in
    let y : end ≡ 0 + end = omega arith in
    put_then 0 end end ((state_row s ++ cs) ++ fs) rs xs q r y farther (omega arith) three k
    ∙ ap (λ (l : List ℕ). paste 0 l xs) (append_assoc (state_row s ++ cs) fs rs ∙ append_assoc (state_row s) cs (fs ++ rs))

-- ---- an image: a state and its words

paste_all : (ys xs : List ℕ) → length xs ≡ length ys → paste 0 ys xs ≡ ys
unfolding paste
paste_all ys xs e =
    let far : length xs ≤ 0 + length ys = omega arith in
    let none : drop (0 + length ys) xs ≡ [] = drop_of_length-le xs far in
    ap (λ (l : List ℕ). ys ++ l) none ∙ append-nil ys

pub image_put : (n : ℕ) (s : State) (area xs o p : List ℕ) → length (words_codec.write area) ≡ words_codec.size → length xs ≡ image_size n
    → o ≡ paste 0 ((state_codec n).write s) xs → p ≡ paste (state_size n) (words_codec.write area) o → p ≡ image_of n s area
unfolding image_of
image_put n s area xs o p long whole e g =
    let ss = (state_codec n).write s in
    let ws = words_codec.write area in
    let z : state_size n ≡ 0 + state_size n = omega arith in
    let all : p ≡ paste 0 (ss ++ ws) xs = put_then 0 (state_size n) (state_size n) ss ws xs o p z (state_sized n s) (omega arith) e g in
    let far : length (ss ++ ws) ≡ image_size n = length-append ss ws ∙ rw (state_sized n s, long) in
    all ∙ paste_all (ss ++ ws) xs (whole ∙ sym far)

-- a state alone
pub state_alone : (n : ℕ) (s : State) (xs : List ℕ) → length xs ≡ state_size n → paste 0 ((state_codec n).write s) xs ≡ (state_codec n).write s
state_alone n s xs e = paste_all ((state_codec n).write s) xs (e ∙ sym (state_sized n s))

-- ---- what is read of bytes, and areas of other sizes

pub image_other : (bs : List ℕ) (s : State) → s ≡ before_start → (length bs ≡ image_size unit_count → ⊥) → ◌≡◌ {A = Image} (record { good = false; state = s }) (image_in bs)
unfolding is_image
image_other bs s e n = rw (e, ne_eqb (length bs) (image_size unit_count) n)

pub image_same : (bs : List ℕ) (s : State) (a b : Bool) → length bs ≡ image_size unit_count → s ≡ (state_codec unit_count).read bs → a ≡ sound s
    → b ≡ same ((state_codec unit_count).write s) (take (state_size unit_count) bs) → ◌≡◌ {A = Image} (record { good = a && b; state = s }) (image_in bs)
unfolding is_image state_in
image_same bs s a b e f g h = rw (g, h, f, eq-eqb (length bs) (image_size unit_count) e)

module _ (bytes area x y : List ℕ) where
  pub other_bytes : (length bytes ≡ image_size unit_count → ⊥) → x ≡ cond (image_fits bytes area) y x
  other_bytes n = rw (ne_eqb (length bytes) (image_size unit_count) n)

  pub other_area : (length area ≡ image_words → ⊥) → x ≡ cond (image_fits bytes area) y x
  other_area n = rw (ne_eqb (length area) image_words n, and-false (eqb (length bytes) (image_size unit_count)))

  pub both_fit : length bytes ≡ image_size unit_count → length area ≡ image_words → (z : List ℕ) → z ≡ y → z ≡ cond (image_fits bytes area) y x
  both_fit e f z p = rw (eq-eqb (length bytes) (image_size unit_count) e, eq-eqb (length area) image_words f) p
