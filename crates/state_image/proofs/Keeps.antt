-- The codecs of an image keep what they write: of a unit, a buffer and a file all, of a channel of n units those whose units from n on are blank, of a state
-- the whole ones with a right free mask. Assumes nothing.
use mathlib.Core.Path.{◌≡◌, refl, sym, ap, ap₂, ◌∙◌}
use mathlib.Core.Bool.{false}
use mathlib.Core.List.{List, ◌++◌, append_assoc}
use Prim.Native.Nat.{ℕ, ◌+◌, ◌*◌, ◌≤◌}
use native.Mathlib.Omega.{arith}
use lib.Dec.{eqb}
use mir.Val.{bool_byte}
use lib.ListN.{length, take, drop, length-append, drop_of_length-le}
use lib.Seq.{drop_at, drop-drop, take_all}
use Rattle.channel.specs.declared.Op.{Op}
use Rattle.channel.specs.declared.Op.TheVariants.{Read, Write, Mark}
use Rattle.channel.specs.declared.Turn.{Turn}
use Rattle.channel.specs.declared.Turn.TheVariants.{Idle, Waiting, Displaced, Working}
use Rattle.channel.specs.declared.Request.{Request}
use Rattle.channel.specs.declared.Unit as Unit
use Rattle.channel.specs.declared.Channel.{Channel}
use Rattle.channel.specs.Units.{unit_count, idle_unit}
use Rattle.file.specs.declared.Slot.{Slot}
use Rattle.file.specs.declared.Slot.TheVariants.{Empty, Taken, Part, Full}
use Rattle.file.specs.declared.Buffer.{Buffer}
use Rattle.file.specs.declared.File.{File}
use Rattle.file.specs.Slots.{slot_kind, full_place, full_arrival}
use Rattle.file.specs.Sizes.{closed_file}
use Rattle.routines.specs.declared.Routines.{Routines}
use Rattle.pool.specs.Free.{file_count}
use Rattle.pool.specs.Masks.{free_mask}
use Rattle.state.specs.declared.State.{State}
use Rattle.state.specs.Places.{channel_count, no_channel}
use Rattle.codec.specs.Codecs.{Keeps, Padded, first_of}
use Rattle.codec.specs.Rows.{word_codec}
use Rattle.codec.proofs.Codecs.{any, all_any, padded_keeps, each_length, first_length}
use Rattle.codec.proofs.Numbers.{flag_back, two_back, word_keeps}
use Rattle.state_image.specs.Units.{turn_byte, request_in, turn_of, op_byte, op_of, unit_bytes, request_from, position_from, unit_codec, units_codec, channel_row, channel_codec}
use Rattle.state_image.specs.Files.{slot_words, buffer_row, buffer_bytes, buffer_from, buffer_codec, file_row, file_from, file_codec, files_codec}
use Rattle.state_image.specs.Routines.{routines_codec}
use Rattle.state_image.proofs.Posts.{HasPosts, routines_sized, routines_keep}
use Rattle.state_image.specs.Images.{UnitsTo, Whole, state_head, state_row, state_with, state_from, channels_codec, state_size, state_codec, image_words, words_codec}

-- ---- a unit

op_back : (x : Op) → op_of (op_byte x) ≡ x
op_back Read = refl
op_back Write = refl
op_back Mark = refl

turn_back : (t : Turn) → turn_of (turn_byte t) (request_in t) ≡ t
turn_back Idle = refl
turn_back (Waiting q) = refl
turn_back (Displaced q) = refl
turn_back (Working q) = refl

request_back : (u : Unit.Unit) (rest : List ℕ) → request_from (unit_bytes u ++ rest) ≡ request_in u.turn
request_back u rest = simp (flag_back, op_back)

unit_back : (u : Unit.Unit) (rest : List ℕ) → unit_codec.read (unit_bytes u ++ rest) ≡ u
unit_back u rest =
    ap (λ (q : Request). record { declared = eqb (bool_byte u.declared) 1; turn = turn_of (turn_byte u.turn) q; position = position_from (unit_bytes u ++ rest) }) (request_back u rest)
    ∙ simp (turn_back, flag_back, two_back)

pub unit_keeps : Keeps unit_codec any
unit_keeps = record { sized = λ u. refl; back = λ u rest g. unit_back u rest }

-- ---- a channel of n units

pub units_keep : (n : ℕ) → Keeps (units_codec n) (Padded (idle_unit false) unit_count n any)
units_keep n = padded_keeps unit_codec any unit_keeps (idle_unit false) unit_count n

pub units_padded : (n : ℕ) (c : Channel) → n ≤ unit_count → UnitsTo n c → Padded (idle_unit false) unit_count n any c.units
units_padded n c h g = record { long = omega (arith, g.0); each = all_any (take n c.units); rest = g.1 }

pub channel_keeps : (n : ℕ) → n ≤ unit_count → Keeps (channel_codec n) (UnitsTo n)
channel_keeps n h = record {
  sized = λ c. length-append (channel_row c) ((units_codec n).write c.units) ∙ rw ((units_keep n).sized c.units);
  back = λ c rest g. rw ((units_keep n).back c.units rest (units_padded n c h g));
}

-- ---- a buffer, a file

slot_back : (number : ℕ) (x : Slot) (rest : List ℕ)
    → buffer_from (buffer_row number (slot_kind x) (slot_words x) (full_place x) (full_arrival x).failed (full_arrival x).check ++ rest)
    ≡ record { number = number; slot = x }
slot_back number Empty rest = refl
slot_back number Taken rest = refl
slot_back number (Part n) rest = simp two_back
slot_back number (Full n at a) rest = simp two_back

pub buffer_keeps : Keeps buffer_codec any
buffer_keeps = record { sized = λ b. refl; back = λ b rest g. slot_back b.number b.slot rest }

own_file_back : (f : File) (rest : List ℕ) → file_from (file_row f f.block ++ rest) f.low f.high ≡ f
own_file_back f rest = simp (flag_back, two_back)

file_back : (f : File) (rest : List ℕ) → file_codec.read (file_codec.write f ++ rest) ≡ f
file_back f rest =
    let r = file_row f f.block ++ (buffer_bytes f.low ++ (buffer_bytes f.high ++ rest)) in
    ap (λ (b : Buffer). file_from r b (buffer_codec.read (buffer_bytes f.high ++ rest))) (slot_back f.low.number f.low.slot (buffer_bytes f.high ++ rest))
    ∙ ap (file_from r f.low) (slot_back f.high.number f.high.slot rest)
    ∙ own_file_back f (buffer_bytes f.low ++ (buffer_bytes f.high ++ rest))

pub file_keeps : Keeps file_codec any
file_keeps = record { sized = λ f. refl; back = λ f rest g. file_back f rest }

pub files_keep : Keeps files_codec (Padded closed_file file_count file_count any)
files_keep = padded_keeps file_codec any file_keeps closed_file file_count file_count

-- ---- a state

pub channel_sized : (n : ℕ) (c : Channel) → length ((channel_codec n).write c) ≡ (channel_codec n).size
channel_sized n c = length-append (channel_row c) ((units_codec n).write c.units) ∙ rw ((units_keep n).sized c.units)

pub channels_sized : (n : ℕ) (cs : List Channel) → length ((channels_codec n).write cs) ≡ (channels_codec n).size
channels_sized n cs =
    each_length (channel_codec n) (channel_sized n) (first_of no_channel channel_count cs)
    ∙ ap (λ (m : ℕ). m * (channel_codec n).size) (first_length no_channel channel_count cs)

pub state_sized : (n : ℕ) (s : State) → length ((state_codec n).write s) ≡ state_size n
state_sized n s =
    let cs = (channels_codec n).write s.channels in
    let fs = files_codec.write s.files in
    let rs = (routines_codec n).write s.routines in
    length-append (state_row s) (cs ++ (fs ++ rs))
    ∙ ap (λ (k : ℕ). state_head + k)
    (length-append cs (fs ++ rs) ∙ ap₂ ◌+◌ (channels_sized n s.channels) (length-append fs rs ∙ ap₂ ◌+◌ (files_keep.sized s.files) (routines_sized n s.routines)))

-- the states that are read back
abbrev pub Kept : ℕ → State → Type 0
Kept n s = Whole n s × (s.free ≡ free_mask s.m s.files)

pub whole_channels : (n : ℕ) (s : State) → Whole n s → Padded no_channel channel_count channel_count (UnitsTo n) s.channels
whole_channels n s w =
    let all : take channel_count s.channels ≡ s.channels = take_all channel_count s.channels (omega (arith, w.channels)) in
    let far : length s.channels ≤ channel_count = omega (arith, w.channels) in
    record { long = omega (arith, w.channels); each = rw all w.units; rest = drop_of_length-le s.channels far }

pub whole_files : (n : ℕ) (s : State) → Whole n s → Padded closed_file file_count file_count any s.files
whole_files n s w =
    let far : length s.files ≤ file_count = omega (arith, w.files) in
    record { long = omega (arith, w.files); each = all_any (take file_count s.files); rest = drop_of_length-le s.files far }

whole_routines : (n : ℕ) (s : State) → Whole n s → HasPosts n s.routines
whole_routines n s w = record { pushed = w.pushed; posts = w.posts; units = w.unit_posts }

own_state_back : (s : State) (rest : List ℕ) → state_with (state_row s ++ rest) s.channels s.files s.free s.routines ≡ s
own_state_back s rest = simp (flag_back, two_back)

module _ (n : ℕ) (h : n ≤ unit_count) (s : State) (rest : List ℕ) (g : Kept n s) where
  abbrev cs : List ℕ
  cs = (channels_codec n).write s.channels

  abbrev fs : List ℕ
  fs = files_codec.write s.files

  abbrev rs : List ℕ
  rs = (routines_codec n).write s.routines

  abbrev there : List ℕ
  there = (state_codec n).write s ++ rest

  pieces : (cs ++ (fs ++ rs)) ++ rest ≡ cs ++ (fs ++ (rs ++ rest))
  pieces = append_assoc cs (fs ++ rs) rest ∙ ap (λ (l : List ℕ). cs ++ l) (append_assoc fs rs rest)

  channels_there : (channels_codec n).read (drop state_head there) ≡ s.channels
  channels_there =
      ap (channels_codec n).read pieces
      ∙ (padded_keeps (channel_codec n) (UnitsTo n) (channel_keeps n h) no_channel channel_count channel_count).back s.channels (fs ++ (rs ++ rest)) (whole_channels n s g.0)

  after_channels : drop (state_head + (channels_codec n).size) there ≡ fs ++ (rs ++ rest)
  after_channels =
      sym (drop-drop (channels_codec n).size state_head there)
      ∙ ap (drop (channels_codec n).size) pieces ∙ drop_at cs (fs ++ (rs ++ rest)) (channels_codec n).size (channels_sized n s.channels)

  files_there : files_codec.read (drop (state_head + (channels_codec n).size) there) ≡ s.files
  files_there = ap files_codec.read after_channels ∙ files_keep.back s.files (rs ++ rest) (whole_files n s g.0)

  after_files : drop (state_head + ((channels_codec n).size + files_codec.size)) there ≡ rs ++ rest
  after_files =
      let z : state_head + ((channels_codec n).size + files_codec.size) ≡ state_head + (channels_codec n).size + files_codec.size = omega arith in
      ap (λ (k : ℕ). drop k there) z ∙ sym (drop-drop files_codec.size (state_head + (channels_codec n).size) there)
      ∙ ap (drop files_codec.size) after_channels ∙ drop_at fs (rs ++ rest) files_codec.size (files_keep.sized s.files)

  routines_read : (routines_codec n).read (drop (state_head + ((channels_codec n).size + files_codec.size)) there) ≡ s.routines
  routines_read = ap (routines_codec n).read after_files ∙ (routines_keep n h).back s.routines rest (whole_routines n s g.0)

  kept_back : (state_codec n).read there ≡ s
  kept_back =
      let r = there in
      ap (λ (x : List Channel).
      state_from r x (files_codec.read (drop (state_head + (channels_codec n).size) there)) ((routines_codec n).read (drop (state_head + ((channels_codec n).size + files_codec.size)) there)))
      channels_there
      ∙ ap₂ (λ (x : List File) (y : Routines). state_from r s.channels x y) files_there routines_read
      ∙ ap (λ (k : ℕ). state_with r s.channels s.files k s.routines) (sym g.1)
      ∙ own_state_back s ((cs ++ (fs ++ rs)) ++ rest)

pub state_keeps : (n : ℕ) → n ≤ unit_count → Keeps (state_codec n) (Kept n)
state_keeps n h = record { sized = state_sized n; back = λ s rest g. kept_back n h s rest g }

-- ---- the words of an area

pub words_sized : (area : List ℕ) → length (words_codec.write area) ≡ words_codec.size
words_sized = (padded_keeps word_codec any word_keeps 0 image_words image_words).sized
