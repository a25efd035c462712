-- The image of a whole state with its area of 4,096 words (document 02, M-103), of n units on each channel. Assumes nothing.
use Rattle.std.specs.Prelude.{ℕ, ◌+◌, ◌*◌, ◌-◌, ◌/◌, ◌%◌, ◌<◌, ◌≡◌, Bool, true, false, cond, ◌&&◌, List, [], ◌∷◌, ◌++◌, eqb, length, get_or, take, drop, replicate}
use mir.Val.{bool_byte}
use Rattle.channel.specs.declared.Channel.{Channel}
use Rattle.channel.specs.Units.{unit_count, idle_unit}
use Rattle.file.specs.declared.File.{File}
use Rattle.routines.specs.declared.Posts.{Posts}
use Rattle.routines.specs.declared.Routines.{Routines}
use Rattle.routines.specs.Ranks.{depth}
use Rattle.routines.specs.Posts.{empty_post}
use Rattle.pool.specs.Free.{file_count}
use Rattle.pool.specs.Masks.{free_mask}
use Rattle.state.specs.declared.State.{State}
use Rattle.state.specs.Places.{channel_count, no_channel, before_start}
use Rattle.state_sound.specs.Soundness.{sound}
use Rattle.codec.specs.Codecs.{Codec, padded, All, same}
use Rattle.codec.specs.Rows.{two_bytes, two_at, word_codec}
use Rattle.state_image.specs.Units.{units_codec, channel_codec}
use Rattle.state_image.specs.Files.{files_codec}
use Rattle.state_image.specs.Routines.{routines_codec}
use Rattle.state_image.specs.declared.Image.{Image}

-- ---- a state: its own numbers, the channels, the files, the routines. The free mask follows from the files and has no bytes.

abbrev pub state_head : ℕ
state_head = 4

abbrev pub state_row : State → List ℕ
state_row s =
    s.m
    ∷ bool_byte s.frozen
    ∷ two_bytes s.w
    []

abbrev pub state_with : List ℕ → List Channel → List File → ℕ → Routines → State
state_with bs channels files free routines = record {
  m = get_or bs 0 0;
  w = two_at bs 2;
  frozen = eqb (get_or bs 1 0) 1;
  channels = channels;
  files = files;
  free = free;
  routines = routines;
}

abbrev pub state_from : List ℕ → List Channel → List File → Routines → State
state_from bs channels files routines = state_with bs channels files (free_mask (get_or bs 0 0) files) routines

abbrev pub channels_codec : ℕ → Codec (List Channel)
channels_codec n = padded (channel_codec n) no_channel channel_count channel_count

abbrev pub state_size : ℕ → ℕ
state_size n = state_head + ((channels_codec n).size + (files_codec.size + (routines_codec n).size))

abbrev pub state_codec : ℕ → Codec State
state_codec n = record {
  size = state_size n;
  write = λ s. state_row s ++ ((channels_codec n).write s.channels ++ (files_codec.write s.files ++ (routines_codec n).write s.routines));
  read = λ bs.
      state_from bs ((channels_codec n).read (drop state_head bs)) (files_codec.read (drop (state_head + (channels_codec n).size) bs))
      ((routines_codec n).read (drop (state_head + ((channels_codec n).size + files_codec.size)) bs));
}

-- ---- the image: a state, then the words of its area, eight bytes each, lowest first, of any value

-- "the program's 4,096 area words included"
abbrev pub image_words : ℕ
image_words = 4096

abbrev pub words_codec : Codec (List ℕ)
words_codec = padded word_codec 0 image_words image_words

abbrev pub image_size : ℕ → ℕ
image_size n = state_size n + words_codec.size

unfoldable pub image_of : ℕ → State → List ℕ → List ℕ
image_of n s area = (state_codec n).write s ++ words_codec.write area

-- what bytes stand for
unfoldable pub state_in : ℕ → List ℕ → State
state_in n bs = (state_codec n).read bs

unfoldable pub area_in : ℕ → List ℕ → List ℕ
area_in n bs = words_codec.read (drop (state_size n) bs)

-- bytes are good: they have the size, what they stand for is sound, and its bytes are these very ones. Theorems `good_image` and `image_good` say that
-- they are the image of a sound state, and that every such image is good.
unfoldable pub is_image : ℕ → List ℕ → Bool
is_image n bs = eqb (length bs) (image_size n) && (sound (state_in n bs) && same ((state_codec n).write (state_in n bs)) (take (state_size n) bs))

-- ---- what the calls give, of images with all the units that there are

-- the state before the first fresh start stands for bytes of another size
abbrev pub image_in : List ℕ → Image
image_in bs = record { good = is_image unit_count bs; state = cond (eqb (length bs) (image_size unit_count)) (state_in unit_count bs) before_start }

-- an image and its words fit the lent areas
abbrev pub image_fits : List ℕ → List ℕ → Bool
image_fits bytes area = eqb (length bytes) (image_size unit_count) && eqb (length area) image_words

-- ---- what the statements are about

-- a state as the code has it: five channels of ten units, of which those from n on are not declared, sixteen files, a push-down list of four places, and a post
-- for each unit, empty from n on
abbrev pub UnitsTo : ℕ → Channel → Type 0
UnitsTo n c = (length c.units ≡ unit_count) × (drop n c.units ≡ replicate (unit_count - n) (idle_unit false))

abbrev pub PostsTo : ℕ → Posts → Type 0
PostsTo n p = (length p.units ≡ unit_count) × (drop n p.units ≡ replicate (unit_count - n) empty_post)

pub record Whole (n : ℕ) (s : State) : Type 0 where
  pub channels : length s.channels ≡ channel_count
  pub units : All (UnitsTo n) s.channels
  pub files : length s.files ≡ file_count
  pub pushed : length s.routines.programs.pushed ≡ depth
  pub posts : length s.routines.posts ≡ channel_count
  pub unit_posts : All (PostsTo n) s.routines.posts

-- every number of a list is a byte
abbrev pub AreBytes : List ℕ → Type 0
AreBytes bs = All (λ (b : ℕ). b < 256) bs
