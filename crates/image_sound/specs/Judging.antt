-- How the bytes of an image are judged where they lie: that they are those of what they stand for, and that this is as it may be. Assumes nothing.
use Rattle.std.specs.Prelude.{ℕ, ◌+◌, ◌*◌, ◌≡◌, Bool, not, cond, ◌&&◌, ◌||◌, List, eqb, leb, ltb, get_or, drop}
use Rattle.channel.specs.declared.Channel.{Channel}
use Rattle.channel.specs.Units.{unit_count, declared_at}
use Rattle.file.specs.declared.Slot.{Slot}
use Rattle.file.specs.declared.File.{File}
use Rattle.file.specs.Slots.{slot_kind, full_arrival}
use Rattle.file.specs.Arrivals.{is_arrival}
use Rattle.state_sound.specs.Files.{open_sound, full_fits, part_fits, place_fits, is_unread}
use Rattle.state_sound.specs.Soundness.{channel_of, request_of}
use Rattle.state_sound.specs.Judged.{file_ready}
use Rattle.codec.specs.Codecs.{is_tight}
use Rattle.codec.specs.Rows.{two_at, four_at, eight_of}
use Rattle.state_image.specs.Units.{unit_size, channel_head, channel_codec}
use Rattle.state_image.specs.Images.{state_head, channels_codec}
use Rattle.state_image.specs.Files.{buffer_codec, file_codec, arrival_from}

-- ---- a buffer

-- no bytes besides its number, its kind and its words
abbrev pub has_only_words : List ℕ → Bool
has_only_words bs = eqb (two_at bs 2) 0 && (eqb (two_at bs 6) 0 && (eqb (eight_of (drop 8 bs)) 0 && eqb (four_at bs 16) 0))

-- a full block that was read: how it arrived, and the place of get in it
abbrev pub full_reads : Bool → Bool → ℕ → List ℕ → Bool
full_reads sequence check words bs =
    is_arrival sequence check (arrival_from bs) && (leb (two_at bs 6) words && (eqb (arrival_from bs).failed 0 || eqb (two_at bs 6) 0))

-- what a buffer of a file may hold, by the file's choices, its direction and its sizes
abbrev pub slot_right : Bool → Bool → Bool → ℕ → ℕ → Slot → Bool
slot_right sequence check output size rlen x =
    is_arrival sequence check (full_arrival x) && (full_fits size x && (part_fits size rlen x && (place_fits x && (not output || is_unread x))))

-- what it holds, 0 empty, 1 taken, 2 part-filled, 3 full, where its bytes are its own and it may hold that; else 4
unfoldable pub slot_judged : Bool → Bool → Bool → ℕ → ℕ → List ℕ → ℕ
slot_judged sequence check output size rlen bs =
    cond (is_tight buffer_codec bs && slot_right sequence check output size rlen (buffer_codec.read bs).slot) (slot_kind (buffer_codec.read bs).slot) 4

-- ---- an open file

-- its truths are 0 or 1
abbrev pub flags_tight : List ℕ → Bool
flags_tight bs =
    leb (get_or bs 0 0) 1 && (leb (get_or bs 3 0) 1 && (leb (get_or bs 4 0) 1 && (leb (get_or bs 5 0) 1 && (leb (get_or bs 6 0) 1 && (leb (get_or bs 7 0) 1 && leb (get_or bs 8 0) 1)))))

-- by the kinds of what its buffers hold: one at most is taken, and none of an output file; one at most is part-filled, and only of an output file; the order of
-- two blocks is told of two full ones
abbrev pub kinds_right : ℕ → ℕ → Bool → Bool → Bool
kinds_right low high output turned =
    (not (eqb low 1 && eqb high 1) && (not output || not (eqb low 1 || eqb high 1)))
    && ((not (eqb low 2 && eqb high 2) && (output || not (eqb low 2 || eqb high 2))) && (not turned || (eqb low 3 && eqb high 3)))

-- the second buffer of a double file is one of m, above the first; a single file has none
abbrev pub second_right : ℕ → Bool → ℕ → ℕ → ℕ → Bool
second_right m double first second high = cond double (ltb first second && ltb second m) (eqb second 0 && eqb high 0)

-- its bytes are its own, and it is open and sound in a pool of m buffers of w words
unfoldable pub is_good_file : ℕ → ℕ → List ℕ → Bool
is_good_file m w bs = is_tight file_codec bs && ((file_codec.read bs).opened && open_sound m w (file_codec.read bs))

-- ---- a file beside its unit

-- the channels that bytes stand for, and where the bytes of a unit stand
abbrev pub channels_in : List ℕ → List Channel
channels_in bs = (channels_codec unit_count).read (drop state_head bs)

abbrev pub unit_place : ℕ → ℕ → ℕ
unit_place c u = state_head + c * (channel_codec unit_count).size + (channel_head + u * unit_size)

-- the file is ready for what is requested of its unit, by the bytes of the unit's standing and operation and by the kinds of what its buffers hold
abbrev pub ready_by : ℕ → ℕ → Bool → ℕ → ℕ → Bool
ready_by kind op output low high =
    (eqb kind 0 || ((eqb op 0 && not output) || (not (eqb op 0) && output)))
    && (((not (not (eqb kind 0) && eqb op 0) || (eqb low 1 || eqb high 1)) && (((not (eqb kind 0) && eqb op 0) || not (eqb low 1 || eqb high 1)) && not (eqb low 1 && eqb high 1)))
    && (not (not (eqb kind 0) && eqb op 1) || (eqb low 3 || eqb high 3)))

-- a declared unit, and ready for its request
unfoldable pub fits_unit : List Channel → File → Bool
fits_unit cs f = declared_at (channel_of cs f) f.unit && file_ready (request_of cs f) f

-- the kinds of what the file's buffers hold stand in their bytes
abbrev pub KindsThere : List ℕ → Type 0
KindsThere bs = (get_or bs 16 0 ≡ slot_kind (file_codec.read bs).low.slot) × (get_or bs 36 0 ≡ slot_kind (file_codec.read bs).high.slot)
