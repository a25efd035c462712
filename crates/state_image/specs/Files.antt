-- The bytes of a buffer and of a file: a line for each field. What has no meaning is zero. Assumes nothing.
use Rattle.std.specs.Prelude.{ℕ, ◌+◌, cond, List, [], ◌∷◌, ◌++◌, eqb, get_or, drop}
use mir.Val.{bool_byte}
use Rattle.word.specs.declared.Checked.{Checked}
use Rattle.file.specs.declared.Arrival.{Arrival}
use Rattle.file.specs.declared.Slot.{Slot}
use Rattle.file.specs.declared.Slot.TheVariants.{Empty, Taken, Part, Full}
use Rattle.file.specs.declared.Buffer.{Buffer}
use Rattle.file.specs.declared.File.{File}
use Rattle.file.specs.Slots.{slot_kind, full_place, full_arrival}
use Rattle.file.specs.Sizes.{closed_file}
use Rattle.pool.specs.Free.{file_count}
use Rattle.codec.specs.Codecs.{Codec, padded}
use Rattle.codec.specs.Rows.{two_bytes, four_bytes, two_at, four_at}

-- ---- a buffer: its number, 0 empty, 1 taken, 2 part-filled or 3 full, how many words, and of a full block the place of get and how it arrived

abbrev pub slot_words : Slot → ℕ
slot_words Empty = 0
slot_words Taken = 0
slot_words (Part n) = n
slot_words (Full n at a) = n

abbrev pub buffer_size : ℕ
buffer_size = 20

abbrev pub buffer_row : ℕ → ℕ → ℕ → ℕ → ℕ → Checked → List ℕ
buffer_row number kind words at failed found =
    number
    ∷ kind
    ∷ failed
    ∷ found.error
    ∷ two_bytes words
    (two_bytes at
    (two_bytes found.number
    (two_bytes found.numberread
    (four_bytes found.sum
    (four_bytes found.sumread
    [])))))

abbrev pub buffer_bytes : Buffer → List ℕ
buffer_bytes b =
    buffer_row b.number (slot_kind b.slot) (slot_words b.slot) (full_place b.slot) (full_arrival b.slot).failed (full_arrival b.slot).check

abbrev pub arrival_from : List ℕ → Arrival
arrival_from bs = record {
  failed = get_or bs 2 0;
  check = record {
    error = get_or bs 3 0;
    sum = four_at bs 12;
    number = two_at bs 8;
    sumread = four_at bs 16;
    numberread = two_at bs 10;
  };
}

abbrev pub full_from : List ℕ → Slot
full_from bs = Full (two_at bs 4) (two_at bs 6) (arrival_from bs)

abbrev pub slot_of : ℕ → ℕ → Slot → Slot
slot_of kind words full = cond (eqb kind 0) Empty (cond (eqb kind 1) Taken (cond (eqb kind 2) (Part words) full))

abbrev pub buffer_from : List ℕ → Buffer
buffer_from bs = record { number = get_or bs 0 0; slot = slot_of (get_or bs 1 0) (two_at bs 4) (full_from bs) }

abbrev pub buffer_codec : Codec Buffer
buffer_codec = record { size = buffer_size; write = buffer_bytes; read = buffer_from }

-- ---- a file: its own numbers, then its two buffers

abbrev pub file_head : ℕ
file_head = 15

abbrev pub file_row : File → ℕ → List ℕ
file_row f block =
    bool_byte f.opened
    ∷ f.channel
    ∷ f.unit
    ∷ bool_byte f.output
    ∷ bool_byte f.double
    ∷ bool_byte f.sequence
    ∷ bool_byte f.check
    ∷ bool_byte f.turned
    ∷ bool_byte f.marked
    ∷ two_bytes f.size
    (two_bytes f.rlen
    (two_bytes block
    []))

abbrev pub file_from : List ℕ → Buffer → Buffer → File
file_from bs low high = record {
  opened = eqb (get_or bs 0 0) 1;
  channel = get_or bs 1 0;
  unit = get_or bs 2 0;
  output = eqb (get_or bs 3 0) 1;
  double = eqb (get_or bs 4 0) 1;
  sequence = eqb (get_or bs 5 0) 1;
  check = eqb (get_or bs 6 0) 1;
  size = two_at bs 9;
  rlen = two_at bs 11;
  low = low;
  high = high;
  turned = eqb (get_or bs 7 0) 1;
  block = two_at bs 13;
  marked = eqb (get_or bs 8 0) 1;
}

abbrev pub file_size : ℕ
file_size = file_head + (buffer_size + buffer_size)

abbrev pub file_codec : Codec File
file_codec = record {
  size = file_size;
  write = λ f. file_row f f.block ++ (buffer_bytes f.low ++ buffer_bytes f.high);
  read = λ bs. file_from bs (buffer_codec.read (drop file_head bs)) (buffer_codec.read (drop (file_head + buffer_size) bs));
}

abbrev pub files_codec : Codec (List File)
files_codec = padded file_codec closed_file file_count file_count
