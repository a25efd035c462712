-- Which of a file's one or two buffers is meant. Assumes nothing.
use Rattle.std.specs.Prelude.{ℕ, ◌*◌, Bool, true, false, not, cond, ◌&&◌}
use Rattle.file.specs.declared.Slot.{Slot}
use Rattle.file.specs.declared.Slot.TheVariants.{Empty}
use Rattle.file.specs.declared.Side.{Side}
use Rattle.file.specs.declared.Side.TheVariants.{Low, High, Neither}
use Rattle.file.specs.declared.Buffer.{Buffer}
use Rattle.file.specs.declared.File.{File}
use Rattle.file.specs.Slots.{is_empty, is_taken, is_part, is_full}

-- a buffer that is none: its number has no meaning
abbrev pub no_buffer : Buffer
no_buffer = record { number = 0; slot = Empty }

abbrev pub buffer_at : File → Side → Buffer
buffer_at f Low = f.low
buffer_at f High = f.high
buffer_at f Neither = no_buffer

abbrev pub slot_at : File → Side → Slot
slot_at f k = (buffer_at f k).slot

-- "Buffer i is words i×W up to (i+1)×W."
abbrev pub start_at : File → ℕ → Side → ℕ
start_at f w k = (buffer_at f k).number * w

abbrev pub is_side : Side → Bool
is_side Low = true
is_side High = true
is_side Neither = false

-- the lower buffer of those that pass, by whether each does
abbrev pub lower : Bool → Bool → Side
lower low high = cond low Low (cond high High Neither)

-- the lowest empty buffer; a single file has no second one
unfoldable pub empty_side : File → Side
empty_side f = lower (is_empty f.low.slot) (f.double && is_empty f.high.slot)

-- the buffer that a read request has taken
unfoldable pub taken_side : File → Side
taken_side f = lower (is_taken f.low.slot) (is_taken f.high.slot)

-- the part-filled buffer
unfoldable pub part_side : File → Side
part_side f = lower (is_part f.low.slot) (is_part f.high.slot)

-- the buffer with the oldest full block; of two full blocks the one in the high buffer is the older if they are turned
unfoldable pub oldest : File → Side
oldest f = lower (is_full f.low.slot && not (is_full f.high.slot && f.turned)) (is_full f.high.slot)
