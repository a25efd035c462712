-- What one buffer of an open file holds. Assumes nothing.
use Rattle.std.specs.Prelude.{ℕ, Bool, true, false}
use Rattle.file.specs.declared.Arrival.{Arrival}
use Rattle.file.specs.Arrivals.{no_arrival, error_due}
use Rattle.file.specs.declared.Slot.{Slot}
use Rattle.file.specs.declared.Slot.TheVariants.{Empty, Taken, Part, Full}

-- the kinds in order: empty, taken, part-filled, full
abbrev pub slot_kind : Slot → ℕ
slot_kind Empty = 0
slot_kind Taken = 1
slot_kind (Part n) = 2
slot_kind (Full n at a) = 3

abbrev pub is_empty : Slot → Bool
is_empty Empty = true
is_empty Taken = false
is_empty (Part n) = false
is_empty (Full n at a) = false

abbrev pub is_taken : Slot → Bool
is_taken Empty = false
is_taken Taken = true
is_taken (Part n) = false
is_taken (Full n at a) = false

abbrev pub is_part : Slot → Bool
is_part Empty = false
is_part Taken = false
is_part (Part n) = true
is_part (Full n at a) = false

abbrev pub is_full : Slot → Bool
is_full Empty = false
is_full Taken = false
is_full (Part n) = false
is_full (Full n at a) = true

-- the words of a part-filled buffer; 0 of any other
abbrev pub part_words : Slot → ℕ
part_words Empty = 0
part_words Taken = 0
part_words (Part n) = n
part_words (Full n at a) = 0

-- the data words of a full block; 0 of any other slot
abbrev pub full_words : Slot → ℕ
full_words Empty = 0
full_words Taken = 0
full_words (Part n) = 0
full_words (Full n at a) = n

-- the place of get in a full block: how many of its words have been given
abbrev pub full_place : Slot → ℕ
full_place Empty = 0
full_place Taken = 0
full_place (Part n) = 0
full_place (Full n at a) = at

-- how a full block arrived, its errors not told yet; all zero where no block did
abbrev pub full_arrival : Slot → Arrival
full_arrival Empty = no_arrival
full_arrival Taken = no_arrival
full_arrival (Part n) = no_arrival
full_arrival (Full n at a) = a

-- the error of a full block that get has to tell next; 0 for none
abbrev pub full_error : Slot → ℕ
full_error x = error_due (full_arrival x)
