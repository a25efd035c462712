-- Output (document 01, "Files and buffers"): the part-filled block, and seal, on one file. Assumes nothing.
use Rattle.std.specs.Prelude.{ℕ, ◌+◌, Bool, ltb}
use Rattle.file.specs.declared.File.{File}
use Rattle.file.specs.Slots.{part_words}
use Rattle.file.specs.Sides.{slot_at, start_at, is_side, part_side}
use Rattle.file.specs.Arrivals.{no_arrival}
use Rattle.file.specs.Fills.{filled_at}

-- refusal 9, ".. Seal: no part-filled buffer"
abbrev pub has_part : File → Bool
has_part f = is_side (part_side f)

-- where the part-filled block begins in the area, and how many words it has
unfoldable pub part_start : ℕ → File → ℕ
part_start w f = start_at f w (part_side f)

unfoldable pub part_length : File → ℕ
part_length f = part_words (slot_at f (part_side f))

-- "less than r then remains of B"
unfoldable pub is_complete : File → Bool
is_complete f = ltb f.size (part_length f + f.rlen)

-- "the block is sealed ..: it gets its check word and is full"; nothing is checked of it
unfoldable pub sealed_file : File → File
sealed_file f = filled_at f (part_side f) (part_length f) no_arrival
