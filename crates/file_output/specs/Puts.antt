-- Output (document 01, "Files and buffers"): put, on one file. Assumes nothing.
use Rattle.std.specs.Prelude.{ℕ, ◌+◌, Bool, false, cond, leb}
use Rattle.file.specs.declared.Slot.TheVariants.{Part}
use Rattle.file.specs.declared.Side.{Side}
use Rattle.file.specs.declared.File.{File}
use Rattle.file.specs.Slots.{part_words}
use Rattle.file.specs.Sides.{slot_at, start_at, is_side, empty_side, part_side}
use Rattle.file.specs.Fills.{with_slot}
use Rattle.file_output.specs.Parts.{is_complete, sealed_file}

-- "adds them to the part-filled buffer, or to the lowest empty one"
unfoldable pub put_side : File → Side
put_side f = cond (is_side (part_side f)) (part_side f) (empty_side f)

-- refusal 9, "Put: no part-filled or empty buffer."
abbrev pub has_room : File → Bool
has_room f = is_side (put_side f)

-- where in the area the words of a put go
unfoldable pub put_start : ℕ → File → ℕ
put_start w f = start_at f w (put_side f) + part_words (slot_at f (put_side f))

-- how many words the buffer has after a put
abbrev pub words_after : File → ℕ
words_after f = part_words (slot_at f (put_side f)) + f.rlen

-- "Put carries exactly r words .. and adds them": they stay within B, in a sound file always
unfoldable pub added : File → File
added f = cond (leb (words_after f) f.size) (with_slot f (put_side f) (Part (words_after f)) false f.block) f

-- "If less than r then remains of B, the block is sealed at once"
unfoldable pub after_put : File → File
after_put f = cond (is_complete (added f)) (sealed_file (added f)) (added f)
