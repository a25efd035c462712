-- Get (document 01, "Files and buffers", Input), on one file. Assumes nothing.
use Rattle.std.specs.Prelude.{ℕ, ◌+◌, ◌-◌, Bool, false, cond, leb, ltb}
use Rattle.word.specs.declared.Checked.{Checked}
use Rattle.word.specs.Checks.{unchecked}
use Rattle.file.specs.Arrivals.{error_told, after_told}
use Rattle.file.specs.declared.Slot.{Slot}
use Rattle.file.specs.declared.Slot.TheVariants.{Empty, Taken, Part, Full}
use Rattle.file.specs.declared.File.{File}
use Rattle.file.specs.Slots.{full_words, full_place, full_arrival, full_error}
use Rattle.file.specs.Sides.{slot_at, start_at, is_side, oldest}
use Rattle.file.specs.Fills.{with_slot, without_oldest}
use Rattle.file_input.specs.declared.Got.{Got}
use Rattle.file_input.specs.declared.Got.TheVariants.{Record, Leftover, Error, End, Nothing}
use Rattle.file_input.specs.declared.Finding.{Finding}

-- how many words of a full block have not been given
abbrev pub words_left : Slot → ℕ
words_left x = full_words x - full_place x

-- a full block of which nothing remains
abbrev pub is_used_up : Slot → Bool
is_used_up Empty = false
is_used_up Taken = false
is_used_up (Part n) = false
is_used_up (Full n at a) = leb n at

-- "If that block was used up by an earlier get, it first becomes empty and the next oldest is looked at."
unfoldable pub passed : File → File
passed f = cond (is_used_up (slot_at f (oldest f))) (without_oldest f) f

-- the same is asked of the next oldest, and there are two buffers at most
unfoldable pub looked_at : File → File
looked_at f = passed (passed f)

-- "a record (the next r words ..); a short leftover (fewer than r words remain, all given)"; none while an error is to be told
abbrev pub words_given : ℕ → Slot → ℕ
words_given r x = cond (ltb 0 (full_error x)) 0 (cond (leb r (words_left x)) r (words_left x))

-- the block after it: the place past the words, the error told, the read error before the check error; what was found stays
abbrev pub slot_after : ℕ → Slot → Slot
slot_after r x = Full (full_words x) (full_place x + words_given r x) (after_told (full_arrival x))

-- "a record ..; a short leftover ..; the block's check error, once, before its first record", and "error 4 or 10, once, before any check error"
-- (document 02, M-101): from a full block that begins at word `start`
abbrev pub found_in : ℕ → ℕ → Slot → Got
found_in start r x =
    cond (ltb 0 (full_error x)) (Error (error_told (full_arrival x)))
    (cond (leb r (words_left x)) (Record (start + full_place x) r) (Leftover (start + full_place x) (words_left x)))

-- "*end* (no full block, mark read); *nothing yet*"
abbrev pub found_none : Bool → Got
found_none marked = cond marked End Nothing

-- "The answer is then one of": in a file that has been looked at
unfoldable pub found : ℕ → File → Got
found w f = cond (is_side (oldest f)) (found_in (start_at f w (oldest f)) f.rlen (slot_at f (oldest f))) (found_none f.marked)

unfoldable pub after_found : File → File
after_found f = with_slot f (oldest f) (slot_after f.rlen (slot_at f (oldest f))) f.turned f.block

unfoldable pub after_get : File → File
after_get f = after_found (looked_at f)

-- "Get looks at the oldest full block.": its answer, and the file after it
unfoldable pub get_from : ℕ → File → Finding
get_from w f = record { got = found w (looked_at f); file = after_found (looked_at f) }

-- "Get adds 00 and words, 01 nothing yet, 02 end, 03 and the check error, 04 and a leftover."; a read error is told as a check error is
abbrev pub got_number : Got → ℕ
got_number (Record start n) = 0
got_number Nothing = 1
got_number End = 2
got_number (Error c) = 3
got_number (Leftover start n) = 4

-- "get's answer 03 carr[ies] them as found at delivery, after the error number"; zero with any other answer
abbrev pub got_found : Got → Checked
got_found (Record start n) = unchecked
got_found Nothing = unchecked
got_found End = unchecked
got_found (Error c) = c
got_found (Leftover start n) = unchecked

-- the words that an answer shows: where in the area they begin, and how many
abbrev pub got_start : Got → ℕ
got_start (Record start n) = start
got_start Nothing = 0
got_start End = 0
got_start (Error c) = 0
got_start (Leftover start n) = start

abbrev pub got_words : Got → ℕ
got_words (Record start n) = n
got_words Nothing = 0
got_words End = 0
got_words (Error c) = 0
got_words (Leftover start n) = n
