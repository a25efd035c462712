-- What happens to one file, one thing after the other: words in which theorems speak of gets in a row and of the order of blocks. Assumes nothing.
use Rattle.std.specs.Prelude.{ℕ, zero, suc, ◌+◌, Bool, cond, List, [], ◌∷◌, ◌++◌, map}
use Rattle.area.specs.Parts.{part_of}
use Rattle.file.specs.declared.Arrival.{Arrival}
use Rattle.file.specs.declared.Side.{Side}
use Rattle.file.specs.declared.File.{File}
use Rattle.file.specs.Sides.{buffer_at, slot_at, is_side, taken_side, part_side, oldest}
use Rattle.file.specs.Fills.{without_oldest}
use Rattle.file_input.specs.Delivers.{took_buffer, delivered, gave_back, met_mark}
use Rattle.file_output.specs.Puts.{added, after_put}
use Rattle.file_output.specs.Parts.{is_complete, sealed_file}
use Rattle.file_input.specs.Ages.{Block, line}
use Rattle.file_input.specs.declared.Got.{Got}
use Rattle.file_input.specs.Gets.{is_used_up, passed, looked_at, after_found, get_from, got_start, got_words}

-- ---- gets in a row

-- the words of the area that an answer shows
abbrev pub shown : List ℕ → Got → List ℕ
shown xs g = part_of (got_start g) (got_words g) xs

-- the words that j gets in a row show, joined; the file after them
unfoldable pub shown_by : ℕ → List ℕ → ℕ → File → List ℕ
shown_by w xs zero f = []
shown_by w xs (suc j) f = shown xs (get_from w f).got ++ shown_by w xs j (get_from w f).file

unfoldable pub after_gets : ℕ → ℕ → File → File
after_gets w zero f = f
after_gets w (suc j) f = after_gets w j (get_from w f).file

-- ---- all that happens to an open file

pub data Event : Type 0 where
  read giveBack mark get skip put seal send : Event
  deliver : ℕ → Arrival → Event

abbrev pub after : File → Event → File
after f read = took_buffer f
after f (deliver n a) = delivered f n a
after f giveBack = gave_back f
after f mark = met_mark f
after f get = after_found (looked_at f)
after f skip = without_oldest f
after f put = after_put f
after f seal = sealed_file f
after f send = without_oldest f

-- the buffers of the full blocks, the oldest first
abbrev pub buffers_in_line : File → List ℕ
buffers_in_line f = map (λ (b : Block). b.number) (line f)

-- the number of buffer k, if there is one
abbrev pub number_of : File → Side → List ℕ
number_of f k = cond (is_side k) ((buffer_at f k).number ∷ []) []

-- the buffer whose block is delivered or sealed
abbrev pub becomes_full : File → Event → List ℕ
becomes_full f read = []
becomes_full f (deliver n a) = number_of f (taken_side f)
becomes_full f giveBack = []
becomes_full f mark = []
becomes_full f get = []
becomes_full f skip = []
becomes_full f put = cond (is_complete (added f)) (number_of (added f) (part_side (added f))) []
becomes_full f seal = number_of f (part_side f)
becomes_full f send = []

abbrev pub one : Bool → ℕ
one b = cond b 1 0

-- how many blocks become empty
abbrev pub become_empty : File → Event → ℕ
become_empty f read = 0
become_empty f (deliver n a) = 0
become_empty f giveBack = 0
become_empty f mark = 0
become_empty f get = one (is_used_up (slot_at f (oldest f))) + one (is_used_up (slot_at (passed f) (oldest (passed f))))
become_empty f skip = one (is_side (oldest f))
become_empty f put = 0
become_empty f seal = 0
become_empty f send = one (is_side (oldest f))

-- the same of a history
unfoldable pub after_all : File → List Event → File
after_all f [] = f
after_all f (e ∷ h) = after_all (after f e) h

unfoldable pub all_filled : File → List Event → List ℕ
all_filled f [] = []
all_filled f (e ∷ h) = becomes_full f e ++ all_filled (after f e) h

unfoldable pub all_emptied : File → List Event → ℕ
all_emptied f [] = 0
all_emptied f (e ∷ h) = become_empty f e + all_emptied (after f e) h
