-- What a line says: of a list, an event; of a proposal, a row. Assumes nothing.
use Rattle.std.specs.Prelude.{cond, ◌&&◌, List, [], map, ℕ, ◌+◌, ◌*◌, min, eqb, leb, get_or, take, drop}
use Rattle.area.specs.Lists.{count_of}
use Rattle.session_line.specs.Lines.{lines_of}
use Rattle.planner_text.specs.Fields.{first_to, rest_to, blank, same_bytes, number_of, open_word, close_word, single_word, double_word, size_word}

-- ---- the fields of a line: its first, second and third

abbrev pub field1 : List ℕ → List ℕ
field1 line = first_to 32 line

abbrev pub field2 : List ℕ → List ℕ
field2 line = first_to 32 (rest_to 32 line)

abbrev pub field3 : List ℕ → List ℕ
field3 line = first_to 32 (rest_to 32 (rest_to 32 line))

-- ---- "lines `open F single`, `open F double`, `close F`, decimal, one blank": the planner's event, or 255, which is none

unfoldable pub close_event : ℕ → List ℕ → ℕ
close_event file word = cond (same_bytes word close_word) (128 + file) 255

unfoldable pub open_event : ℕ → List ℕ → List ℕ → ℕ
open_event file word kind =
    cond (same_bytes word open_word) (cond (same_bytes kind single_word) file (cond (same_bytes kind double_word) (64 + file) 255)) 255

unfoldable pub event_of : List ℕ → ℕ
event_of line =
    cond (leb 64 (number_of (field2 line))) 255
    (cond (eqb (count_of blank line) 1) (close_event (number_of (field2 line)) (field1 line))
    (cond (eqb (count_of blank line) 2) (open_event (number_of (field2 line)) (field1 line) (field3 line))
    255))

-- "the first line is the limit": 0, which no limit is, if it is no number
unfoldable pub byte_or0 : ℕ → ℕ
byte_or0 n = cond (leb 256 n) 0 n

unfoldable pub limit_of : List ℕ → ℕ
limit_of line = byte_or0 (number_of line)

-- ---- "`size N`, then for each opening in order `F B` or `F B C`"

unfoldable pub size_of : List ℕ → ℕ
size_of line = cond (same_bytes (field1 line) size_word && eqb (count_of blank line) 1) (byte_or0 (number_of (field2 line))) 0

-- a row of the planner: count of buffers, file, second and first buffer, a byte each
unfoldable pub packed : ℕ → ℕ → ℕ → ℕ → ℕ
packed count file second first = min count 255 * 16777216 + min file 255 * 65536 + min second 255 * 256 + min first 255

-- a line of which one of the first three fields is no number is the row of file 255, which no list has
unfoldable pub row_of : List ℕ → ℕ
row_of line =
    let n = count_of blank line in
    cond (leb 256 (number_of (field1 line))) 16711680
    (cond (leb 1 n && leb 256 (number_of (field2 line))) 16711680
    (cond (leb 2 n && leb 256 (number_of (field3 line))) 16711680
    (packed n (number_of (field1 line)) (number_of (field3 line)) (number_of (field2 line)))))

-- ---- whole texts: the first line, and what is said by the others

abbrev pub first_line : List ℕ → List ℕ
first_line text = get_or (lines_of text) 0 []

-- "Each line, an empty one too"; as many as the room takes
unfoldable pub events_in : ℕ → List ℕ → List ℕ
events_in room text = take room (map event_of (drop 1 (lines_of text)))

unfoldable pub rows_in : ℕ → List ℕ → List ℕ
rows_in room text = take room (map row_of (drop 1 (lines_of text)))
