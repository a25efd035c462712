-- The frames of a session (document 01, "The session program"). Assumes nothing.
use Rattle.std.specs.Prelude.{Bool, true, cond, ◌&&◌, List, ℕ, ◌-◌, ◌/◌, ◌%◌, ltb, leb, eqb, length, take, drop}
use Rattle.area.specs.Lists.{all_of}
use Rattle.channel_outcomes.specs.Rules.{redundancy, no_length}
use Rattle.routines.specs.declared.Naming.{Naming}
use Rattle.routines.specs.Posts.{no_naming}
use Rattle.session_frame.specs.Digits.{is_digit, bytes_of}
use Rattle.session_frame.specs.Fields.{byte_at, size_at, words_of}
use Rattle.session_frame.specs.declared.ReportFrame.{ReportFrame}
use Rattle.session_frame.specs.declared.Frame.{Frame}
use Rattle.session_frame.specs.declared.Frame.TheVariants.{Malformed, Fresh, Open, Close, Ask, Report, Get, Put, Seal, Skip, Freeze, Thaw, Return, Running}

-- "Over 10,248 digits is malformed."; "Lines then run to 10,252 digits."
abbrev pub longest : ℕ
longest = 10252

-- "One frame a line, pairs of upper-case hexadecimal digits"
unfoldable pub is_text : List ℕ → Bool
is_text line = leb (length line) longest && (eqb (length line % 2) 0 && all_of is_digit line)

-- ---- a frame of n bytes; the numbers are those of its bytes b

-- a frame of exactly this size
unfoldable pub sized : ℕ → ℕ → Frame → Frame
sized n size f = cond (eqb n size) f Malformed

-- so many bytes, and whole words of five bytes after them
unfoldable pub worded : ℕ → ℕ → Frame → Frame
worded n head f = cond (ltb n head) Malformed (cond (eqb ((n - head) % 5) 0) f Malformed)

unfoldable pub word_count : ℕ → ℕ → ℕ
word_count n head = (n - head) / 5

-- "00 m W and five two-byte unit masks (bit u for unit u)"
unfoldable pub fresh_from : ℕ → List ℕ → Frame
fresh_from n b =
    sized n 14
    (Fresh (record {
      m = byte_at b 1;
      w = size_at b 2;
      masks = record { a = size_at b 4; b = size_at b 6; c = size_at b 8; d = size_at b 10; e = size_at b 12 };
    }))

-- "01 file channel unit flags B r"
unfoldable pub open_from : ℕ → List ℕ → Frame
open_from n b =
    sized n 9
    (Open (record { file = byte_at b 1; channel = byte_at b 2; unit = byte_at b 3; flags = byte_at b 4; size = size_at b 5; rlen = size_at b 7 }))

-- "03 file operation(0 read, 1 write, 2 mark) priority(0/1)", with what it says of a routine
unfoldable pub ask_with : Naming → List ℕ → Frame
ask_with naming b = Ask (record { file = byte_at b 1; op = byte_at b 2; priority = byte_at b 3; naming = naming })

-- "An ask may name a routine and a priority" (document 02, M-110): two bytes more, the routine's number and its priority
abbrev pub named_as : ℕ → ℕ → Naming
named_as routine level = record { given = true; routine = routine; level = level }

unfoldable pub naming_in : List ℕ → Naming
naming_in b = named_as (byte_at b 4) (byte_at b 5)

abbrev pub plain_ask : ℕ
plain_ask = 4

abbrev pub naming_ask : ℕ
naming_ask = 6

unfoldable pub ask_from : ℕ → List ℕ → Frame
ask_from n b = cond (eqb n naming_ask) (ask_with (naming_in b) b) (sized n plain_ask (ask_with no_naming b))

-- the bytes of a report ahead of its words: "04 channel unit outcome", and with a length "two bytes ahead of any words"
abbrev pub report_head : ℕ
report_head = 4

abbrev pub length_head : ℕ
length_head = 6

-- "shown by the bytes left over from fives"
unfoldable pub shows_length : ℕ → Bool
shows_length n = eqb ((n - report_head) % 5) 2

-- "04 channel unit outcome words", the words after `head` bytes
unfoldable pub report_with : ℕ → ℕ → ℕ → List ℕ → Frame
report_with head len n b =
    worded n head (Report (record { channel = byte_at b 1; unit = byte_at b 2; outcome = byte_at b 3; length = len; words = word_count n head }))

-- "A read's redundancy report may carry a length in words, two bytes ahead of any words, shown by the bytes left over from fives"
unfoldable pub report_from : ℕ → List ℕ → Frame
report_from n b =
    cond (shows_length n) (cond (eqb (byte_at b 3) redundancy) (report_with length_head (size_at b 4) n b) Malformed) (report_with report_head no_length n b)

-- how many bytes of a report's line stand ahead of its words
unfoldable pub words_at : ReportFrame → ℕ
words_at q = cond (eqb q.length no_length) report_head length_head

-- "06 put file words"
unfoldable pub put_from : ℕ → List ℕ → Frame
put_from n b = worded n 2 (Put (record { file = byte_at b 1; words = word_count n 2 }))

-- "00 .. · 01 .. · 02 close file · 03 .. · 04 .. · 05 get file · 06 .. · 07 seal file · 08 skip file · 09 freeze · 0A thaw."; and 0B return, 0C what
-- runs (document 02, M-110)
unfoldable pub kind_by : ℕ → ℕ → List ℕ → Frame
kind_by kind n b =
    cond (eqb kind 0) (fresh_from n b)
    (cond (eqb kind 1) (open_from n b)
    (cond (eqb kind 2) (sized n 2 (Close (byte_at b 1)))
    (cond (eqb kind 3) (ask_from n b)
    (cond (eqb kind 4) (report_from n b)
    (cond (eqb kind 5) (sized n 2 (Get (byte_at b 1)))
    (cond (eqb kind 6) (put_from n b)
    (cond (eqb kind 7) (sized n 2 (Seal (byte_at b 1)))
    (cond (eqb kind 8) (sized n 2 (Skip (byte_at b 1)))
    (cond (eqb kind 9) (sized n 1 Freeze)
    (cond (eqb kind 10) (sized n 1 Thaw)
    (cond (eqb kind 11) (sized n 1 Return)
    (cond (eqb kind 12) (sized n 1 Running) Malformed))))))))))))

unfoldable pub kind_of : ℕ → List ℕ → Frame
kind_of n b = kind_by (byte_at b 0) n b

-- the frame that a line is
unfoldable pub frame_of : List ℕ → Frame
frame_of line = cond (is_text line) (kind_of (length (bytes_of line)) (bytes_of line)) Malformed

-- ---- the words of a line from byte `start` on, at most as many as a room takes

unfoldable pub words_from : List ℕ → ℕ → ℕ → List ℕ
words_from line start room = take room (words_of (drop start (bytes_of line)))
