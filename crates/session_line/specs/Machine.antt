-- The machine that puts lines together: a line by value, and a room that holds its characters. Assumes nothing.
use Rattle.std.specs.Prelude.{◌≡◌, Bool, true, false, not, cond, ◌||◌, List, ℕ, ◌+◌, ◌≤◌, eqb, ltb, length, take}
use Rattle.area.specs.Parts.{paste_fits, pasted_in}
use Rattle.session_line.specs.declared.Line.{Line}
use Rattle.session_line.specs.declared.Step.{Step}
use Rattle.session_line.specs.Lines.{Held, Text, Overlong, clip, feed_at}

abbrev pub no_line : Line
no_line = record { filled = 0; overlong = false }

abbrev pub overlong_line : Line
overlong_line = record { filled = 0; overlong = true }

abbrev pub has_begun : Line → Bool
has_begun line = line.overlong || not (eqb line.filled 0)

-- what the line and its room hold
unfoldable pub held_of : Line → List ℕ → Held
held_of line room = cond line.overlong Overlong (Text (take line.filled room))

-- l is the line that has begun, whole if the room takes it
pub record Holds (line : Line) (room l : List ℕ) : Type 0 where
  pub held : held_of line room ≡ clip (length room) l
  pub within : line.filled ≤ length room

-- ---- the line and the room after a piece without a line feed

unfoldable pub filled_in : Line → ℕ → ℕ
filled_in line room = cond (ltb room line.filled) room line.filled

unfoldable pub grown_line : Line → List ℕ → List ℕ → Line
grown_line line piece room =
    let filled = filled_in line (length room) in
    cond line.overlong overlong_line
    (cond (paste_fits filled piece room) (record { filled = filled + length piece; overlong = false }) overlong_line)

unfoldable pub grown_room : Line → List ℕ → List ℕ → List ℕ
grown_room line piece room = cond line.overlong room (pasted_in (filled_in line (length room)) piece room)

-- ---- the same after the bytes up to the first line feed of xs, which stand from `at` on in their part

unfoldable pub step_of : Line → List ℕ → ℕ → List ℕ → Step
step_of line xs at room =
    let n = feed_at xs in
    record {
      line = grown_line line (take n xs) room;
      at = cond (ltb n (length xs)) (at + n + 1) (at + n);
      ended = ltb n (length xs);
    }

unfoldable pub room_of : Line → List ℕ → List ℕ → List ℕ
room_of line xs room = grown_room line (take (feed_at xs) xs) room
