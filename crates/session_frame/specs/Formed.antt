-- The well-formed lines, said without decoding one. Assumes nothing.
use Rattle.std.specs.Prelude.{◌≡◌, true, List, ℕ, ◌+◌, ◌*◌, ◌≤◌, length}
use Rattle.area.specs.Lists.{all_of}
use Rattle.channel_outcomes.specs.Rules.{redundancy}
use Rattle.session_frame.specs.Digits.{is_digit, bytes_of}
use Rattle.session_frame.specs.Fields.{byte_at}
use Rattle.session_frame.specs.declared.Frame.TheVariants.{Malformed}
use Rattle.session_frame.specs.Frames.{longest, plain_ask, naming_ask, report_head, length_head, frame_of}

-- the kind that a line's first byte names, and how many bytes a line of that kind has; a report's outcome is its fourth byte
pub data Kind (outcome : ℕ) : ℕ → ℕ → Type 0 where
  fresh : Kind outcome 0 14
  opens : Kind outcome 1 9
  close : Kind outcome 2 2
  ask : Kind outcome 3 plain_ask
  naming : Kind outcome 3 naming_ask
  report : (words : ℕ) → Kind outcome 4 (report_head + 5 * words)
  measured : (words : ℕ) → outcome ≡ redundancy → Kind outcome 4 (length_head + 5 * words)
  get : Kind outcome 5 2
  put : (words : ℕ) → Kind outcome 6 (2 + 5 * words)
  seal : Kind outcome 7 2
  skip : Kind outcome 8 2
  freeze : Kind outcome 9 1
  thaw : Kind outcome 10 1
  returning : Kind outcome 11 1
  running : Kind outcome 12 1

-- a line that is a frame
pub record WellFormed (line : List ℕ) : Type 0 where
  pub pairs : ℕ
  pub even : length line ≡ 2 * pairs
  pub short : length line ≤ longest
  pub digits : all_of is_digit line ≡ true
  pub kind : Kind (byte_at (bytes_of line) 3) (byte_at (bytes_of line) 0) pairs

-- a line is decoded to a call: law `accepted_exactly` says that this is so of the well-formed lines and of no others
unfoldable pub Accepted : List ℕ → Type 0
Accepted line = frame_of line ≡ Malformed → ⊥
