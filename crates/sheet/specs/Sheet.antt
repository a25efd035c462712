-- The adjudication sheet (document 02, M-113): "takes a recorded session and its answers, plays the session afresh, and names the first frame whose
-- answer differs. Then for every accepted request it prints .." Assumes nothing.
use Rattle.std.specs.Prelude.{ℕ, zero, suc, ◌+◌, ◌-◌, ◌≡◌, Bool, true, false, cond, ◌&&◌, List, [], ◌∷◌, eqb, ltb, length, take, replicate}
use Rattle.std.proofs.Math.Option.{Option, none, some}
use Rattle.session_line.specs.Lines.{lines_of}
use Rattle.session_frame.specs.Frames.{frame_of}
use Rattle.state.specs.declared.State.{State}
use Rattle.state.specs.Places.{before_start}
use Rattle.session_reply.specs.Replies.{answer_to, text_of}
use Rattle.session.specs.Session.{area_words}
use Rattle.sheet.specs.declared.Event.{Event}
use Rattle.sheet.specs.declared.Row.{Row}
use Rattle.sheet.specs.Events.{event_of}
use Rattle.sheet.specs.Rows.{most_listed, next, requests}

-- ---- "plays the session afresh": each line against the state and the area that the one before left

-- a text without its last character, the line feed
abbrev pub line_in : List ℕ → List ℕ
line_in text = take (length text - 1) text

-- the answer lines, without their line feeds
unfoldable pub answers_of : State → List ℕ → List (List ℕ) → List (List ℕ)
answers_of s area [] = []
answers_of s area (l ∷ ls) = let r = answer_to s area l in line_in (text_of r) ∷ answers_of r.state r.area ls

-- what each line comes to for the sheet
unfoldable pub events_of : State → List ℕ → List (List ℕ) → List Event
events_of s area [] = []
events_of s area (l ∷ ls) = let r = answer_to s area l in event_of s (frame_of l) (text_of r) ∷ events_of r.state r.area ls

-- ---- "names the first frame whose answer differs"

unfoldable pub same_bytes : List ℕ → List ℕ → Bool
same_bytes [] [] = true
same_bytes [] (b ∷ bs) = false
same_bytes (a ∷ rest) [] = false
same_bytes (a ∷ rest) (b ∷ bs) = eqb a b && same_bytes rest bs

-- of answers and recorded lines from frame k on: "The first line is the differing frame or 0; a missing or extra answer line differs at its number."
unfoldable pub first_differs : ℕ → List (List ℕ) → List (List ℕ) → ℕ
first_differs k [] [] = 0
first_differs k [] (r ∷ rs) = k
first_differs k (a ∷ rest) [] = k
first_differs k (a ∷ rest) (r ∷ rs) = cond (same_bytes a r) (first_differs (next k) rest rs) k

-- the line in place i, if there is one
unfoldable pub line_at : ℕ → List (List ℕ) → Option (List ℕ)
line_at i [] = none
line_at zero (l ∷ ls) = some l
line_at (suc i) (l ∷ ls) = line_at i ls

-- what the number says, of frames that count from k: all lines are the same; or those before are, and that one differs, is missing or is extra
pub data Differs (k : ℕ) (answers recorded : List (List ℕ)) : ℕ → Type 0 where
  agree : answers ≡ recorded → Differs k answers recorded 0
  differ : (i : ℕ) → take i answers ≡ take i recorded → (line_at i answers ≡ line_at i recorded → ⊥) → Differs k answers recorded (k + i)

-- ---- the sheet

pub record Sheet : Type 0 where
  pub differs : ℕ
  pub rows : List Row
  pub more : Bool

-- "At most 512 are listed, in order of acceptance; a longer session ends with the line MORE and still finds the first difference."
unfoldable pub sheet_from : List Row → ℕ → Sheet
sheet_from rows differs = record { differs = differs; rows = take most_listed rows; more = ltb most_listed (length rows) }

-- "Frames count from 1."; the session begins before the first fresh start with an area of zeros
unfoldable pub sheet_of : List ℕ → List ℕ → Sheet
sheet_of session answers =
    let zeros = replicate {A = ℕ} area_words 0 in
    sheet_from (requests 1 (events_of before_start zeros (lines_of session)))
    (first_differs 1 (answers_of before_start zeros (lines_of session)) (lines_of answers))
