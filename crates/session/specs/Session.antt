-- A whole session (document 01, "The session program"). Assumes nothing.
use Rattle.std.specs.Prelude.{ℕ, List, [], ◌∷◌, ◌++◌, eqb, replicate}
use Rattle.area.specs.Lists.{count_of}
use Rattle.session_line.specs.Lines.{feed, lines_of}
use Rattle.state.specs.declared.State.{State}
use Rattle.state.specs.Places.{before_start}
use Rattle.session_reply.specs.Replies.{answer_to, text_of}

-- lines one after the other, each against the state and the area that the one before left: these at the end, and the answers' text
pub record Course : Type 0 where
  pub state : State
  pub area : List ℕ
  pub text : List ℕ

-- the same with a text before it
unfoldable pub with_text : List ℕ → Course → Course
with_text text c = record { state = c.state; area = c.area; text = text ++ c.text }

unfoldable pub play_lines : State → List ℕ → List (List ℕ) → Course
play_lines s area [] = record { state = s; area = area; text = [] }
play_lines s area (l ∷ ls) = let r = answer_to s area l in with_text (text_of r) (play_lines r.state r.area ls)

-- "The program also refuses 1 if m×W is over 4,096.": its area has 4,096 words, so this is the rule "An area under m×W is refused 1."
abbrev pub area_words : ℕ
area_words = 4096

-- the lines of a session's bytes, from the state before the first fresh start and an area of zeros
unfoldable pub course_of : List ℕ → Course
course_of bytes = play_lines before_start (replicate area_words 0) (lines_of bytes)

-- "Each line, an empty one too, gives one answer line.": the answers' text. Theorem `one_answer_each` counts them.
unfoldable pub session_of : List ℕ → List ℕ
session_of bytes = (course_of bytes).text

-- how many line feeds a text has
unfoldable pub feeds_in : List ℕ → ℕ
feeds_in text = count_of (λ (c : ℕ). eqb c feed) text
