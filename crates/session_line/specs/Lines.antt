-- The lines of a session (document 01, "The session program"). Assumes nothing.
use Rattle.std.specs.Prelude.{Bool, cond, not, List, [], ◌∷◌, ◌++◌, ℕ, suc, eqb, leb, length}
use Rattle.area.specs.Lists.{all_of}

-- the line feed
abbrev pub feed : ℕ
feed = 10

-- one character more at the front of the first line
unfoldable pub onto : ℕ → List (List ℕ) → List (List ℕ)
onto c [] = (c ∷ []) ∷ []
onto c (l ∷ ls) = (c ∷ l) ∷ ls

-- "One frame a line, .. line feed." "Each line, an empty one too, gives one answer line. A last line without line feed counts."
unfoldable pub lines_of : List ℕ → List (List ℕ)
lines_of [] = []
lines_of (c ∷ cs) = cond (eqb c feed) ([] ∷ lines_of cs) (onto c (lines_of cs))

-- ---- the same of a part, when l has come of its first line

-- how many bytes stand before the first line feed: all, if there is none
unfoldable pub feed_at : List ℕ → ℕ
feed_at [] = 0
feed_at (c ∷ cs) = cond (eqb c feed) 0 (suc (feed_at cs))

-- there is no line feed
unfoldable pub feedless : List ℕ → Bool
feedless xs = all_of (λ (c : ℕ). not (eqb c feed)) xs

-- the lines that end in the part
unfoldable pub ended_lines : List ℕ → List ℕ → List (List ℕ)
ended_lines l [] = []
ended_lines l (c ∷ cs) = cond (eqb c feed) (l ∷ ended_lines [] cs) (ended_lines (l ++ (c ∷ [])) cs)

-- what has come of the line after them
unfoldable pub begun_line : List ℕ → List ℕ → List ℕ
begun_line l [] = l
begun_line l (c ∷ cs) = cond (eqb c feed) (begun_line [] cs) (begun_line (l ++ (c ∷ [])) cs)

-- the last line, if the session ends there: nothing after the last line feed is no line
unfoldable pub last_line : List ℕ → List (List ℕ)
last_line [] = []
last_line (c ∷ cs) = (c ∷ cs) ∷ []

-- ---- what is kept of a line

-- its characters, or only that it is longer than the room
pub data Held : Type 0 where
  Text : List ℕ → Held
  Overlong : Held

unfoldable pub clip : ℕ → List ℕ → Held
clip room l = cond (leb (length l) room) (Text l) Overlong
