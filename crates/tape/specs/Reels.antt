-- A reel: the records of an image, read from its first byte to its end or its first fault (M-100). Assumes nothing.
use Rattle.std.specs.Prelude.{Bool, true, false, List, [], ◌∷◌, ◌++◌, ℕ, zero, suc, ◌-◌, length, drop}
use Rattle.tape.specs.declared.Next.{Next}
use Rattle.tape.specs.declared.Next.TheVariants.{More, End, Mark, Block, Fault}
use Rattle.tape.specs.Characters.{words_from}
use Rattle.tape.specs.Records.{next_in}

-- what a reel holds, one after the other: a block's words, or a tape mark
pub data Piece : Type 0 where
  Words : List ℕ → Piece
  TapeMark : Piece

-- how a reading ends: more bytes are needed, the image has ended, or "the first faulty record" has the fault of that number
pub data Ending : Type 0 where
  Open : Ending
  Ended : Ending
  Faulty : ℕ → Ending

-- the records, how they end, the place there, and the bytes that wait for more
pub record Reel : Type 0 where
  pub pieces : List Piece
  pub ending : Ending
  pub place : ℕ
  pub left : List ℕ

unfoldable pub onto : Piece → Reel → Reel
onto p r = record { pieces = p ∷ r.pieces; ending = r.ending; place = r.place; left = r.left }

-- bs stand from place `at` on; what was found there, and the rest of them read
unfoldable pub read_next : (List ℕ → ℕ → Reel) → List ℕ → ℕ → Next → Reel
read_next rest bs at More = record { pieces = []; ending = Open; place = at; left = bs }
read_next rest bs at End = record { pieces = []; ending = Ended; place = at; left = [] }
read_next rest bs at (Mark next) = onto TapeMark (rest (drop (next - at) bs) next)
read_next rest bs at (Block place n next) = onto (Words (words_from bs (place - at) n)) (rest (drop (next - at) bs) next)
read_next rest bs at (Fault number place) = record { pieces = []; ending = Faulty number; place = place; left = [] }

-- at most so many records
unfoldable pub read_on : ℕ → Bool → List ℕ → ℕ → Reel
read_on zero ended bs at = record { pieces = []; ending = Open; place = at; left = bs }
read_on (suc turns) ended bs at = read_next (read_on turns ended) bs at (next_in ended bs at)

-- all that bs give: there are no more records than bytes
unfoldable pub read_all : Bool → List ℕ → ℕ → Reel
read_all ended bs at = read_on (suc (length bs)) ended bs at

-- an image in one piece
unfoldable pub reel_of : List ℕ → Reel
reel_of image = read_all true image 0

-- ---- an image that comes in windows

-- r, and if it waits for more, what its bytes and the next give
unfoldable pub and_then : (List ℕ → ℕ → Reel) → Ending → Reel → Reel
and_then rest Open r =
    let s = rest r.left r.place in
    record { pieces = r.pieces ++ s.pieces; ending = s.ending; place = s.place; left = s.left }
and_then rest Ended r = r
and_then rest (Faulty number) r = r

-- what is held of the windows before, the place where it begins, and the windows to come
unfoldable pub in_windows : List ℕ → ℕ → List (List ℕ) → Reel
in_windows held at [] = read_all true held at
in_windows held at (window ∷ windows) =
    let r = read_all false (held ++ window) at in
    and_then (λ bs place. in_windows bs place windows) r.ending r

-- the windows of an image in one
unfoldable pub joined : List (List ℕ) → List ℕ
joined [] = []
joined (window ∷ windows) = window ++ joined windows
