-- Calls of a simulator one after the other (document 02, M-103), each on the state area as the call before it left it. Assumes nothing.
use Rattle.std.specs.Prelude.{ℕ, ℤ, pos, negsuc, ◌≡◌, true, cond, List, [], ◌∷◌, ◌++◌, ltb, length, take}
use Rattle.channel.specs.Units.{unit_count}
use Rattle.state.specs.declared.State.{State}
use Rattle.state_image.specs.Images.{state_in, area_in, is_image}
use Rattle.session.specs.Rooms.{most_text}
use Rattle.session.specs.Session.{Course}
use Rattle.simulator.specs.Calls.{Called, start_call, answer_call}

-- a frame, and the area that is lent for its answer
pub record Lending : Type 0 where
  pub frame : List ℕ
  pub answer : List ℕ

-- the line that a call gives: so many bytes of its answer area; a refused call gives none
abbrev pub length_given : ℤ → ℕ
length_given (pos n) = n
length_given (negsuc n) = 0

abbrev pub line_given : Called → List ℕ
line_given c = take (length_given c.result) c.answer

-- the state area after calls, and the lines that they give
unfoldable pub area_after : List ℕ → List Lending → List ℕ
area_after state [] = state
area_after state (x ∷ xs) = area_after (answer_call state x.frame x.answer).state xs

unfoldable pub lines_given : List ℕ → List Lending → List ℕ
lines_given state [] = []
lines_given state (x ∷ xs) = line_given (answer_call state x.frame x.answer) ++ lines_given (answer_call state x.frame x.answer).state xs

-- the frames that are answered: all but those with too little room for an answer, which are refused 1
unfoldable pub frames_of : List Lending → List (List ℕ)
frames_of [] = []
frames_of (x ∷ xs) = cond (ltb (length x.answer) most_text) (frames_of xs) (x.frame ∷ frames_of xs)

-- a state area is the image of where a session stands: its state and its area
pub record Shows (image : List ℕ) (s : State) (area : List ℕ) : Type 0 where
  pub good : is_image unit_count image ≡ true
  pub state : state_in unit_count image ≡ s
  pub words : area_in unit_count image ≡ area
