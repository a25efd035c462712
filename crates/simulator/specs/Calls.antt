-- The calls of the C simulator (document 02, M-103): what each gives, and every byte of the areas lent to it afterwards. Assumes nothing.
use Rattle.std.specs.Prelude.{ℕ, ◌-◌, ℤ, pos, negsuc, Bool, cond, List, [], eqb, leb, ltb, length, replicate}
use Rattle.area.specs.Parts.{paste}
use Rattle.channel.specs.Units.{unit_count}
use Rattle.state.specs.Places.{before_start}
use Rattle.state_image.specs.Images.{image_size, image_of, state_in, area_in, is_image}
use Rattle.session_reply.specs.Replies.{Reply, answer_to, text_of}
use Rattle.session.specs.Rooms.{most_text}
use Rattle.session.specs.Session.{area_words}

-- a refusal as a call gives it: minus its number
abbrev pub minus : ℕ → ℤ
minus n = negsuc (n - 1)

-- minus the refusal, or what the call gives where it is not refused
abbrev pub result_of : ℕ → ℕ → ℤ
result_of refusal value = cond (eqb refusal 0) (pos value) (minus refusal)

-- what a call gives, and its areas afterwards
pub record Called : Type 0 where
  pub result : ℤ
  pub state : List ℕ
  pub answer : List ℕ

-- "refuses .., changing nothing"
abbrev pub refused_call : ℕ → List ℕ → List ℕ → Called
refused_call n state answer = record { result = minus n; state = state; answer = answer }

-- ---- start: "first filled by a call of its own", with the state before the first fresh start; 1 for an area of another size

unfoldable pub start_call : List ℕ → Called
start_call state =
    cond (eqb (length state) (image_size unit_count))
    (record { result = pos 0; state = image_of unit_count before_start (replicate area_words 0); answer = [] })
    (refused_call 1 state [])

-- ---- answer: "decoding one frame and answering it"

-- the answer line stands at the front of its area, the rest of which stays; the image is that of the state and the area after the line
unfoldable pub answered_call : Reply → List ℕ → Called
answered_call r answer = record { result = pos (length (text_of r)); state = image_of unit_count r.state r.area; answer = paste 0 (text_of r) answer }

-- "Every frame call refuses 16, changing nothing, exactly if that area is not the image of a sound state ..; 16 .. comes before all others. An answer area
-- under 10,249 bytes is refused 1."
unfoldable pub answer_call : List ℕ → List ℕ → List ℕ → Called
answer_call state frame answer =
    cond (is_image unit_count state)
    (cond (ltb (length answer) most_text) (refused_call 1 state answer) (answered_call (answer_to (state_in unit_count state) (area_in unit_count state) frame) answer))
    (refused_call 16 state answer)

-- the line that a room of n characters holds: nothing of a longer one, which is malformed, as the empty one is
abbrev pub held_line : ℕ → List ℕ → List ℕ
held_line n frame = cond (leb (length frame) n) frame []
