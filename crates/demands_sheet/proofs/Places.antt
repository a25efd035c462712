-- Where a request stands on the sheet: the row of an accepted ask, followed through the lines after it, is one of the sheet's requests. Assumes nothing.
use mathlib.Core.Path.{◌≡◌, refl, sym, ap, ap₂, ◌∙◌}
use mathlib.Core.Bool.{Bool, true, false, cond}
use mathlib.Core.List.{List, [], ◌∷◌, ◌++◌, map}
use Prim.Native.Nat.{ℕ, zero, suc, ◌+◌, ◌≤◌, ◌<◌}
use native.Mathlib.Omega.{arith}
use lib.ListN.{length}
use Rattle.area.proofs.Marks.{cond_true}
use Rattle.session_frame.specs.Frames.{frame_of}
use Rattle.state.specs.declared.State.{State}
use Rattle.session_reply.specs.Replies.{Reply, answer_to, text_of}
use Rattle.session.specs.Session.{Course, with_text, play_lines}
use Rattle.sheet.specs.declared.Event.{Event}
use Rattle.sheet.specs.declared.Row.{Row}
use Rattle.sheet.specs.Events.{event_of}
use Rattle.sheet.specs.Rows.{most_count, next, new_row, row_through, onto, requests}
use Rattle.sheet.specs.Sheet.{events_of}
use Rattle.sheet.proofs.Steps.{next_below}

-- the frame after the events of the frames from k on
unfoldable pub frame_after : ℕ → List Event → ℕ
frame_after k [] = k
frame_after k (e ∷ es) = frame_after (next k) es

pub frame_after_lem : (es : List Event) (k : ℕ) → k + length es ≤ most_count → frame_after k es ≡ k + length es
unfolding frame_after
frame_after_lem [] k h = omega arith
frame_after_lem (e ∷ es) k h =
    let below : k < most_count = omega arith in
    let step : next k ≡ k + 1 = sym (next_below k below) in
    frame_after_lem es (next k) (omega (arith, step, h)) ∙ omega (arith, step)

through_append : (es fs : List Event) (k : ℕ) (row : Row) → row_through k row (es ++ fs) ≡ row_through (frame_after k es) (row_through k row es) fs
unfolding row_through frame_after
through_append [] fs k row = refl
through_append (e ∷ es) fs k row = through_append es fs (next k) _

abbrev through_on : ℕ → List Event → List Row → List Row
through_on k es = map (λ (row : Row). row_through k row es)

onto_through : (b : Bool) (k : ℕ) (fs : List Event) (row : Row) (rows more : List Row)
    → onto b (row_through k row fs) (through_on k fs rows ++ more) ≡ through_on k fs (onto b row rows) ++ more
onto_through true k fs row rows more = refl
onto_through false k fs row rows more = refl

requests_append : (es fs : List Event) (k : ℕ) → requests k (es ++ fs) ≡ through_on (frame_after k es) fs (requests k es) ++ requests (frame_after k es) fs
unfolding requests frame_after
requests_append [] fs k = refl
requests_append (e ∷ es) fs k =
    ap₂ (λ (row : Row) (rows : List Row). onto e.asked row rows) (through_append es fs (next k) (new_row e k)) (requests_append es fs (next k))
    ∙ onto_through e.asked (frame_after (next k) es) fs (row_through (next k) (new_row e k) es) (requests (next k) es) (requests (frame_after (next k) es) fs)

events_append : (ks ls : List (List ℕ)) (s : State) (area : List ℕ)
    → events_of s area (ks ++ ls) ≡ events_of s area ks ++ events_of (play_lines s area ks).state (play_lines s area ks).area ls
unfolding events_of play_lines with_text
events_append [] ls s area = refl
events_append (k ∷ ks) ls s area =
    ap (λ (es : List Event). event_of s (frame_of k) (text_of (answer_to s area k)) ∷ es) (events_append ks ls (answer_to s area k).state (answer_to s area k).area)

-- one of the rows
pub record Stands (row : Row) (rows : List Row) : Type 0 where
  pub earlier : List Row
  pub later : List Row
  pub is : rows ≡ earlier ++ (row ∷ later)

-- the lines ks, an accepted ask l, and the lines `later`
module _ (s : State) (area : List ℕ) (ks : List (List ℕ)) (l : List ℕ) (later : List (List ℕ)) (k : ℕ) where
  abbrev d : State
  d = (play_lines s area ks).state

  abbrev xs : List ℕ
  xs = (play_lines s area ks).area

  abbrev event : Event
  event = event_of (play_lines s area ks).state (frame_of l) (text_of (answer_to (play_lines s area ks).state (play_lines s area ks).area l))

  abbrev reply : Reply
  reply = answer_to (play_lines s area ks).state (play_lines s area ks).area l

  abbrev frame : ℕ
  frame = frame_after k (events_of s area ks)

  pub listed_there : event.asked ≡ true
      → Stands (row_through (next frame) (new_row event frame) (events_of reply.state reply.area later)) (requests k (events_of s area (ks ++ (l ∷ later))))
  unfolding events_of requests
  listed_there asked =
      record {
        earlier = through_on frame (event ∷ events_of reply.state reply.area later) (requests k (events_of s area ks));
        later = requests (next frame) (events_of reply.state reply.area later);
        is =
            ap (requests k) (events_append ks (l ∷ later) s area)
            ∙ requests_append (events_of s area ks) (event ∷ events_of reply.state reply.area later) k
            ∙ ap (λ (rows : List Row). through_on frame (event ∷ events_of reply.state reply.area later) (requests k (events_of s area ks)) ++ rows) (cond_true _ _ asked);
      }
