-- One line more, as the code goes, comes to its definition. Assumes nothing.
use mathlib.Core.Path.{◌≡◌, refl, sym, ap, ap₂, ◌∙◌}
use mathlib.Core.Bool.{Bool, true, false, cond}
use mathlib.Core.List.{List, ◌++◌}
use Prim.Native.Nat.{ℕ, zero, suc, ◌+◌, ◌-◌, ◌≤◌, ◌<◌}
use native.Mathlib.Omega.{arith}
use borrow.Author.Tests.{le-leb, lt-leb, leb-false, lt-ltb, le-ltb, ltb-false}
use lib.Dec.{leb, ltb}
use lib.ListN.{length, take, drop, length-drop}
use Rattle.area.specs.Parts.{part_of, paste, pasted_in}
use Rattle.area.proofs.Marks.{cond_true, cond_false}
use Rattle.area.proofs.Walks.{by_test, or_left, or_first, or_second, or_neither}
use Rattle.session_frame.specs.Answers.{answer_text}
use Rattle.session_frame.specs.Writes.{place_after}
use Rattle.session_frame.specs.declared.Frame.{Frame}
use Rattle.session_frame.specs.Frames.{frame_of}
use Rattle.session_line.specs.declared.Line.{Line}
use Rattle.session_line.specs.declared.Step.{Step}
use Rattle.session_line.specs.Lines.{feed_at}
use Rattle.session_line.specs.Machine.{no_line, step_of, room_of}
use Rattle.state.specs.declared.State.{State}
use Rattle.session_reply.specs.Turns.{Turned, turned_on, area_on}
use Rattle.session_reply.proofs.Stores.{Counts}
use Rattle.session.specs.Rooms.{most_words, most_text, lacks_rooms, given_in}
use Rattle.session.proofs.Written.{IsAfter, written_line}
use Rattle.session.specs.declared.Played.{Played}
use Rattle.session.specs.Player.{Player, player_with, held_text, after_held, answered_turn, open_turn, turn_of, is_done, play_turns, play_part, played_of}

-- ---- the five parts of a player that the code gives back

unfoldable pub IsPlayer : Player → Played → List ℕ → List ℕ → List ℕ → List ℕ → Type 0
IsPlayer x p area room words out = (p ≡ played_of x) × ((area ≡ x.area) × ((room ≡ x.room) × ((words ≡ x.words) × (out ≡ x.out))))

player_is : (x y : Player) → y ≡ x → IsPlayer x (played_of y) y.area y.room y.words y.out
unfolding IsPlayer
player_is x y e = (
  ap (λ (z : Player). played_of z) e,
  (ap (λ (z : Player). z.area) e, (ap (λ (z : Player). z.room) e, (ap (λ (z : Player). z.words) e, ap (λ (z : Player). z.out) e))),
)

-- ---- one line more

module _ (unsound : Bool) (s : State) (area : List ℕ) (line : Line) (room words bytes : List ℕ) (at : ℕ) (out : List ℕ) (end : ℕ) (step : Step) (filled : List ℕ)
    (stepped : step ≡ step_of line (drop at bytes) at room) (made : filled ≡ room_of line (drop at bytes) room) where
  abbrev before : Player
  before = player_with s area line room words at out end

  pub turn_open : step.ended ≡ false → player_with s area step.line filled words step.at out end ≡ turn_of unsound bytes before
  unfolding turn_of open_turn
  turn_open e = ap₂ (open_turn before) stepped made ∙ sym (cond_false _ _ (ap (λ (z : Step). z.ended) (sym stepped) ∙ e))

  -- the line has ended: what the code makes of its frame and its words
  module _ (ended : step.ended ≡ true) (roomy : most_words ≤ length words) (space : most_text ≤ length out - end) (f : Frame) (n : ℕ) (given : List ℕ)
      (framed : f ≡ frame_of (held_text step.line filled)) (counted : n ≡ length (given_in f (held_text step.line filled) (length words)))
      (gave : given ≡ paste 0 (given_in f (held_text step.line filled) (length words)) words) (none : Line) (new : none ≡ no_line) where
    rooms : lacks_rooms words (drop end out) ≡ false
    rooms = or_neither _ _ (le-ltb (length words) most_words roomy) (le-ltb (length (drop end out)) most_text (omega (arith, length-drop end out)))

    turn_by : (t : State) (k : ℕ) (after sub : List ℕ) → IsAfter (after_held unsound s area step.line filled words (drop end out)) t k after given sub
        → player_with t after none filled given step.at (take end out ++ sub) (end + k) ≡ turn_of unsound bytes before
    unfolding turn_of answered_turn IsAfter
    turn_by t k after sub w =
        rw (w.0, w.1.0, w.1.1.0, w.1.1.1.0, w.1.1.1.1, new)
        (ap₂ (answered_turn unsound before) stepped made ∙ sym (cond_true _ _ (ap (λ (q : Step). q.ended) (sym stepped) ∙ ended)))

    pub turn_ended : (x : Turned) → x ≡ turned_on unsound s area f (take n given) → (after : List ℕ) → after ≡ area_on unsound s area f (take n given)
        → (end' : ℕ) (out' : List ℕ) → end' ≡ end + place_after 0 (answer_text x.answer (part_of x.start x.count after)) (drop end out)
        → out' ≡ take end out ++ pasted_in 0 (answer_text x.answer (part_of x.start x.count after)) (drop end out)
        → player_with x.state after none filled given step.at out' end' ≡ turn_of unsound bytes before
    unfolding after_held
    turn_ended x ex after moved end' out' ee eo =
        ap₂ (λ (o : List ℕ) (k : ℕ). player_with x.state after none filled given step.at o k) eo ee
        ∙ turn_by x.state (place_after 0 (answer_text x.answer (part_of x.start x.count after)) (drop end out)) after
        (pasted_in 0 (answer_text x.answer (part_of x.start x.count after)) (drop end out))
        (written_line unsound s area (held_text step.line filled) words (drop end out) rooms f framed n counted given gave x ex after moved
        (part_of x.start x.count after) refl _ _ refl refl)

-- ---- turn after turn

pub not_done : (bytes : List ℕ) (p : Player) → is_done bytes p ≡ false → p.at < length bytes
not_done bytes p e = leb-false (length bytes) p.at (or_left _ _ e)

module _ (unsound : Bool) (bytes : List ℕ) (p : Player) where
  turn_place : (turn_of unsound bytes p).at ≡ (step_of p.line (drop p.at bytes) p.at p.room).at
  unfolding turn_of answered_turn open_turn
  turn_place = go (step_of p.line (drop p.at bytes) p.at p.room).ended
    where
      go : (b : Bool) → (cond b (answered_turn unsound p (step_of p.line (drop p.at bytes) p.at p.room) (room_of p.line (drop p.at bytes) p.room))
          (open_turn p (step_of p.line (drop p.at bytes) p.at p.room) (room_of p.line (drop p.at bytes) p.room))).at
          ≡ (step_of p.line (drop p.at bytes) p.at p.room).at
      go true = refl
      go false = refl

  step_further : p.at < length bytes → p.at < (step_of p.line (drop p.at bytes) p.at p.room).at
  unfolding step_of
  step_further h = go (ltb (feed_at (drop p.at bytes)) (length (drop p.at bytes))) refl
    where
      go : (b : Bool) → ltb (feed_at (drop p.at bytes)) (length (drop p.at bytes)) ≡ b
          → p.at < cond b (p.at + feed_at (drop p.at bytes) + 1) (p.at + feed_at (drop p.at bytes))
      go true e = omega arith
      go false e = omega (arith, ltb-false (feed_at (drop p.at bytes)) (length (drop p.at bytes)) e, length-drop p.at bytes)

  -- a turn goes on in the part
  pub turn_further : is_done bytes p ≡ false → p.at < (turn_of unsound bytes p).at
  turn_further e = omega (arith, turn_place, step_further (not_done bytes p e))

-- turns that are enough give the same as more
more_turns : (unsound : Bool) (n m : ℕ) (bytes : List ℕ) (p : Player) → length bytes - p.at < n → length bytes - p.at < m
    → play_turns unsound n bytes p ≡ play_turns unsound m bytes p
unfolding play_turns
more_turns unsound zero m bytes p h k = absurd (omega arith)
more_turns unsound (suc n) zero bytes p h k = absurd (omega arith)
more_turns unsound (suc n) (suc m) bytes p h k =
    by_test (λ b. is_done bytes p ≡ b → cond b p (play_turns unsound n bytes (turn_of unsound bytes p)) ≡ cond b p (play_turns unsound m bytes (turn_of unsound bytes p))) (is_done bytes p)
    (λ q e. refl)
    (λ q e. more_turns unsound n m bytes (turn_of unsound bytes p) (omega (arith, turn_further unsound bytes p e, not_done bytes p e))
    (omega (arith, turn_further unsound bytes p e, not_done bytes p e)))
    refl

module _ (unsound : Bool) (bytes : List ℕ) (p : Player) where
  pub part_stops : is_done bytes p ≡ true → play_part unsound bytes p ≡ p
  unfolding play_part play_turns
  part_stops e = cond_true _ _ e

  pub part_goes : is_done bytes p ≡ false → play_part unsound bytes p ≡ play_part unsound bytes (turn_of unsound bytes p)
  unfolding play_part play_turns
  part_goes e =
      cond_false _ _ e
      ∙ more_turns unsound (length bytes - p.at) (suc (length bytes - (turn_of unsound bytes p).at)) bytes (turn_of unsound bytes p)
      (omega (arith, turn_further unsound bytes p e, not_done bytes p e)) (omega arith)

-- ---- the loop: what is left gives the part

-- q comes next: what is left then gives the same, it has its sixteen files and five channels, its rooms take what they should
pub record Onward (unsound : Bool) (bytes : List ℕ) (x q : Player) : Type 0 where
  pub within : q.length ≤ length q.out
  pub roomy : most_words ≤ length q.words
  pub same : play_part unsound bytes q ≡ x
  pub counts : Counts q.state

module _ (unsound : Bool) (bytes : List ℕ) (x p : Player) (left : play_part unsound bytes p ≡ x) where
  stopped : is_done bytes p ≡ true → IsPlayer x (played_of p) p.area p.room p.words p.out
  stopped e = player_is x p (sym (part_stops unsound bytes p e) ∙ left)

  pub used_up_lem : length bytes ≤ p.at → IsPlayer x (played_of p) p.area p.room p.words p.out
  used_up_lem h = stopped (or_first _ _ (le-leb (length bytes) p.at h))

  pub full_up : length p.out - p.length < most_text → IsPlayer x (played_of p) p.area p.room p.words p.out
  full_up h = stopped (or_second (leb (length bytes) p.at) _ (lt-ltb (length p.out - p.length) most_text h))

  pub onward : p.at < length bytes → most_text ≤ length p.out - p.length → (q : Player) → q ≡ turn_of unsound bytes p → Counts q.state
      → q.length ≤ length q.out → most_words ≤ length q.words → Onward unsound bytes x q
  onward more space q e k h h₂ =
      let going : is_done bytes p ≡ false = or_neither _ _ (lt-leb (length bytes) p.at more) (le-ltb (length p.out - p.length) most_text space) in
      record {
        same = ap (play_part unsound bytes) e ∙ sym (part_goes unsound bytes p going) ∙ left;
        counts = k;
        within = h;
        roomy = h₂;
      }
