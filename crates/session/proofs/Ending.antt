-- A line feed ends the line that the room holds: the end of a session, and one line alone. Assumes nothing.
use mathlib.Core.Path.{◌≡◌, refl, sym, ap, ap₂, ◌∙◌}
use mathlib.Core.Bool.{Bool, true, false, not, cond}
use mathlib.Core.List.{List, [], ◌∷◌}
use Prim.Native.Nat.{ℕ, ◌+◌, ◌-◌, ◌≤◌}
use native.Mathlib.Omega.{arith}
use borrow.Author.Tests.{le-leb, lt-leb, le-ltb, ltb-true, ltb-false}
use lib.Dec.{leb, ltb}
use lib.ListN.{length, take}
use lib.Seq.{take_all}
use Rattle.area.specs.Parts.{paste_fits, paste, pasted_in}
use Rattle.area.proofs.Pastes.{paste_nothing}
use Rattle.area.proofs.Marks.{cond_true, cond_false}
use Rattle.area.proofs.Walks.{by_test, or_first, or_neither}
use Rattle.session_line.specs.declared.Line.{Line}
use Rattle.session_line.specs.Lines.{feed_at}
use Rattle.session_line.specs.Machine.{no_line, has_begun, filled_in, grown_line, grown_room, step_of, room_of}
use Rattle.session_line.proofs.Laws.Grows.{grown_over, grown_fits}
use Rattle.state.specs.declared.State.{State}
use Rattle.state_sound.specs.Soundness.{sound}
use Rattle.session_reply.specs.Replies.{Reply, answer_to}
use Rattle.session_reply.specs.Turns.{answer_on}
use Rattle.session_reply.proofs.Agrees.{judged_right}
use Rattle.session.specs.Rooms.{most_text, lacks_rooms, After, after_line}
use Rattle.session.specs.declared.Played.{Played}
use Rattle.session.specs.Player.{Player, player_with, held_text, after_held, answered_turn, turn_of, play_part, played_of, end_of}
use Rattle.session.proofs.Turning.{IsPlayer, part_stops, part_goes}

-- ---- nothing more comes before the line feed

pasted_none : (at : ℕ) (xs : List ℕ) → pasted_in at [] xs ≡ xs
unfolding pasted_in
pasted_none at xs = by_test (λ b. cond b (paste at [] xs) xs ≡ xs) (paste_fits at [] xs) (λ q. paste_nothing at xs) (λ q. refl)

module _ (line : Line) (room : List ℕ) where
  fed_room : grown_room line [] room ≡ room
  unfolding grown_room
  fed_room =
      by_test (λ b. cond b room (pasted_in (filled_in line (length room)) [] room) ≡ room) line.overlong (λ q. refl)
      (λ q. pasted_none (filled_in line (length room)) room)

  filled_within : filled_in line (length room) + 0 ≤ length room
  unfolding filled_in
  filled_within =
      by_test (λ b. ltb (length room) line.filled ≡ b → cond b (length room) line.filled + 0 ≤ length room) (ltb (length room) line.filled)
      (λ q e. omega arith) (λ q e. omega (arith, ltb-false (length room) line.filled e)) refl

  filled_text : take (filled_in line (length room) + 0) room ≡ take line.filled room
  unfolding filled_in
  filled_text =
      by_test (λ b. ltb (length room) line.filled ≡ b → take (cond b (length room) line.filled + 0) room ≡ take line.filled room) (ltb (length room) line.filled)
      (λ q e.
      let all : length room ≤ length room + 0 = omega arith in
      let past : length room ≤ line.filled = omega (arith, ltb-true (length room) line.filled e) in
      take_all (length room + 0) room all ∙ sym (take_all line.filled room past))
      (λ q e. let same : line.filled + 0 ≡ line.filled = omega arith in ap (λ (n : ℕ). take n room) same)
      refl

  fed_text : held_text (grown_line line [] room) (grown_room line [] room) ≡ held_text line room
  unfolding held_text
  fed_text =
      by_test (λ b. line.overlong ≡ b → held_text (grown_line line [] room) (grown_room line [] room) ≡ held_text line room) line.overlong
      (λ q e. let g = grown_over line [] room e in ap₂ held_text g.0 g.1 ∙ sym (cond_true _ _ e))
      (λ q e.
      let g = grown_fits line [] room e (le-leb (filled_in line (length room) + 0) (length room) filled_within) in
      ap₂ held_text g.0 fed_room ∙ filled_text ∙ sym (cond_false _ _ e))
      refl

-- ---- a line feed alone is played

-- the five parts of what is after a line, and the room that it stands in as it was
unfoldable pub IsFed : After → List ℕ → State → ℕ → List ℕ → List ℕ → List ℕ → List ℕ → Type 0
IsFed x room₀ s n area words out room = (s ≡ x.state) × ((n ≡ x.length) × ((area ≡ x.area) × ((words ≡ x.words) × ((out ≡ x.out) × (room ≡ room₀)))))

pub fed_same : (x y : After) → x ≡ y → (room₀ : List ℕ) (s : State) (n : ℕ) (area words out room : List ℕ) → IsFed x room₀ s n area words out room → IsFed y room₀ s n area words out room
unfolding IsFed
fed_same x y e room₀ s n area words out room w = (
  w.0 ∙ ap (λ (z : After). z.state) e,
  (
    w.1.0 ∙ ap (λ (z : After). z.length) e,
    (
      w.1.1.0 ∙ ap (λ (z : After). z.area) e,
      (w.1.1.1.0 ∙ ap (λ (z : After). z.words) e, (w.1.1.1.1.0 ∙ ap (λ (z : After). z.out) e, w.1.1.1.1.1)),
    ),
  ),
)

module _ (unsound : Bool) (s : State) (area : List ℕ) (line : Line) (room words out : List ℕ) (space : most_text ≤ length out) where
  abbrev before : Player
  before = player_with s area line room words 0 out 0

  abbrev after : After
  after = after_held unsound s area line room words out

  abbrev then : Player
  then = record { state = after.state; area = after.area; line = no_line; room = room; words = after.words; at = 1; out = after.out; length = 0 + after.length }

  fed_after : after_held unsound s area (grown_line line [] room) (grown_room line [] room) words out ≡ after_held unsound s area line room words out
  unfolding after_held
  fed_after = ap (λ (t : List ℕ). after_line (answer_on unsound s area t) s area t words out) (fed_text line room)

  fed_turn : turn_of unsound (10 ∷ []) before ≡ then
  unfolding turn_of answered_turn step_of room_of feed_at
  fed_turn =
      ap₂ (λ (x : After) (r : List ℕ). record { state = x.state; area = x.area; line = no_line; room = r; words = x.words; at = 1; out = x.out; length = 0 + x.length }) fed_after (fed_room line room)

  fed_part : play_part unsound (10 ∷ []) before ≡ then
  fed_part =
      let start : leb 1 0 ≡ false = refl in
      let end : leb 1 1 ≡ true = refl in
      part_goes unsound (10 ∷ []) before (or_neither (leb 1 0) (ltb (length out - 0) most_text) start (le-ltb (length out - 0) most_text (omega (arith, space))))
      ∙ ap (play_part unsound (10 ∷ [])) fed_turn
      ∙ part_stops unsound (10 ∷ []) then (or_first (leb 1 1) (ltb (length after.out - (0 + after.length)) most_text) end)

  pub fed : (p : Played) (area' room' words' out' : List ℕ) → IsPlayer (play_part unsound (10 ∷ []) before) p area' room' words' out'
      → IsFed after room p.state p.length area' words' out' room'
  unfolding IsPlayer IsFed
  fed p area' room' words' out' w =
      let none : 0 + after.length ≡ after.length = omega arith in (
        ap (λ (z : Played). z.state) w.0 ∙ ap (λ (z : Player). z.state) fed_part,
        (
          ap (λ (z : Played). z.length) w.0 ∙ ap (λ (z : Player). z.length) fed_part ∙ none,
          (
            w.1.0 ∙ ap (λ (z : Player). z.area) fed_part,
            (
              w.1.1.1.0 ∙ ap (λ (z : Player). z.words) fed_part,
              (w.1.1.1.1 ∙ ap (λ (z : Player). z.out) fed_part, w.1.1.0 ∙ ap (λ (z : Player). z.room) fed_part),
            ),
          ),
        ),
      )

-- ---- the end of a session

module _ (s : State) (area : List ℕ) (line : Line) (room words out : List ℕ) (b : Bool) (begun : b ≡ has_begun line) where
  pub end_some : b ≡ true → (t : State) (n : ℕ) (xs ws zs rs : List ℕ) → IsFed (after_held false s area line room words out) room t n xs ws zs rs
      → IsFed (end_of s area line room words out) room t n xs ws zs rs
  unfolding end_of
  end_some e t n xs ws zs rs w = fed_same _ _ (sym (cond_true _ _ (sym begun ∙ e))) room t n xs ws zs rs w

  pub end_none : b ≡ false → IsFed (end_of s area line room words out) room s 0 area words out room
  unfolding end_of IsFed
  end_none e =
      let same : record { state = s; length = 0; area = area; words = words; out = out } ≡ end_of s area line room words out = sym (cond_false _ _ (sym begun ∙ e)) in (
        ap (λ (z : After). z.state) same,
        (ap (λ (z : After). z.length) same, (ap (λ (z : After). z.area) same, (ap (λ (z : After). z.words) same, (ap (λ (z : After). z.out) same, refl)))),
      )

-- ---- one line alone

module _ (s : State) (area line words out : List ℕ) where
  pub alone_none : lacks_rooms words out ≡ true → IsFed (after_line (answer_to s area line) s area line words out) line s 0 area words out line
  unfolding after_line IsFed
  alone_none e =
      let same : record { state = s; length = 0; area = area; words = words; out = out } ≡ after_line (answer_to s area line) s area line words out = sym (cond_true _ _ e) in (
        ap (λ (z : After). z.state) same,
        (ap (λ (z : After). z.length) same, (ap (λ (z : After). z.area) same, (ap (λ (z : After). z.words) same, (ap (λ (z : After). z.out) same, refl)))),
      )

  pub alone : (good : Bool) → good ≡ sound s
      → after_held (not good) s area (record { filled = length line; overlong = false }) line words out ≡ after_line (answer_to s area line) s area line words out
  unfolding after_held held_text
  alone good e =
      let all : length line ≤ length line = omega arith in
      ap (λ (t : List ℕ). after_line (answer_on (not good) s area t) s area t words out) (take_all (length line) line all)
      ∙ ap (λ (r : Reply). after_line r s area line words out) (ap (λ (b : Bool). answer_on (not b) s area line) e ∙ judged_right s area line)
