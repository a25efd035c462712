-- The part call and the end call, as the code goes, come to their definitions. Assumes nothing.
use mathlib.Core.Path.{◌≡◌, refl, sym, ap, ap₂, ◌∙◌}
use mathlib.Core.Bool.{true, false, ◌||◌}
use mathlib.Core.List.{List}
use Prim.Native.Nat.{ℕ, ◌≤◌}
use borrow.Author.Tests.{ltb-false}
use lib.Dec.{ltb}
use lib.ListN.{length}
use Rattle.area.proofs.Marks.{cond_true, cond_false}
use Rattle.area.proofs.Walks.{or_left, or_right}
use Rattle.session_frame.specs.Frames.{longest}
use Rattle.session.specs.Rooms.{most_words, most_text}
use Rattle.session_line.specs.declared.Line.{Line}
use Rattle.session_line.specs.Machine.{no_line}
use Rattle.state.specs.declared.State.{State}
use Rattle.session.specs.declared.Played.{Played}
use Rattle.session.specs.declared.Heard.{Heard}
use Rattle.session.specs.Player.{play_part, end_of}
use Rattle.session.specs.Talks.{after_the_end, too_short, talk_with, Desk, Call, heard_of, refused_call, lacks_room, player_at, played_call, part_call, ended_call, end_call}
use Rattle.session.proofs.Ending.{IsFed}
use Rattle.session.proofs.Turning.{IsPlayer}

-- ---- what the code gives back of a call

unfoldable pub IsCall : Call → Heard → List ℕ → List ℕ → List ℕ → List ℕ → Type 0
IsCall x h area room words out = (h ≡ heard_of x) × ((area ≡ x.desk.area) × ((room ≡ x.desk.room) × ((words ≡ x.desk.words) × (out ≡ x.out))))

call_same : (x y : Call) → y ≡ x → (h : Heard) (area room words out : List ℕ) → IsCall y h area room words out → IsCall x h area room words out
unfolding IsCall
call_same x y e h area room words out w = (
  w.0 ∙ ap (λ (z : Call). heard_of z) e,
  (w.1.0 ∙ ap (λ (z : Call). z.desk.area) e, (w.1.1.0 ∙ ap (λ (z : Call). z.desk.room) e, (w.1.1.1.0 ∙ ap (λ (z : Call). z.desk.words) e, w.1.1.1.1 ∙ ap (λ (z : Call). z.out) e))),
)

refused_is : (n : ℕ) (d : Desk) (at : ℕ) (out : List ℕ) (h : Heard) → h ≡ record { refusal = n; talk = d.talk; at = at; length = 0 }
    → IsCall (refused_call n d at out) h d.area d.room d.words out
unfolding IsCall refused_call
refused_is n d at out h e = (e, (refl, (refl, (refl, refl))))

-- ---- after the end

module _ (d : Desk) (over : d.talk.ended ≡ true) where
  pub part_over : (bytes : List ℕ) (at : ℕ) (out : List ℕ) → part_call d bytes at out ≡ refused_call after_the_end d at out
  unfolding part_call
  part_over bytes at out = cond_true _ _ over

  pub end_over : (out : List ℕ) → end_call d out ≡ refused_call after_the_end d 0 out
  unfolding end_call
  end_over out = cond_true _ _ over

  pub part_refused : (bytes : List ℕ) (at : ℕ) (out : List ℕ) (h : Heard) → h ≡ record { refusal = after_the_end; talk = d.talk; at = at; length = 0 }
      → IsCall (part_call d bytes at out) h d.area d.room d.words out
  part_refused bytes at out h e = call_same _ _ (sym (part_over bytes at out)) h d.area d.room d.words out (refused_is after_the_end d at out h e)

  pub end_refused : (out : List ℕ) (h : Heard) → h ≡ record { refusal = after_the_end; talk = d.talk; at = 0; length = 0 }
      → IsCall (end_call d out) h d.area d.room d.words out
  end_refused out h e =
      (call_same _ _ (sym (end_over out)) h d.area d.room d.words out (refused_is after_the_end d 0 out h e))

-- ---- with a room that is too short

module _ (d : Desk) (on : d.talk.ended ≡ false) (out : List ℕ) (short : lacks_room d out ≡ true) where
  pub part_lacks : (bytes : List ℕ) (at : ℕ) → part_call d bytes at out ≡ refused_call too_short d at out
  unfolding part_call
  part_lacks bytes at = cond_false _ _ on ∙ cond_true _ _ short

  pub end_lacks : end_call d out ≡ refused_call too_short d 0 out
  unfolding end_call
  end_lacks = cond_false _ _ on ∙ cond_true _ _ short

  pub part_short : (bytes : List ℕ) (at : ℕ) (h : Heard) → h ≡ record { refusal = too_short; talk = d.talk; at = at; length = 0 }
      → IsCall (part_call d bytes at out) h d.area d.room d.words out
  part_short bytes at h e = call_same _ _ (sym (part_lacks bytes at)) h d.area d.room d.words out (refused_is too_short d at out h e)

  pub end_short : (h : Heard) → h ≡ record { refusal = too_short; talk = d.talk; at = 0; length = 0 } → IsCall (end_call d out) h d.area d.room d.words out
  end_short h e =
      (call_same _ _ (sym end_lacks) h d.area d.room d.words out (refused_is too_short d 0 out h e))

-- ---- else

module _ (d : Desk) (on : d.talk.ended ≡ false) (out : List ℕ) (roomy : lacks_room d out ≡ false) where
  pub part_on : (bytes : List ℕ) (at : ℕ) → part_call d bytes at out ≡ played_call (play_part false bytes (player_at d at out))
  unfolding part_call
  part_on bytes at = cond_false _ _ on ∙ cond_false _ _ roomy

  pub end_on : end_call d out ≡ ended_call d.room (end_of d.talk.state d.area d.talk.line d.room d.words out)
  unfolding end_call
  end_on = cond_false _ _ on ∙ cond_false _ _ roomy

  pub part_played : (bytes : List ℕ) (at : ℕ) (p : Played) (area room words after : List ℕ)
      → IsPlayer (play_part false bytes (player_at d at out)) p area room words after
      → IsCall (part_call d bytes at out) (record { refusal = 0; talk = talk_with p.state p.line false; at = p.at; length = p.length }) area room words after
  unfolding IsCall IsPlayer played_call
  part_played bytes at p area room words after w =
      call_same _ _ (sym (part_on bytes at)) _ area room words after
      (ap (λ (q : Played). record { refusal = 0; talk = talk_with q.state q.line false; at = q.at; length = q.length }) w.0, w.1)

  pub end_played : (s : State) (n : ℕ) (area words after room : List ℕ) (none : Line) → none ≡ no_line
      → IsFed (end_of d.talk.state d.area d.talk.line d.room d.words out) d.room s n area words after room
      → IsCall (end_call d out) (record { refusal = 0; talk = talk_with s none true; at = 0; length = n }) area room words after
  unfolding IsCall IsFed ended_call
  end_played s n area words after room none z w =
      let told : record { refusal = 0; talk = talk_with s none true; at = 0; length = n } ≡ heard_of (ended_call d.room (end_of d.talk.state d.area d.talk.line d.room d.words out)) =
      ap₂ (λ (t : State) (l : Line). record { refusal = 0; talk = talk_with t l true; at = 0; length = n }) w.0 z
      ∙ ap (λ (k : ℕ). record { refusal = 0; talk = talk_with (end_of d.talk.state d.area d.talk.line d.room d.words out).state no_line true; at = 0; length = k }) w.1.0 in
      call_same _ _ (sym end_on) _ area room words after (told, (w.1.1.0, (w.1.1.1.1.1, (w.1.1.1.0, w.1.1.1.1.0))))

  -- the rooms are there
  pub words_there : most_words ≤ length d.words
  words_there = ltb-false (length d.words) most_words (or_right (ltb (length d.room) longest) _ (or_left _ _ roomy))

  pub out_there : most_text ≤ length out
  out_there = ltb-false (length out) most_text (or_right (ltb (length d.room) longest || ltb (length d.words) most_words) _ roomy)
