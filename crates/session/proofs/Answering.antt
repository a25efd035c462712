-- The line that the machine holds is answered as the line that came: its text goes after what is written. Assumes nothing.
use mathlib.Core.Path.{◌≡◌, refl, sym, ap, ◌∙◌, subst}
use mathlib.Core.Bool.{Bool, true, false, cond}
use mathlib.Core.List.{List, [], ◌++◌}
use Prim.Native.Nat.{ℕ, ◌+◌, ◌-◌, ◌≤◌, ◌<◌}
use native.Mathlib.Omega.{arith}
use borrow.Author.Tests.{leb-true, leb-false, le-ltb}
use lib.Dec.{leb}
use lib.ListN.{length, take, drop}
use lib.Seq.{drop-drop}
use Rattle.area.specs.Lists.{all_of}
use Rattle.area.specs.Parts.{paste, pasted_in}
use Rattle.area.proofs.Pastes.{length_paste}
use Rattle.area.proofs.Joins.{take_paste}
use Rattle.area.proofs.Walks.{by_test, or_neither}
use Rattle.session_frame.specs.Digits.{bytes_of}
use Rattle.session_frame.specs.Writes.{place_after}
use Rattle.session_frame.specs.declared.Frame.{Frame}
use Rattle.session_frame.specs.declared.Frame.TheVariants.{Malformed}
use Rattle.session_frame.specs.Frames.{longest, is_text, sized, fresh_from, kind_by, kind_of, frame_of}
use Rattle.session_frame.proofs.Laws.Accepts.{frame_long}
use Rattle.session_line.specs.declared.Line.{Line}
use Rattle.session_line.specs.Lines.{Text, Overlong}
use Rattle.session_line.specs.Machine.{held_of, Holds}
use Rattle.session_line.proofs.Laws.Holding.{clip_text, clip_over}
use Rattle.state.specs.declared.State.{State}
use Rattle.state_sound.specs.Soundness.{sound}
use Rattle.session_reply.specs.Replies.{Reply, given_words, reply_to, answer_to, text_of}
use Rattle.session_reply.specs.Turns.{answer_on}
use Rattle.session.specs.Rooms.{most_words, most_text, lacks_rooms, After}
use Rattle.session_reply.proofs.Stores.{Counts}
use Rattle.session.proofs.Written.{IsAfter, given_within, given_all, with_rooms}
use Rattle.session_reply.proofs.Agrees.{sound_right}
use Rattle.session.proofs.Fits.{text_written}
use Rattle.session.specs.Player.{held_text, after_held}

-- ---- malformed lines are answered alike

pub malformed_answer : (s : State) (area line : List ℕ) → frame_of line ≡ Malformed → answer_to s area line ≡ reply_to s area [] Malformed
unfolding answer_to given_words
malformed_answer s area line e = ap (λ (f : Frame). reply_to s area (given_words f line) f) e

empty_malformed : frame_of [] ≡ Malformed
unfolding frame_of is_text kind_of kind_by fresh_from sized bytes_of all_of
empty_malformed = refl

-- ---- the text in the room

module _ (line : Line) (room l : List ℕ) (size : length room ≡ longest) (h : Holds line room l) where
  held_short : length l ≤ longest → held_text line room ≡ l
  unfolding held_of held_text
  held_short k =
      let e : held_of line room ≡ Text l = h.held ∙ clip_text (length room) l (omega arith) in
      go line.overlong e
    where
      go : (b : Bool) → cond b Overlong (Text (take line.filled room)) ≡ Text l → cond b [] (take line.filled room) ≡ l
      go true e = absurd (let z : ◌≡◌ {A = ℕ} 0 1 = cc in omega arith)
      go false e = let z : take line.filled room ≡ l = cc in z

  held_long : longest < length l → held_text line room ≡ []
  unfolding held_of held_text
  held_long k =
      let e : held_of line room ≡ Overlong = h.held ∙ clip_over (length room) l (omega arith) in
      go line.overlong e
    where
      go : (b : Bool) → cond b Overlong (Text (take line.filled room)) ≡ Overlong → cond b [] (take line.filled room) ≡ []
      go true e = refl
      go false e = absurd (let z : ◌≡◌ {A = ℕ} 0 1 = cc in omega arith)

  -- an overlong line is malformed, and so is the empty one that stands for it
  held_answer : (s : State) (area : List ℕ) → answer_to s area (held_text line room) ≡ answer_to s area l
  held_answer s area =
      by_test (λ t. leb (length l) longest ≡ t → answer_to s area (held_text line room) ≡ answer_to s area l) (leb (length l) longest)
      (λ q e. ap (answer_to s area) (held_short (leb-true (length l) longest e)))
      (λ q e.
      let k : longest < length l = leb-false (length l) longest e in
      ap (answer_to s area) (held_long k) ∙ malformed_answer s area [] empty_malformed ∙ sym (malformed_answer s area l (frame_long l k)))
      refl

  pub held_reply : (s : State) (area : List ℕ) → sound s ≡ true → answer_on false s area (held_text line room) ≡ answer_to s area l
  held_reply s area good = sound_right s area (held_text line room) good ∙ held_answer s area

  -- ---- what is after it

  module _ (s : State) (area words out : List ℕ) (good : sound s ≡ true) (counts : Counts s) (roomy : most_words ≤ length words) (space : most_text ≤ length out) where
    abbrev after : After
    after = after_held false s area line room words out

    abbrev reply : Reply
    reply = answer_to s area l

    pub record Answered : Type 0 where
      pub state : after.state ≡ reply.state
      pub area' : after.area ≡ reply.area
      pub long : after.length ≡ length (text_of reply)
      pub text : after.out ≡ paste 0 (text_of reply) out
      pub words' : length after.words ≡ length words

    rooms : lacks_rooms words out ≡ false
    rooms = or_neither _ _ (le-ltb (length words) most_words roomy) (le-ltb (length out) most_text space)

    given_most : length (given_words (frame_of (held_text line room)) (held_text line room)) ≤ length words
    given_most =
        subst (λ (ws : List ℕ). length ws ≤ length words) (given_all (frame_of (held_text line room)) (held_text line room) (length words) refl roomy)
        (given_within (frame_of (held_text line room)) (held_text line room) (length words))

    pub held_answered : Answered
    unfolding after_held IsAfter
    held_answered =
        let w = with_rooms (answer_on false s area (held_text line room)) s area (held_text line room) words out rooms in
        let r = held_reply s area good in
        let t = text_written s area l out counts space in
        record {
          state = sym w.0 ∙ ap (λ (x : Reply). x.state) r;
          area' = sym w.1.1.0 ∙ ap (λ (x : Reply). x.area) r;
          long = sym w.1.0 ∙ ap (λ (x : Reply). place_after 0 (text_of x) out) r ∙ t.0;
          text = sym w.1.1.1.1 ∙ ap (λ (x : Reply). pasted_in 0 (text_of x) out) r ∙ t.1;
          words' =
              ap length (sym w.1.1.1.0)
              ∙ length_paste 0 (given_words (frame_of (held_text line room)) (held_text line room)) words (omega (arith, given_most));
        }

-- ---- a text after what is written

pub written_after : (end : ℕ) (text out : List ℕ) → end + length text ≤ length out
    → take (end + length text) (take end out ++ paste 0 text (drop end out)) ≡ take end out ++ text
unfolding paste
written_after end text out fit =
    let none : 0 + length text ≡ length text = omega arith in
    let same : take end out ++ paste 0 text (drop end out) ≡ paste end text out =
    ap (λ (n : ℕ). take end out ++ (text ++ drop n (drop end out))) none ∙ ap (λ (l : List ℕ). take end out ++ (text ++ l)) (drop-drop (length text) end out) in
    ap (take (end + length text)) same ∙ take_paste end (length text) text out refl (omega arith)
