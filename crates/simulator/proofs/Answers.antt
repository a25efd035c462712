-- A line through an image: its answer, the image after it, and what a refusal leaves. Assumes nothing.
use borrow.Author.Tests.{eq-eqb, ne_eqb, le-leb, lt-leb, leb-false, lt-ltb, le-ltb}
use lib.IntN.{ℤ, pos}
use mir.Syntax.{w64}
use mir.Val.{to_z}
use mir.ValLaws.{to_z_pos}
use mathlib.Core.Path.{◌≡◌, refl, sym, ap, ◌∙◌}
use mathlib.Core.Bool.{Bool, true, false, cond, not}
use mathlib.Core.List.{List, [], ◌++◌}
use Prim.Native.Nat.{ℕ, ◌+◌, ◌≤◌, ◌<◌}
use native.Mathlib.Omega.{arith}
use lib.Dec.{eqb, leb, ltb}
use lib.ListN.{length, take, replicate, length-replicate}
use Rattle.area.specs.Lists.{all_of}
use Rattle.area.specs.Parts.{paste, pasted_in}
use Rattle.area.proofs.Walks.{by_test, or_neither}
use Rattle.area.proofs.Pastes.{paste_fitting}
use Rattle.area.proofs.Joins.{take_paste}
use Rattle.channel.specs.Units.{unit_count}
use Rattle.state.specs.declared.State.{State}
use Rattle.state.specs.Places.{before_start}
use Rattle.session_frame.specs.Frames.{frame_of, longest, is_text, kind_of, kind_by, fresh_from, sized}
use Rattle.session_frame.specs.Digits.{bytes_of}
use Rattle.session_frame.specs.Writes.{place_after}
use Rattle.session_frame.specs.declared.Frame.{Frame}
use Rattle.session_frame.specs.declared.Frame.TheVariants.{Malformed}
use Rattle.session_frame.proofs.Laws.Accepts.{frame_long}
use Rattle.session_reply.specs.Replies.{Reply, answer_to, text_of}
use Rattle.session_reply.proofs.Stores.{Counts}
use Rattle.session_reply.proofs.Kept.{answer_area}
use Rattle.session.specs.Rooms.{most_words, most_text, lacks_rooms, After, after_line}
use Rattle.session.proofs.Answering.{malformed_answer}
use Rattle.session.proofs.Fits.{text_longest, text_written}
use Rattle.session.proofs.Written.{IsAfter, with_rooms}
use Rattle.state_image.specs.Images.{image_size, image_words, image_of, state_in, area_in, is_image, image_in, image_fits}
use Rattle.state_image.specs.declared.Image.{Image}
use Rattle.state_image.proofs.Theorems.{good_size, whole_read, area_read}
use Rattle.simulator.specs.Calls.{Called, refused_call, start_call, answered_call, answer_call, held_line}

-- ---- the line that the room holds

empty_malformed : frame_of [] ≡ Malformed
unfolding frame_of is_text kind_of kind_by fresh_from sized bytes_of all_of
empty_malformed = refl

pub held_answer : (s : State) (area frame : List ℕ) → answer_to s area (held_line longest frame) ≡ answer_to s area frame
held_answer s area frame =
    by_test (λ (t : Bool). answer_to s area (cond t frame []) ≡ answer_to s area frame) (leb (length frame) longest)
    (λ e. refl)
    (λ e. malformed_answer s area [] empty_malformed ∙ sym (malformed_answer s area frame (frame_long frame (leb-false (length frame) longest e))))

-- a frame that the room takes, and one that it does not
pub held_whole : (frame room : List ℕ) → length frame ≤ length room → take (length frame) (pasted_in 0 frame room) ≡ held_line (length room) frame
held_whole frame room h =
    let fit : 0 + length frame ≤ length room = omega arith in
    let z : 0 + length frame ≡ length frame = omega arith in
    ap (take (length frame)) (paste_fitting 0 frame room fit)
    ∙ ap (λ (k : ℕ). take k (paste 0 frame room)) (sym z) ∙ take_paste 0 (length frame) frame room refl (omega arith)
    ∙ sym (ap (λ (t : Bool). cond t frame []) (le-leb (length frame) (length room) h))

pub held_none : (frame room : List ℕ) → length room < length frame → [] ≡ held_line (length room) frame
held_none frame room h = sym (ap (λ (t : Bool). cond t frame []) (lt-leb (length frame) (length room) h))

-- what is after a line, said of an equal one
pub held_moved : (s : State) (area words out l m : List ℕ) → l ≡ m → (t : State) (k : ℕ) (a o : List ℕ)
    → t ≡ (after_line (answer_to s area l) s area l words out).state → k ≡ (after_line (answer_to s area l) s area l words out).length
    → a ≡ (after_line (answer_to s area l) s area l words out).area → o ≡ (after_line (answer_to s area l) s area l words out).out
    → (t ≡ (after_line (answer_to s area m) s area m words out).state) × ((k ≡ (after_line (answer_to s area m) s area m words out).length)
    × ((a ≡ (after_line (answer_to s area m) s area m words out).area) × (o ≡ (after_line (answer_to s area m) s area m words out).out)))
held_moved s area words out l m p t k a o et ek ea eo =
    let q : after_line (answer_to s area l) s area l words out ≡ after_line (answer_to s area m) s area m words out =
    ap (λ (x : List ℕ). after_line (answer_to s area x) s area x words out) p in
    (et ∙ ap (λ (x : After). x.state) q, (ek ∙ ap (λ (x : After). x.length) q, (ea ∙ ap (λ (x : After). x.area) q, eo ∙ ap (λ (x : After). x.out) q)))

-- ---- start

pub start_other : (state : List ℕ) → (length state ≡ image_size unit_count → ⊥) → start_call state ≡ refused_call 1 state []
unfolding start_call
start_other state n = rw (ne_eqb (length state) (image_size unit_count) n)

pub start_fits : (state : List ℕ) → length state ≡ image_size unit_count → start_call state ≡ record { result = pos 0; state = image_of unit_count before_start (replicate image_words 0); answer = [] }
unfolding start_call
start_fits state e = rw (eq-eqb (length state) (image_size unit_count) e)

pub image_put_there : (bytes area : List ℕ) (s : State) → length bytes ≡ image_size unit_count → length area ≡ image_words
    → cond (image_fits bytes area) (image_of unit_count s area) bytes ≡ image_of unit_count s area
image_put_there bytes area s e f = rw (eq-eqb (length bytes) (image_size unit_count) e, eq-eqb (length area) image_words f)

-- ---- answer

pub answer_no_image : (state frame answer : List ℕ) → is_image unit_count state ≡ false → answer_call state frame answer ≡ refused_call 16 state answer
unfolding answer_call
answer_no_image state frame answer e = rw e

pub answer_short : (state frame answer : List ℕ) → is_image unit_count state ≡ true → length answer < most_text → answer_call state frame answer ≡ refused_call 1 state answer
unfolding answer_call
answer_short state frame answer e h = rw (e, lt-ltb (length answer) most_text h)

pub answer_accepted : (state frame answer : List ℕ) → is_image unit_count state ≡ true → most_text ≤ length answer
    → answer_call state frame answer ≡ answered_call (answer_to (state_in unit_count state) (area_in unit_count state) frame) answer
unfolding answer_call
answer_accepted state frame answer e h = rw (e, le-ltb (length answer) most_text h)

pub units_all : unit_count ≤ unit_count
units_all = omega arith

pub state_there : (state : List ℕ) → is_image unit_count state ≡ true → (image_in state).state ≡ state_in unit_count state
state_there state good = rw (eq-eqb (length state) (image_size unit_count) (good_size unit_count units_all state good))

pub area_there : (state area : List ℕ) → is_image unit_count state ≡ true → length area ≡ image_words
    → cond (image_fits state area) (area_in unit_count state) area ≡ area_in unit_count state
area_there state area good e = rw (eq-eqb (length state) (image_size unit_count) (good_size unit_count units_all state good), eq-eqb (length area) image_words e)

module _ (state frame answer words : List ℕ) (good : is_image unit_count state ≡ true) (space : most_text ≤ length answer) (roomy : most_words ≤ length words)
    (s : State) (area : List ℕ) (is_state : s ≡ state_in unit_count state) (is-area : area ≡ area_in unit_count state) where
  abbrev line : List ℕ
  line = held_line longest frame

  abbrev after : After
  after = after_line (answer_to s area line) s area line words answer

  abbrev reply : Reply
  reply = answer_to s area frame

  rooms : lacks_rooms words answer ≡ false
  rooms = or_neither _ _ (le-ltb (length words) most_words roomy) (le-ltb (length answer) most_text space)

  counts : Counts s
  counts =
      let w = whole_read unit_count units_all state in
      record { files = ap (λ (x : State). length x.files) is_state ∙ w.files; channels = ap (λ (x : State). length x.channels) is_state ∙ w.channels }

  call : answer_call state frame answer ≡ answered_call reply answer
  call = answer_accepted state frame answer good space ∙ rw (is_state, is-area)

  after_state : after.state ≡ reply.state
  unfolding IsAfter
  after_state = sym (with_rooms (answer_to s area line) s area line words answer rooms).0 ∙ ap (λ (x : Reply). x.state) (held_answer s area frame)

  after_length : after.length ≡ length (text_of reply)
  unfolding IsAfter
  after_length =
      sym (with_rooms (answer_to s area line) s area line words answer rooms).1.0
      ∙ ap (λ (x : Reply). place_after 0 (text_of x) answer) (held_answer s area frame) ∙ (text_written s area frame answer counts space).0

  after_area : after.area ≡ reply.area
  unfolding IsAfter
  after_area = sym (with_rooms (answer_to s area line) s area line words answer rooms).1.1.0 ∙ ap (λ (x : Reply). x.area) (held_answer s area frame)

  after_out : after.out ≡ paste 0 (text_of reply) answer
  unfolding IsAfter
  after_out =
      sym (with_rooms (answer_to s area line) s area line words answer rooms).1.1.1.1
      ∙ ap (λ (x : Reply). pasted_in 0 (text_of x) answer) (held_answer s area frame) ∙ (text_written s area frame answer counts space).1

  long : length reply.area ≡ image_words
  long = answer_area s area frame counts ∙ ap length is-area ∙ area_read unit_count units_all state

  pub answer_small : (k : ℕ) → k ≡ after.length → k ≤ most_text
  answer_small k e = omega (arith, e, after_length, text_longest s area frame counts)

  pub answer_given : (k : ℕ) (t : State) (a o st : List ℕ) → k ≡ after.length → t ≡ after.state → a ≡ after.area → o ≡ after.out
      → st ≡ cond (image_fits state a) (image_of unit_count t a) state
      → (to_z w64 k ≡ (answer_call state frame answer).result) × ((st ≡ (answer_call state frame answer).state) × (o ≡ (answer_call state frame answer).answer))
  unfolding answered_call
  answer_given k t a o st ek et ea eo es =
      let fa : a ≡ reply.area = ea ∙ after_area in
      let ft : t ≡ reply.state = et ∙ after_state in
      let low : k < 9223372036854775808 = omega (arith, answer_small k ek) in
      let there : st ≡ image_of unit_count reply.state reply.area =
      es ∙ image_put_there state a t (good_size unit_count units_all state good) (ap length fa ∙ long)
      ∙ ap (λ (x : State). image_of unit_count x a) ft ∙ ap (image_of unit_count reply.state) fa in (
        to_z_pos w64 k low ∙ ap pos (ek ∙ after_length) ∙ sym (ap (λ (x : Called). x.result) call),
        (there ∙ sym (ap (λ (x : Called). x.state) call), eo ∙ after_out ∙ sym (ap (λ (x : Called). x.answer) call)),
      )

-- ---- the refusals and the start, as the calls give them

not_true : (b : Bool) → not b ≡ true → b ≡ false
not_true true e = sym e
not_true false e = refl

not_false : (b : Bool) → not b ≡ false → b ≡ true
not_false true e = refl
not_false false e = sym e

-- what the test of the image says
pub is_no_image : (state : List ℕ) (x : Image) → x ≡ image_in state → not x.good ≡ true → is_image unit_count state ≡ false
is_no_image state x e t = ap (λ (y : Image). y.good) (sym e) ∙ not_true x.good t

pub is_an_image : (state : List ℕ) (x : Image) → x ≡ image_in state → not x.good ≡ false → is_image unit_count state ≡ true
is_an_image state x e t = ap (λ (y : Image). y.good) (sym e) ∙ not_false x.good t

-- a call that comes to x, said of each of its areas
pub as_called : (y x : Called) → y ≡ x → (x.result ≡ y.result) × ((x.state ≡ y.state) × (x.answer ≡ y.answer))
as_called y x e = (ap (λ (z : Called). z.result) (sym e), (ap (λ (z : Called). z.state) (sym e), ap (λ (z : Called). z.answer) (sym e)))

pub as_started : (y x : Called) → y ≡ x → (x.result ≡ y.result) × (x.state ≡ y.state)
as_started y x e = (ap (λ (z : Called). z.result) (sym e), ap (λ (z : Called). z.state) (sym e))

pub start_given : (state st : List ℕ) (s : State) → length state ≡ image_size unit_count → s ≡ before_start
    → st ≡ cond (image_fits state (replicate image_words 0)) (image_of unit_count s (replicate image_words 0)) state
    → (pos 0 ≡ (start_call state).result) × (st ≡ (start_call state).state)
start_given state st s e b p =
    let call = start_fits state e in
    let there : st ≡ image_of unit_count before_start (replicate image_words 0) =
    p ∙ image_put_there state (replicate image_words 0) s e (length-replicate {A = ℕ} image_words 0) ∙ ap (λ (x : State). image_of unit_count x (replicate image_words 0)) b in
    (sym (ap (λ (x : Called). x.result) call), there ∙ sym (ap (λ (x : Called). x.state) call))
