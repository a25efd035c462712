-- What a line's code does with its rooms comes to its definition. Assumes nothing.
use mathlib.Core.Path.{◌≡◌, refl, sym, ap, ap₂, ◌∙◌, subst}
use mathlib.Core.Bool.{Bool, true, false, cond}
use mathlib.Core.List.{List, ◌++◌, append-nil}
use Prim.Native.Nat.{ℕ, ◌+◌, ◌-◌, ◌≤◌}
use native.Mathlib.Omega.{arith}
use borrow.Author.Tests.{ltb-false, leb-true, leb-false}
use lib.Dec.{leb}
use lib.ListN.{length, take, drop, length-take, length-drop, drop_of_length-le}
use lib.Seq.{take_all}
use Rattle.area.specs.Parts.{part_of, paste, pasted_in}
use Rattle.area.proofs.Pastes.{part_all, paste_part, paste_fitting, paste_misfit, length_paste}
use Rattle.area.proofs.Marks.{cond_true, cond_false}
use Rattle.area.proofs.Walks.{by_test, or_left}
use Rattle.session_frame.specs.Digits.{bytes_of}
use Rattle.session_frame.specs.Fields.{words_of}
use Rattle.session_frame.specs.Writes.{place_after}
use Rattle.session_frame.specs.declared.Frame.{Frame}
use Rattle.session_frame.specs.declared.Frame.TheVariants.{Malformed, Fresh, Open, Close, Ask, Report, Get, Put, Seal, Skip, Freeze, Thaw, Return, Running}
use Rattle.session_frame.specs.Frames.{words_at, frame_of, words_from}
use Rattle.session_frame.proofs.Laws.Given.{All, report_words, put_words}
use Rattle.session_frame.specs.declared.Answer.{Answer}
use Rattle.session_frame.specs.Answers.{answer_text}
use Rattle.state.specs.declared.State.{State}
use Rattle.session_reply.specs.Replies.{Reply, given_words, text_of}
use Rattle.session_reply.specs.Turns.{Turned, turned_on, area_on, reply_on, answer_on}
use Rattle.session.specs.Rooms.{most_words, lacks_rooms, given_in, After, after_line}

-- ---- the words of a line

taken_most : (n : ℕ) (ws : List ℕ) → length (take n ws) ≤ n
taken_most n ws = omega (arith, length-take n ws)

pub given_within : (f : Frame) (line : List ℕ) (n : ℕ) → length (given_in f line n) ≤ n
unfolding given_in words_from
given_within (Report q) line n = taken_most n (words_of (drop (words_at q) (bytes_of line)))
given_within (Put q) line n = taken_most n (words_of (drop 2 (bytes_of line)))
given_within Malformed line n = omega arith
given_within (Fresh q) line n = omega arith
given_within (Open q) line n = omega arith
given_within (Close file) line n = omega arith
given_within (Ask q) line n = omega arith
given_within (Get file) line n = omega arith
given_within (Seal file) line n = omega arith
given_within (Skip file) line n = omega arith
given_within Freeze line n = omega arith
given_within Thaw line n = omega arith
given_within Return line n = omega arith
given_within Running line n = omega arith

all_taken : (line : List ℕ) (head k n : ℕ) → All line head k → most_words ≤ n → words_from line head n ≡ words_of (drop head (bytes_of line))
unfolding words_from
all_taken line head k n a h = take_all n (words_of (drop head (bytes_of line))) (omega (arith, a.counts, a.most))

-- a room of 1,024 words takes them all
pub given_all : (f : Frame) (line : List ℕ) (n : ℕ) → f ≡ frame_of line → most_words ≤ n → given_in f line n ≡ given_words f line
unfolding given_in given_words
given_all (Report q) line n e h = all_taken line (words_at q) q.words n (report_words line q (sym e)) h
given_all (Put q) line n e h = all_taken line 2 q.words n (put_words line q (sym e)) h
given_all Malformed line n e h = refl
given_all (Fresh q) line n e h = refl
given_all (Open q) line n e h = refl
given_all (Close file) line n e h = refl
given_all (Ask q) line n e h = refl
given_all (Get file) line n e h = refl
given_all (Seal file) line n e h = refl
given_all (Skip file) line n e h = refl
given_all Freeze line n e h = refl
given_all Thaw line n e h = refl
given_all Return line n e h = refl
given_all Running line n e h = refl

-- what is pasted at the front is what stands there
module _ (ys xs room : List ℕ) (n : ℕ) (fit : length ys ≤ length xs) (long : n ≡ length ys) (made : room ≡ paste 0 ys xs) where
  pub room_length : length room ≡ length xs
  room_length = ap length made ∙ length_paste 0 ys xs (omega arith)

  pub room_front : take n room ≡ ys
  room_front = ap₂ (λ (k : ℕ) (zs : List ℕ). take k zs) long made ∙ paste_part 0 ys xs (omega arith)

-- ---- the frame and the words of the line in the room

pub framed_as : (line room words text : List ℕ) (f : Frame) (n : ℕ) (given : List ℕ) → text ≡ line → f ≡ frame_of text → n ≡ length (given_in f text (length words))
    → given ≡ paste 0 (given_in f text (length words)) words
    → ((f ≡ frame_of line) × (n ≤ length words)) × ((n ≡ length (given_in f line (length words))) × (given ≡ paste 0 (given_in f line (length words)) words))
framed_as line room words text f n given et ef en eg = (
  (ef ∙ ap frame_of et, omega (arith, en, given_within f text (length words))),
  (
    en ∙ ap (λ (l : List ℕ). length (given_in f l (length words))) et,
    eg ∙ ap (λ (l : List ℕ). paste 0 (given_in f l (length words)) words) et,
  ),
)

pub front_fits : (line words : List ℕ) (f : Frame) (n : ℕ) (given : List ℕ) → n ≡ length (given_in f line (length words)) → given ≡ paste 0 (given_in f line (length words)) words
    → (n ≤ length given) × (length given ≡ length words)
front_fits line words f n given en eg =
    let fit = given_within f line (length words) in
    let same = room_length (given_in f line (length words)) words given n fit en eg in
    (omega (arith, en, fit, same), same)

-- ---- an answer after what is written

pub pasted_length : (t xs : List ℕ) → length (pasted_in 0 t xs) ≡ length xs
pasted_length t xs =
    by_test (λ b. leb (0 + length t) (length xs) ≡ b → length (pasted_in 0 t xs) ≡ length xs) (leb (0 + length t) (length xs))
    (λ q e. let fit : 0 + length t ≤ length xs = leb-true (0 + length t) (length xs) e in ap length (paste_fitting 0 t xs fit) ∙ length_paste 0 t xs fit)
    (λ q e. ap length (paste_misfit 0 t xs (leb-false (0 + length t) (length xs) e)))
    refl

place_within : (t xs : List ℕ) → place_after 0 t xs ≤ length xs
unfolding place_after
place_within t xs =
    by_test (λ b. leb (0 + length t) (length xs) ≡ b → cond b (0 + length t) 0 ≤ length xs) (leb (0 + length t) (length xs))
    (λ q e. leb-true (0 + length t) (length xs) e) (λ q e. omega arith) refl

module _ (out t shown : List ℕ) (a : Answer) (end n : ℕ) (fit : end ≤ length out) (is : t ≡ answer_text a shown)
    (long : n ≡ place_after 0 t (take (length out - end) (drop end out))) where
  rest : take (length out - end) (drop end out) ≡ drop end out
  rest = part_all end (length out - end) out (omega arith)

  pub place_short : end + n ≤ length out
  place_short = omega (arith, long, place_within t (take (length out - end) (drop end out)), length-take (length out - end) (drop end out), length-drop end out)

  pub place_at : end + n ≡ end + place_after 0 (answer_text a shown) (drop end out)
  place_at = ap (λ (k : ℕ). end + k) (long ∙ ap₂ (place_after 0) is rest)

  pub text_at : (sub : List ℕ) → sub ≡ pasted_in 0 t (take (length out - end) (drop end out))
      → take end out ++ (sub ++ drop (length out - end) (drop end out)) ≡ take end out ++ pasted_in 0 (answer_text a shown) (drop end out)
  text_at sub e =
      let none_left : length (drop end out) ≤ length out - end = omega (arith, length-drop end out) in
      ap (λ (l : List ℕ). take end out ++ l)
      (ap (λ (l : List ℕ). sub ++ l) (drop_of_length-le (drop end out) none_left) ∙ append-nil sub ∙ e ∙ ap₂ (pasted_in 0) is rest)

-- ---- with the rooms that it needs a line is answered

-- the five parts of what is after a line, each by an equation
unfoldable pub IsAfter : After → State → ℕ → List ℕ → List ℕ → List ℕ → Type 0
IsAfter x s n area words out = (s ≡ x.state) × ((n ≡ x.length) × ((area ≡ x.area) × ((words ≡ x.words) × (out ≡ x.out))))

after_is : (x y : After) → y ≡ x → IsAfter x y.state y.length y.area y.words y.out
unfolding IsAfter
after_is x y e = (
  ap (λ (z : After). z.state) e,
  (ap (λ (z : After). z.length) e, (ap (λ (z : After). z.area) e, (ap (λ (z : After). z.words) e, ap (λ (z : After). z.out) e))),
)

module _ (r : Reply) (s : State) (area line words out : List ℕ) where
  pub with_rooms : lacks_rooms words out ≡ false
      → IsAfter (after_line r s area line words out) r.state (place_after 0 (text_of r) out) r.area (paste 0 (given_words (frame_of line) line) words) (pasted_in 0 (text_of r) out)
  unfolding after_line
  with_rooms e = after_is _ (record {
    state = r.state;
    length = place_after 0 (text_of r) out;
    area = r.area;
    words = paste 0 (given_words (frame_of line) line) words;
    out = pasted_in 0 (text_of r) out;
  }) (sym (cond_false _ _ e))

-- ---- with them

module _ (unsound : Bool) (s : State) (area line words out : List ℕ) (rooms : lacks_rooms words out ≡ false) (f : Frame) (frame : f ≡ frame_of line)
    (n : ℕ) (count : n ≡ length (given_in f line (length words))) (room : List ℕ) (gave : room ≡ paste 0 (given_in f line (length words)) words)
    (x : Turned) (turn : x ≡ turned_on unsound s area f (take n room)) (after : List ℕ) (moved : after ≡ area_on unsound s area f (take n room))
    (shown : List ℕ) (shows : shown ≡ part_of x.start x.count after) where
  abbrev reply : Reply
  reply = answer_on unsound s area line

  given_is : given_in f line (length words) ≡ given_words (frame_of line) line
  given_is =
      let most : most_words ≤ length words = ltb-false (length words) most_words (or_left _ _ rooms) in
      given_all f line (length words) frame most ∙ ap (λ (g : Frame). given_words g line) frame

  front_is : take n room ≡ given_words (frame_of line) line
  front_is = room_front (given_in f line (length words)) words room n (given_within f line (length words)) count gave ∙ given_is

  turn_is : x ≡ turned_on unsound s area (frame_of line) (given_words (frame_of line) line)
  turn_is = turn ∙ ap₂ (λ (g : Frame) (ws : List ℕ). turned_on unsound s area g ws) frame front_is

  area_is : after ≡ area_on unsound s area (frame_of line) (given_words (frame_of line) line)
  area_is = moved ∙ ap₂ (λ (g : Frame) (ws : List ℕ). area_on unsound s area g ws) frame front_is

  reply_is : ◌≡◌ {A = Reply} (record { state = x.state; area = after; answer = x.answer; words = shown }) reply
  unfolding answer_on reply_on
  reply_is =
      ap (λ (ws : List ℕ). record { state = x.state; area = after; answer = x.answer; words = ws }) shows
      ∙ ap₂ (λ (y : Turned) (xs : List ℕ). record { state = y.state; area = xs; answer = y.answer; words = part_of y.start y.count xs }) turn_is area_is

  text_is : answer_text x.answer shown ≡ text_of reply
  unfolding text_of
  text_is = ap (λ (r : Reply). answer_text r.answer r.words) reply_is

  pub written_line : (k : ℕ) (wrote : List ℕ) → k ≡ place_after 0 (answer_text x.answer shown) out → wrote ≡ pasted_in 0 (answer_text x.answer shown) out
      → IsAfter (after_line reply s area line words out) x.state k after room wrote
  unfolding IsAfter
  written_line k wrote long text =
      let w = with_rooms reply s area line words out rooms in (
        ap (λ (r : Reply). r.state) reply_is ∙ w.0,
        (
          long ∙ ap (λ (t : List ℕ). place_after 0 t out) text_is ∙ w.1.0,
          (
            ap (λ (r : Reply). r.area) reply_is ∙ w.1.1.0,
            (gave ∙ ap (λ (ws : List ℕ). paste 0 ws words) given_is ∙ w.1.1.1.0, text ∙ ap (λ (t : List ℕ). pasted_in 0 t out) text_is ∙ w.1.1.1.1),
          ),
        ),
      )
