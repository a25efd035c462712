-- What a line of the session leaves on the desk, and what each call does to the first difference. Assumes nothing.
use mathlib.Core.Path.{◌≡◌, refl, sym, ap, ap₂, ◌∙◌}
use mathlib.Core.Bool.{Bool, true, false, not, cond, ◌&&◌, ◌||◌}
use mathlib.Core.List.{List, [], ◌∷◌, ◌++◌}
use Prim.Native.Nat.{ℕ, ◌+◌, ◌-◌, ◌≤◌, ◌<◌}
use native.Mathlib.Omega.{arith}
use borrow.Author.Tests.{eqb-true, ne_eqb, leb-true, leb-false, le-ltb, ltb-false}
use lib.Dec.{eqb, leb, ltb}
use lib.ListN.{length, take, drop, length-append, length-drop, length-take}
use lib.Seq.{take-take}
use Rattle.area.specs.Lists.{all_of}
use Rattle.area.specs.Parts.{paste, pasted_in}
use Rattle.area.proofs.Pastes.{paste_part}
use Rattle.area.proofs.Marks.{cond_false}
use Rattle.area.proofs.Walks.{by_test, true_not_false, or_neither}
use Rattle.session_frame.specs.Digits.{bytes_of, byte_digits, concat_map}
use Rattle.session_frame.specs.Writes.{place_after}
use Rattle.session_frame.specs.declared.Frame.{Frame}
use Rattle.session_frame.specs.declared.Frame.TheVariants.{Malformed}
use Rattle.session_frame.specs.Frames.{longest, is_text, sized, fresh_from, kind_by, kind_of, frame_of}
use Rattle.session_frame.proofs.Laws.Accepts.{frame_long}
use Rattle.session_frame.specs.declared.Answer.{Answer}
use Rattle.session_frame.specs.declared.Answer.TheVariants.{Refused, Done, Asked, Reported, Delivered, Got, GotError, Returned, Runs}
use Rattle.session_frame.specs.Answers.{answer_bytes, answer_text}
use Rattle.session_line.specs.declared.Line.{Line}
use Rattle.session_line.specs.Lines.{Text, Overlong, ended_lines, begun_line, last_line}
use Rattle.session_line.specs.Machine.{held_of, Holds}
use Rattle.session_line.proofs.Laws.Feeds.{ended_append, begun_append}
use Rattle.session_line.proofs.Laws.Holding.{clip_text, clip_over}
use Rattle.state.specs.declared.State.{State}
use Rattle.session_reply.specs.Replies.{Reply, given_words, reply_to, answer_to, text_of}
use Rattle.session_reply.proofs.Stores.{Counts}
use Rattle.session.specs.Rooms.{most_words, most_text, lacks_rooms, After, after_line}
use Rattle.session.proofs.Fits.{text_longest, text_written}
use Rattle.sheet.specs.declared.Desk.{Desk}
use Rattle.sheet.specs.Events.{event_of}
use Rattle.sheet.specs.Rows.{most_count, next}
use Rattle.sheet.specs.Sheet.{line_in, same_bytes, first_differs}
use Rattle.sheet.specs.Desks.{held_text, line_after, followed_desk, played_desk, Sat, sat_with, played_sat}
use Rattle.sheet.proofs.Steps.{same_long}

-- ---- the lines that are to come, when l has come of the first

unfoldable pub lines_from : List ℕ → List ℕ → List (List ℕ)
lines_from l xs = ended_lines l xs ++ last_line (begun_line l xs)

module _ (l xs ys : List ℕ) where
  from_append : lines_from l (xs ++ ys) ≡ (ended_lines l xs ++ ended_lines (begun_line l xs) ys) ++ last_line (begun_line (begun_line l xs) ys)
  unfolding lines_from
  from_append = ap₂ (λ (a : List (List ℕ)) (b : List ℕ). a ++ last_line b) (ended_append l xs ys) (begun_append l xs ys)

  -- a line has ended
  pub from_ended : (k rest : List ℕ) → ended_lines l xs ≡ k ∷ ended_lines [] rest → begun_line l xs ≡ begun_line [] rest → lines_from l (xs ++ ys) ≡ k ∷ lines_from [] (rest ++ ys)
  unfolding lines_from
  from_ended k rest e b =
      from_append
      ∙ ap₂ (λ (a : List (List ℕ)) (c : List ℕ). (a ++ ended_lines c ys) ++ last_line (begun_line c ys)) e b
      ∙ ap (λ (ls : List (List ℕ)). k ∷ ls) (ap₂ (λ (a : List (List ℕ)) (c : List ℕ). a ++ last_line c) (sym (ended_append [] rest ys)) (sym (begun_append [] rest ys)))

  -- none has
  pub from_open : (k : List ℕ) → ended_lines l xs ≡ [] → begun_line l xs ≡ k → lines_from l (xs ++ ys) ≡ lines_from k ys
  unfolding lines_from
  from_open k e b = from_append ∙ ap₂ (λ (a : List (List ℕ)) (c : List ℕ). (a ++ ended_lines c ys) ++ last_line (begun_line c ys)) e b

pub from_none : (l : List ℕ) → lines_from l [] ≡ last_line l
unfolding lines_from ended_lines begun_line
from_none l = refl

-- ---- the text in a room

empty_malformed : frame_of [] ≡ Malformed
unfolding frame_of is_text kind_of kind_by fresh_from sized bytes_of all_of
empty_malformed = refl

malformed_answer : (s : State) (area line : List ℕ) → frame_of line ≡ Malformed → answer_to s area line ≡ reply_to s area [] Malformed
unfolding answer_to given_words
malformed_answer s area line e = ap (λ (f : Frame). reply_to s area (given_words f line) f) e

module _ (line : Line) (room l : List ℕ) (size : length room ≡ longest) (h : Holds line room l) where
  held_short : length l ≤ longest → held_text line room ≡ l
  unfolding held_of held_text
  held_short k =
      let e : held_of line room ≡ Text l = h.held ∙ clip_text (length room) l (omega arith) in
      go line.overlong e
    where
      go : (b : Bool) → cond b Overlong (Text (take line.filled room)) ≡ Text l → cond b [] (take line.filled room) ≡ l
      go true e = absurd (let z : ◌≡◌ {A = ℕ} 0 1 = cc in omega arith)
      go false e = let z : take line.filled room ≡ l = cc in z

  held_long : longest < length l → held_text line room ≡ []
  unfolding held_of held_text
  held_long k =
      let e : held_of line room ≡ Overlong = h.held ∙ clip_over (length room) l (omega arith) in
      go line.overlong e
    where
      go : (b : Bool) → cond b Overlong (Text (take line.filled room)) ≡ Overlong → cond b [] (take line.filled room) ≡ []
      go true e = refl
      go false e = absurd (let z : ◌≡◌ {A = ℕ} 0 1 = cc in omega arith)

  held_frame : frame_of (held_text line room) ≡ frame_of l
  held_frame =
      by_test (λ t. leb (length l) longest ≡ t → frame_of (held_text line room) ≡ frame_of l) (leb (length l) longest)
      (λ q e. ap frame_of (held_short (leb-true (length l) longest e)))
      (λ q e. let k : longest < length l = leb-false (length l) longest e in ap frame_of (held_long k) ∙ empty_malformed ∙ sym (frame_long l k))
      refl

  held_answer : (s : State) (area : List ℕ) → answer_to s area (held_text line room) ≡ answer_to s area l
  held_answer s area =
      by_test (λ t. leb (length l) longest ≡ t → answer_to s area (held_text line room) ≡ answer_to s area l) (leb (length l) longest)
      (λ q e. ap (answer_to s area) (held_short (leb-true (length l) longest e)))
      (λ q e.
      let k : longest < length l = leb-false (length l) longest e in
      ap (answer_to s area) (held_long k) ∙ malformed_answer s area [] empty_malformed ∙ sym (malformed_answer s area l (frame_long l k)))
      refl

  -- an answer is not empty, and no answer is overlong
  pub held_same : (a : List ℕ) → 0 < length a → length a ≤ longest → same_bytes a (held_text line room) ≡ same_bytes a l
  held_same a some most =
      by_test (λ t. leb (length l) longest ≡ t → same_bytes a (held_text line room) ≡ same_bytes a l) (leb (length l) longest)
      (λ q e. ap (same_bytes a) (held_short (leb-true (length l) longest e)))
      (λ q e.
      let k : longest < length l = leb-false (length l) longest e in
      ap (same_bytes a) (held_long k)
      ∙ same_long a [] (λ z. omega (arith, z, some))
      ∙ sym (same_long a l (λ z. omega (arith, z, most, k))))
      refl

-- ---- what a line leaves

pair_some : (b : ℕ) (bs : List ℕ) → 3 ≤ length (concat_map byte_digits (b ∷ bs) ++ (10 ∷ []))
unfolding concat_map byte_digits
pair_some b bs = omega (arith, length-append (concat_map byte_digits bs) (10 ∷ []))

text_some : (a : Answer) (ws : List ℕ) → 3 ≤ length (answer_text a ws)
unfolding answer_text answer_bytes
text_some (Refused n) ws = pair_some n []
text_some Done ws = pair_some 0 []
text_some (Asked w) ws = pair_some 0 _
text_some (Reported r w) ws = pair_some 0 _
text_some (Delivered r x w) ws = pair_some 0 _
text_some (Got n) ws = pair_some 0 _
text_some (GotError n x) ws = pair_some 0 _
text_some (Returned e p) ws = pair_some 0 _
text_some (Runs p) ws = pair_some 0 _

answer_some : (s : State) (area line : List ℕ) → 3 ≤ length (text_of (answer_to s area line))
unfolding text_of
answer_some s area line = text_some (answer_to s area line).answer (answer_to s area line).words

pub paste_most : (ys xs : List ℕ) → length xs ≤ length (paste 0 ys xs)
unfolding paste
paste_most ys xs = omega (arith, length-append ys (drop (0 + length ys) xs), length-drop (0 + length ys) xs)

module _ (d : Desk) (area room words out : List ℕ) (at : ℕ) (line : Line) (l : List ℕ) (size : length room ≡ longest) (h : Holds line room l)
    (counts : Counts d.state) (roomy : most_words ≤ length words) (space : most_text ≤ length out) where
  abbrev text : List ℕ
  text = held_text line room

  abbrev reply : Reply
  reply = answer_to d.state area l

  rooms : lacks_rooms words out ≡ false
  rooms = or_neither _ _ (le-ltb (length words) most_words roomy) (le-ltb (length out) most_text space)

  abbrev pub given : List ℕ
  given = paste 0 (given_words (frame_of (held_text line room)) (held_text line room)) words

  line_after_lem : line_after d area (held_text line room) words out
      ≡ record { state = reply.state; length = length (text_of reply); area = reply.area; words = given; out = paste 0 (text_of reply) out }
  unfolding after_line
  line_after_lem =
      let t = text_written d.state area l out counts space in
      cond_false _ _ rooms
      ∙ ap (λ (r : Reply). record {
        state = r.state;
        length = place_after 0 (text_of r) out;
        area = r.area;
        words = paste 0 (given_words (frame_of (held_text line room)) (held_text line room)) words;
        out = pasted_in 0 (text_of r) out;
      }) (held_answer line room l size h d.state area)
      ∙ ap₂ (λ (n : ℕ) (zs : List ℕ). record {
        state = (answer_to d.state area l).state;
        length = n;
        area = (answer_to d.state area l).area;
        words = paste 0 (given_words (frame_of (held_text line room)) (held_text line room)) words;
        out = zs;
      }) t.0 t.1

  pub fit : 0 + length (text_of reply) ≤ length out
  fit = omega (arith, text_longest d.state area l counts, space)

  out_text : take (length (text_of reply)) (paste 0 (text_of reply) out) ≡ text_of reply
  out_text = paste_part 0 (text_of reply) out fit

  pub out_line : take (length (text_of reply) - 1) (paste 0 (text_of reply) out) ≡ line_in (text_of reply)
  out_line =
      sym (take-take (length (text_of reply) - 1) (length (text_of reply)) (paste 0 (text_of reply) out) (omega arith))
      ∙ ap (take (length (text_of reply) - 1)) out_text

  pub line_some : 0 < length (line_in (text_of reply))
  line_some = omega (arith, length-take (length (text_of reply) - 1) (text_of reply), answer_some d.state area l)

  pub line_most : length (line_in (text_of reply)) ≤ longest
  line_most = omega (arith, length-take (length (text_of reply) - 1) (text_of reply), text_longest d.state area l counts)

  abbrev pub played_to : Sat
  played_to =
      sat_with (followed_desk d reply.state (event_of d.state (frame_of l) (text_of reply)) (length (text_of reply))) at reply.area room given (paste 0 (text_of reply) out)

  pub played_to_lem : played_sat d (held_text line room) at area room words out ≡ played_to
  unfolding played_sat played_desk
  played_to_lem =
      ap (λ (x : After). sat_with (followed_desk d x.state (event_of d.state (frame_of (held_text line room)) (take x.length x.out)) x.length) at x.area room x.words x.out) line_after_lem
      ∙ ap₂ (λ (f : Frame) (t : List ℕ). sat_with (followed_desk d reply.state (event_of d.state f t) (length (text_of reply))) at reply.area room given (paste 0 (text_of reply) out))
      (held_frame line room l size h) out_text

-- ---- what is left: the first difference, and the requests

unfoldable pub differs_by : ℕ → Bool → ℕ → List ℕ → List (List ℕ) → List (List ℕ) → ℕ
differs_by differs waits frames a rest recorded =
    cond (eqb differs 0) (cond waits (first_differs frames (a ∷ rest) recorded) (first_differs (next frames) rest recorded)) differs

pub next_some : (n : ℕ) → 0 < next n
unfolding next
next_some n =
    by_test (λ b. ltb n most_count ≡ b → 0 < cond b (n + 1) n) (ltb n most_count)
    (λ q e. omega arith) (λ q e. omega (arith, ltb-false n most_count e)) refl

-- a line of the session is played
pub differs_played : (differs frames : ℕ) (done : Bool) (x a a' : List ℕ) → a' ≡ a → (rest recorded : List (List ℕ))
    → differs_by (cond (eqb differs 0 && done) (next frames) differs) (eqb differs 0 && not done) (next frames) a' rest (cond done [] recorded)
    ≡ differs_by differs false frames x (a ∷ rest) (cond done [] recorded)
unfolding differs_by first_differs
differs_played differs frames done x a a' e rest recorded = go (eqb differs 0) refl done
  where
    go : (b : Bool) → eqb differs 0 ≡ b → (done : Bool)
        → cond (eqb (cond (b && done) (next frames) differs) 0) (cond (b && not done) (first_differs (next frames) (a' ∷ rest) (cond done [] recorded))
        (first_differs (next (next frames)) rest (cond done [] recorded))) (cond (b && done) (next frames) differs)
        ≡ cond b (first_differs (next frames) (a ∷ rest) (cond done [] recorded)) differs
    go true q true = rw (ne_eqb (next frames) 0 (λ z. omega (arith, z, next_some frames)))
    go true q false = rw (q, e)
    go false q true = rw q
    go false q false = rw q

-- its answer is compared
pub differs_compared : (differs frames : ℕ) (x a h l : List ℕ) (rest recorded : List (List ℕ)) → differs ≡ 0 → 0 < frames → same_bytes a h ≡ same_bytes a l
    → differs_by (cond (same_bytes a h) differs frames) false frames x rest recorded ≡ differs_by differs true frames a rest (l ∷ recorded)
unfolding differs_by first_differs
differs_compared differs frames x a h l rest recorded z some same = rw (same, z) (go (same_bytes a l))
  where
    go : (b : Bool) → cond (eqb (cond b 0 frames) 0) (first_differs (next frames) rest recorded) (cond b 0 frames)
        ≡ cond b (first_differs (next frames) rest recorded) frames
    go true = refl
    go false = rw (ne_eqb frames 0 (λ e. omega (arith, e, some)))

-- it has no recorded line
pub differs_missing : (differs frames : ℕ) (x a : List ℕ) (rest : List (List ℕ)) → differs ≡ 0 → 0 < frames
    → differs_by frames false frames x rest [] ≡ differs_by differs true frames a rest []
unfolding differs_by first_differs
differs_missing differs frames x a rest z some = rw (z, ne_eqb frames 0 (λ e. omega (arith, e, some)))

-- a recorded line has no answer
pub differs_extra : (differs frames : ℕ) (x y : List ℕ) (recorded : List (List ℕ)) → eqb differs 0 ≡ true
    → differs_by (next frames) false frames x [] (y ∷ recorded) ≡ differs_by differs false frames x [] (y ∷ recorded)
unfolding differs_by first_differs
differs_extra differs frames x y recorded q = rw (q, ne_eqb (next frames) 0 (λ e. omega (arith, e, next_some frames)))

pub differs_end : (differs frames : ℕ) (x : List ℕ) (done : Bool) (recorded : List (List ℕ)) → (not (eqb differs 0) || done) ≡ true
    → differs_by differs false frames x [] (cond done [] recorded) ≡ differs
unfolding differs_by first_differs
differs_end differs frames x done recorded h = go (eqb differs 0) refl done h
  where
    go : (b : Bool) → eqb differs 0 ≡ b → (done : Bool) → (not b || done) ≡ true → cond b (first_differs (next frames) [] (cond done [] recorded)) differs ≡ differs
    go true q true h = sym (eqb-true differs 0 q)
    go true q false h = true_not_false h refl
    go false q done h = refl
