-- The part call and the end call write the answers of the session's lines, however it is cut and whatever the size of the outputs. Assumes nothing.
use mathlib.Core.Path.{◌≡◌, refl, sym, ap, ap₂, ◌∙◌, subst}
use mathlib.Core.Bool.{Bool, true, false, cond}
use mathlib.Core.List.{List, [], ◌∷◌, ◌++◌, append_assoc, append-nil}
use Prim.Native.Nat.{ℕ, zero, suc, ◌-◌, ◌≤◌, ◌<◌}
use native.Mathlib.Omega.{arith}
use borrow.Author.Tests.{leb-true, leb-false, le-leb, lt-leb, le-ltb}
use lib.Dec.{leb}
use lib.ListN.{length, take, drop, replicate, drop_of_length-le}
use Rattle.area.specs.Lists.{all_of}
use Rattle.area.proofs.Marks.{cond_true}
use Rattle.area.proofs.Walks.{by_test, and_left, and_right, or_first, or_neither}
use Rattle.session_frame.specs.Frames.{longest}
use Rattle.session_line.specs.declared.Line.{Line}
use Rattle.session_line.specs.Lines.{lines_of}
use Rattle.session_line.specs.Machine.{no_line, Holds}
use Rattle.session_line.specs.Runs.{joined}
use Rattle.session_line.proofs.Laws.Feeds.{lines_ended}
use Rattle.session_line.proofs.Laws.Holding.{holds_none}
use Rattle.state.specs.Places.{before_start}
use Rattle.state_sound.specs.Soundness.{sound}
use Rattle.state_sound.proofs.Wholes.{before_start_sound}
use Rattle.session_reply.proofs.Stores.{Counts}
use Rattle.session.specs.Rooms.{most_words, most_text}
use Rattle.session.specs.Session.{Course, with_text, play_lines, area_words, course_of, session_of, feeds_in}
use Rattle.session.specs.Player.{Player, play_turns, play_part}
use Rattle.session.specs.Talks.{talk_with, new_talk, Desk, desk_with, Call, refused_call, lacks_room, player_at, played_call, part_call, ended_call, end_call, Said, said_after, Piece, say_part, say_parts, AnyCall, APart, AnEnd, call_on, say_calls, say_all, play_session, take_answers, bytes_in}
use Rattle.session.proofs.Calling.{part_over, end_over, part_on, end_on}
use Rattle.session.proofs.Counting.{one_answer_each, overlong_single, lines_append}
use Rattle.session.proofs.Playing.{lines_from, with_none, with_more, Ready, Goes, part_goes_on, part_moves, end_told}

-- ---- a desk whose session holds l: the input has not ended, the state is sound, and the rooms are those that the calls ask for

record Sits (d : Desk) (l : List ℕ) : Type 0 where
  on : d.talk.ended ≡ false
  good : sound d.talk.state ≡ true
  counts : Counts d.talk.state
  held : Holds d.talk.line d.room l
  room : length d.room ≡ longest
  words : most_words ≤ length d.words

sits_ready : (d : Desk) (l : List ℕ) → Sits d l → (at : ℕ) (out : List ℕ) → most_text ≤ length out → Ready (player_at d at out) l
sits_ready d l S at out h =
    record { good = S.good; counts = S.counts; held = S.held; room = S.room; words = S.words; space = h; within = omega arith }

sits_roomy : (d : Desk) (l out : List ℕ) → Sits d l → most_text ≤ length out → lacks_room d out ≡ false
sits_roomy d l out S h =
    or_neither _ _ (or_neither _ _ (le-ltb (length d.room) longest (omega (arith, S.room))) (le-ltb (length d.words) most_words S.words)) (le-ltb (length out) most_text h)

ready_sits : (p : Player) (l : List ℕ) → Ready p l → Sits (played_call p).desk l
unfolding played_call
ready_sits p l R = record { on = refl; good = R.good; counts = R.counts; held = R.held; room = R.room; words = R.words }

-- ---- a part

-- what is written and what is still to come are together what was to come
record Tells (d : Desk) (l xs later : List ℕ) (r : Said) : Type 0 where
  next : List ℕ
  sits : Sits r.desk next
  same : play_lines d.talk.state d.area (lines_from l (xs ++ later)) ≡ with_text r.text (play_lines r.desk.talk.state r.desk.area (lines_from next later))

tells_none : (d : Desk) (l xs later : List ℕ) → Sits d l → xs ≡ [] → Tells d l xs later (record { text = []; desk = d })
tells_none d l xs later S e =
    record {
      next = l;
      sits = S;
      same =
          ap (λ (ys : List ℕ). play_lines d.talk.state d.area (lines_from l (ys ++ later))) e
          ∙ sym (with_none (play_lines d.talk.state d.area (lines_from l later)));
    }

module _ (d : Desk) (bytes : List ℕ) (at : ℕ) (out l later : List ℕ) where
  abbrev before : Player
  before = player_at d at out

  abbrev reached : Player
  reached = play_part false bytes before

  -- a call, and then the rest
  call_tells : (G : Goes bytes before l reached) (r : Said) → Tells (played_call reached).desk G.next (drop reached.at bytes) later r
      → Tells d l (drop at bytes) later (said_after (take reached.length reached.out) r)
  unfolding played_call said_after
  call_tells G r T =
      record {
        next = T.next;
        sits = T.sits;
        same =
            sym (with_none (play_lines d.talk.state d.area (lines_from l (drop at bytes ++ later))))
            ∙ G.same later
            ∙ ap (with_text (take reached.length reached.out)) T.same
            ∙ with_more (take reached.length reached.out) r.text (play_lines r.desk.talk.state r.desk.area (lines_from T.next later));
      }

  -- a part that is not used up has gone on
  call_moves : Ready before l → reached.at < length bytes → at ≤ reached.at → at < reached.at
  call_moves R more further =
      part_moves bytes before l R
      (or_neither _ _ (lt-leb (length bytes) at (omega arith)) (le-ltb (length out - 0) most_text (omega (arith, R.space))))

part_tells : (calls : ℕ) (d : Desk) (bytes : List ℕ) (at : ℕ) (out l later : List ℕ) → Sits d l → most_text ≤ length out → length bytes - at < calls
    → Tells d l (drop at bytes) later (say_part calls d bytes at out)
unfolding say_part played_call
part_tells zero d bytes at out l later S h k = absurd (omega arith)
part_tells (suc calls) d bytes at out l later S h k =
    let R = sits_ready d l S at out h in
    let G = part_goes_on bytes (player_at d at out) l R in
    subst
    (λ (x : Call). Tells d l (drop at bytes) later (said_after (take x.length x.out)
    (cond (leb (length bytes) x.at) (record { text = []; desk = x.desk }) (say_part calls x.desk bytes x.at x.out))))
    (sym (part_on d S.on out (sits_roomy d l out S h) bytes at))
    (call_tells d bytes at out l later G _
    (by_test
    (λ b. leb (length bytes) (play_part false bytes (player_at d at out)).at ≡ b → Tells (played_call (play_part false bytes (player_at d at out))).desk G.next (drop (play_part false bytes (player_at d at out)).at bytes) later
    (cond b (record { text = []; desk = (played_call (play_part false bytes (player_at d at out))).desk }) (say_part calls (played_call (play_part false bytes (player_at d at out))).desk bytes (play_part false bytes (player_at d at out)).at (play_part false bytes (player_at d at out)).out)))
    (leb (length bytes) (play_part false bytes (player_at d at out)).at)
    (λ z e. tells_none _ G.next _ later (ready_sits _ G.next G.ready) (drop_of_length-le bytes (leb-true (length bytes) (play_part false bytes (player_at d at out)).at e)))
    (λ z e.
    let more : (play_part false bytes (player_at d at out)).at < length bytes = leb-false (length bytes) (play_part false bytes (player_at d at out)).at e in
    let moves = call_moves d bytes at out l later R more G.further in
    part_tells calls (played_call (play_part false bytes (player_at d at out))).desk bytes (play_part false bytes (player_at d at out)).at (play_part false bytes (player_at d at out)).out G.next later
    (ready_sits _ G.next G.ready) G.ready.space (omega (arith, more, moves, k)))
    refl))

-- ---- part after part

parts_tell : (pieces : List Piece) (d : Desk) (l : List ℕ) → Sits d l → take_answers pieces ≡ true → Tells d l (bytes_in pieces) [] (say_parts d pieces)
unfolding say_parts said_after bytes_in joined take_answers all_of
parts_tell [] d l S h = tells_none d l [] [] S refl
parts_tell (piece ∷ pieces) d l S h =
    let T = part_tells (suc (length piece.bytes)) d piece.bytes 0 piece.out l (bytes_in pieces ++ []) S (leb-true most_text (length piece.out) (and_left _ _ h)) (omega arith) in
    let U = parts_tell pieces (say_part (suc (length piece.bytes)) d piece.bytes 0 piece.out).desk T.next T.sits (and_right (leb most_text (length piece.out)) _ h) in
    record {
      next = U.next;
      sits = U.sits;
      same =
          ap (λ (ys : List ℕ). play_lines d.talk.state d.area (lines_from l ys)) (append_assoc piece.bytes (bytes_in pieces) [])
          ∙ T.same
          ∙ ap (with_text (say_part (suc (length piece.bytes)) d piece.bytes 0 piece.out).text) U.same
          ∙ with_more (say_part (suc (length piece.bytes)) d piece.bytes 0 piece.out).text (say_parts (say_part (suc (length piece.bytes)) d piece.bytes 0 piece.out).desk pieces).text _;
    }

-- ---- the end

-- what a session comes to at its end: the state, the area and the text
course_at : List ℕ → Desk → Course
course_at text d = record { state = d.talk.state; area = d.area; text = text }

record Ends (d : Desk) (l : List ℕ) (x : Call) : Type 0 where
  course : course_at (take x.length x.out) x.desk ≡ play_lines d.talk.state d.area (lines_from l [])
  over : x.desk.talk.ended ≡ true
  line : x.desk.talk.line ≡ no_line

end_ends : (d : Desk) (l out : List ℕ) → Sits d l → most_text ≤ length out → Ends d l (end_call d out)
unfolding ended_call course_at
end_ends d l out S h =
    subst (λ (x : Call). Ends d l x) (sym (end_on d S.on out (sits_roomy d l out S h)))
    (record { course = end_told (player_at d 0 out) l (sits_ready d l S 0 out h); over = refl; line = refl })

-- ---- after the end: any number of calls, in any order, write nothing and change nothing, neither the session nor a word that it is lent

pub late_nothing : (calls : List AnyCall) (d : Desk) → d.talk.ended ≡ true → say_calls d calls ≡ record { text = []; desk = d }
unfolding say_calls call_on refused_call said_after
late_nothing [] d over = refl
late_nothing (APart bytes at out ∷ calls) d over =
    ap (λ (x : Call). said_after (take x.length x.out) (say_calls x.desk calls)) (part_over d over bytes at out)
    ∙ ap (said_after []) (late_nothing calls d over)
late_nothing (AnEnd out ∷ calls) d over =
    ap (λ (x : Call). said_after (take x.length x.out) (say_calls x.desk calls)) (end_over d over out)
    ∙ ap (said_after []) (late_nothing calls d over)

-- ---- the whole

before_counts : Counts before_start
unfolding before_start
before_counts = record { files = refl; channels = refl }

-- the answers' text, and the session and the area at the end
pub record Right (bytes : List ℕ) (r : Said) : Type 0 where
  pub text : r.text ≡ session_of bytes
  pub talk : r.desk.talk ≡ talk_with (course_of bytes).state no_line true
  pub area : r.desk.area ≡ (course_of bytes).area

all_right : (d : Desk) (pieces : List Piece) (out : List ℕ) (late : List AnyCall) → Sits d [] → take_answers pieces ≡ true → most_text ≤ length out
    → (course_at (say_all d pieces out late).text (say_all d pieces out late).desk ≡ play_lines d.talk.state d.area (lines_from [] (bytes_in pieces)))
    × (((say_all d pieces out late).desk.talk.ended ≡ true) × ((say_all d pieces out late).desk.talk.line ≡ no_line))
unfolding say_all said_after course_at with_text
all_right d pieces out late S h k =
    let T = parts_tell pieces d [] S h in
    let E = end_ends (say_parts d pieces).desk T.next out T.sits k in
    let L = late_nothing late (end_call (say_parts d pieces).desk out).desk E.over in
    let same : course_at ((say_parts d pieces).text ++ (take (end_call (say_parts d pieces).desk out).length (end_call (say_parts d pieces).desk out).out ++ [])) (end_call (say_parts d pieces).desk out).desk
    ≡ play_lines d.talk.state d.area (lines_from [] (bytes_in pieces)) =
    ap (λ (t : List ℕ). course_at ((say_parts d pieces).text ++ t) (end_call (say_parts d pieces).desk out).desk) (append-nil (take (end_call (say_parts d pieces).desk out).length (end_call (say_parts d pieces).desk out).out))
    ∙ ap (with_text (say_parts d pieces).text) E.course
    ∙ sym T.same
    ∙ ap (λ (ys : List ℕ). play_lines d.talk.state d.area (lines_from [] ys)) (append-nil (bytes_in pieces)) in
    subst (λ (z : Said). (course_at ((say_parts d pieces).text ++ (take (end_call (say_parts d pieces).desk out).length (end_call (say_parts d pieces).desk out).out ++ z.text)) z.desk ≡ play_lines d.talk.state d.area (lines_from [] (bytes_in pieces)))
    × ((z.desk.talk.ended ≡ true) × (z.desk.talk.line ≡ no_line))) (sym L)
    (same, (E.over, E.line))

module _ (room words : List ℕ) (size : length room ≡ longest) (roomy : most_words ≤ length words) where
  -- from the state before the first fresh start, in parts of any size, each with an output of any size that takes one answer, then the end, and
  -- then any calls more
  pub session_right : (pieces : List Piece) (out : List ℕ) (late : List AnyCall) → take_answers pieces ≡ true → most_text ≤ length out
      → Right (bytes_in pieces) (play_session room words pieces out late)
  unfolding play_session session_of course_of course_at lines_from
  session_right pieces out late h k =
      let S : Sits (desk_with new_talk (replicate area_words 0) room words) [] =
      record { on = refl; good = before_start_sound; counts = before_counts; held = holds_none room; room = size; words = roomy } in
      let A = all_right (desk_with new_talk (replicate area_words 0) room words) pieces out late S h k in
      let same : course_at (say_all (desk_with new_talk (replicate area_words 0) room words) pieces out late).text (say_all (desk_with new_talk (replicate area_words 0) room words) pieces out late).desk ≡ course_of (bytes_in pieces) =
      A.0 ∙ ap (play_lines before_start (replicate area_words 0)) (sym (lines_ended (bytes_in pieces))) in
      record {
        text = ap (λ (c : Course). c.text) same;
        talk =
            ap₂ (λ (l : Line) (b : Bool). talk_with (say_all (desk_with new_talk (replicate area_words 0) room words) pieces out late).desk.talk.state l b) A.1.1 A.1.0
            ∙ ap (λ (c : Course). talk_with c.state no_line true) same;
        area = ap (λ (c : Course). c.area) same;
      }

  -- each line has exactly one answer line, counted in what is written
  pub answers_counted : (pieces : List Piece) (out : List ℕ) (late : List AnyCall) → take_answers pieces ≡ true → most_text ≤ length out
      → feeds_in (play_session room words pieces out late).text ≡ length (lines_of (bytes_in pieces))
  answers_counted pieces out late h k = ap feeds_in (session_right pieces out late h k).text ∙ one_answer_each (bytes_in pieces)

  -- an overlong line, cut anywhere, has the single answer 01, and the lines after it are answered as if it were not there
  pub overlong_answered : (pieces : List Piece) (out : List ℕ) (late : List AnyCall) → take_answers pieces ≡ true → most_text ≤ length out
      → (ks ls : List (List ℕ)) (l : List ℕ) → lines_of (bytes_in pieces) ≡ ks ++ (l ∷ ls) → longest < length l
      → let c = play_lines before_start (replicate area_words 0) ks in
      (play_session room words pieces out late).text ≡ c.text ++ ((48 ∷ 49 ∷ 10 ∷ []) ++ (play_lines c.state c.area ls).text)
  unfolding session_of course_of with_text
  overlong_answered pieces out late h k ks ls l e long =
      let c = play_lines before_start (replicate area_words 0) ks in
      (session_right pieces out late h k).text
      ∙ ap (λ (ms : List (List ℕ)). (play_lines before_start (replicate area_words 0) ms).text) e
      ∙ ap (λ (x : Course). x.text) (lines_append ks (l ∷ ls) before_start (replicate area_words 0))
      ∙ ap (λ (x : Course). c.text ++ x.text) (overlong_single c.state c.area l ls long)

-- two ways to cut one session, as in one part and in many, with any outputs and any calls after the end, give the same text, session and area
pub any_parts : (room words room' words' : List ℕ) (pieces others : List Piece) (out out' : List ℕ) (late late' : List AnyCall)
    → length room ≡ longest → most_words ≤ length words → take_answers pieces ≡ true → most_text ≤ length out
    → length room' ≡ longest → most_words ≤ length words' → take_answers others ≡ true → most_text ≤ length out'
    → bytes_in pieces ≡ bytes_in others
    → ((play_session room words pieces out late).text ≡ (play_session room' words' others out' late').text)
    × (((play_session room words pieces out late).desk.talk ≡ (play_session room' words' others out' late').desk.talk)
    × ((play_session room words pieces out late).desk.area ≡ (play_session room' words' others out' late').desk.area))
any_parts room words room' words' pieces others out out' late late' a b c e a' b' c' e' same =
    let R = session_right room words a b pieces out late c e in
    let Q = session_right room' words' a' b' others out' late' c' e' in (
      R.text ∙ ap session_of same ∙ sym Q.text,
      (
        R.talk ∙ ap (λ (bytes : List ℕ). talk_with (course_of bytes).state no_line true) same ∙ sym Q.talk,
        R.area ∙ ap (λ (bytes : List ℕ). (course_of bytes).area) same ∙ sym Q.area,
      ),
    )

-- ---- a part of no length does nothing

pub empty_part : (d : Desk) (at : ℕ) (out : List ℕ) → d.talk.ended ≡ false → lacks_room d out ≡ false → part_call d [] at out ≡ record { refusal = 0; at = at; length = 0; desk = d; out = out }
unfolding played_call play_part play_turns
empty_part d at out on roomy =
    part_on d on out roomy [] at
    ∙ ap played_call (cond_true _ _ (or_first (leb 0 at) _ (le-leb 0 at (omega arith))))
    ∙ ap (λ (b : Bool). record { refusal = 0; at = at; length = 0; desk = desk_with (talk_with d.talk.state d.talk.line b) d.area d.room d.words; out = out }) (sym on)
