-- Every line of a session is answered as its call is: what is printed is a history. Assumes nothing.
use Prim.Native.Nat.{ℕ, ◌≤◌}
use mathlib.Core.Path.{◌≡◌, refl, sym, ap, ◌∙◌}
use mathlib.Core.Bool.{true}
use mathlib.Core.Option.{Option, none, some, none-ne-some}
use mathlib.Core.List.{List, [], ◌∷◌, ◌++◌}
use lib.ListN.{length}
use Rattle.session_frame.specs.declared.Frame.{Frame}
use Rattle.session_frame.specs.declared.Frame.TheVariants.{Malformed, Fresh, Open, Close, Ask, Report, Get, Put, Seal, Skip, Freeze, Thaw, Return, Running}
use Rattle.session_frame.specs.Frames.{frame_of, longest}
use Rattle.session_frame.specs.Digits.{concat_map, byte_digits, digit_of}
use Rattle.session_frame.specs.Answers.{answer_text, answer_bytes}
use Rattle.session_line.specs.Lines.{lines_of}
use Rattle.session_line.specs.Machine.{no_line}
use Rattle.state.specs.declared.State.{State}
use Rattle.state.specs.Places.{before_start}
use Rattle.session_reply.specs.Replies.{Reply, answer_or, given_words, reply_to, answer_to, text_of}
use Rattle.session.specs.Rooms.{most_words, most_text}
use Rattle.session.specs.Session.{Course, with_text, play_lines, course_of, session_of}
use Rattle.session.specs.Talks.{talk_with, Said, Piece, AnyCall, play_session, take_answers, bytes_in}
use Rattle.session.proofs.Sessions.{session_right}
use Rattle.pack.specs.Calls.{Call, answer_of}
use Rattle.pack.specs.Histories.{after}
use Rattle.demands_ledger.specs.Ledgers.{state_after, area_after}
use Rattle.demands_session.specs.Played.{call_of, call_in, cons_of, calls_in, said_by, no_frame, line_for, state_for, area_for, printed, IsHistory, zeros, lent_from}

-- ---- one line

-- what the session makes of a line is what its call answers
abbrev reply_by : State → List ℕ → Option Call → Reply
reply_by s area none = reply_to s area [] Malformed
reply_by s area (some call) =
    record {
      state = (answer_of s area call).state;
      area = (answer_of s area call).area;
      answer = answer_or (answer_of s area call).refusal (said_by (answer_of s area call).added);
      words = (answer_of s area call).shows;
    }

reply_is : (s : State) (area words : List ℕ) (f : Frame) → reply_to s area words f ≡ reply_by s area (call_of f words)
unfolding reply_to answer_of
reply_is s area words Malformed = refl
reply_is s area words (Fresh q) = refl
reply_is s area words (Open q) = refl
reply_is s area words (Close file) = refl
reply_is s area words (Ask q) = refl
reply_is s area words (Report q) = refl
reply_is s area words (Get file) = refl
reply_is s area words (Put q) = refl
reply_is s area words (Seal file) = refl
reply_is s area words (Skip file) = refl
reply_is s area words Freeze = refl
reply_is s area words Thaw = refl
reply_is s area words Return = refl
reply_is s area words Running = refl

line_is : (s : State) (area line : List ℕ) → answer_to s area line ≡ reply_by s area (call_in line)
unfolding answer_to call_in
line_is s area line = reply_is s area (given_words (frame_of line) line) (frame_of line)

-- ---- lines

course_by : (s : State) (area : List ℕ) (ls : List (List ℕ)) (c : Option Call)
    → with_text (text_of (reply_by s area c)) (play_lines (reply_by s area c).state (reply_by s area c).area ls)
    ≡ with_text (line_for s area c) (play_lines (state_for s area c) (area_for s area c) ls)
unfolding text_of reply_to
course_by s area ls none = refl
course_by s area ls (some call) = refl

-- a line, and then the others
pub course_cons : (s : State) (area l : List ℕ) (ls : List (List ℕ))
    → play_lines s area (l ∷ ls)
    ≡ with_text (line_for s area (call_in l)) (play_lines (state_for s area (call_in l)) (area_for s area (call_in l)) ls)
unfolding play_lines
course_cons s area l ls =
    ap (λ (r : Reply). with_text (text_of r) (play_lines r.state r.area ls)) (line_is s area l) ∙ course_by s area ls (call_in l)

state_cons : (s : State) (area : List ℕ) (calls : List Call) (c : Option Call)
    → state_after (state_for s area c) (area_for s area c) calls ≡ state_after s area (cons_of c calls)
unfolding state_after
state_cons s area calls none = refl
state_cons s area calls (some call) = refl

area_cons : (s : State) (area : List ℕ) (calls : List Call) (c : Option Call)
    → area_after (state_for s area c) (area_for s area c) calls ≡ area_after s area (cons_of c calls)
unfolding area_after
area_cons s area calls none = refl
area_cons s area calls (some call) = refl

pub history_is : (s : State) (area : List ℕ) (ls : List (List ℕ)) → IsHistory s area ls (play_lines s area ls)
unfolding play_lines with_text printed state_after area_after calls_in
history_is s area [] = record { text = refl; state = refl; words = refl }
history_is s area (l ∷ ls) =
    let e = course_cons s area l ls in
    let I = history_is (state_for s area (call_in l)) (area_for s area (call_in l)) ls in
    record {
      text = ap (λ (c : Course). c.text) e ∙ ap (λ (t : List ℕ). line_for s area (call_in l) ++ t) I.text;
      state = ap (λ (c : Course). c.state) e ∙ I.state ∙ state_cons s area (calls_in ls) (call_in l);
      words = ap (λ (c : Course). c.area) e ∙ I.words ∙ area_cons s area (calls_in ls) (call_in l);
    }

-- ---- a line that is no frame is no call, and no other is; it is answered 01, and changes nothing

none_malformed : (f : Frame) (words : List ℕ) → call_of f words ≡ none → f ≡ Malformed
none_malformed Malformed words e = refl
none_malformed (Fresh q) words e = absurd (none-ne-some _ (sym e))
none_malformed (Open q) words e = absurd (none-ne-some _ (sym e))
none_malformed (Close file) words e = absurd (none-ne-some _ (sym e))
none_malformed (Ask q) words e = absurd (none-ne-some _ (sym e))
none_malformed (Report q) words e = absurd (none-ne-some _ (sym e))
none_malformed (Get file) words e = absurd (none-ne-some _ (sym e))
none_malformed (Put q) words e = absurd (none-ne-some _ (sym e))
none_malformed (Seal file) words e = absurd (none-ne-some _ (sym e))
none_malformed (Skip file) words e = absurd (none-ne-some _ (sym e))
none_malformed Freeze words e = absurd (none-ne-some _ (sym e))
none_malformed Thaw words e = absurd (none-ne-some _ (sym e))
none_malformed Return words e = absurd (none-ne-some _ (sym e))
none_malformed Running words e = absurd (none-ne-some _ (sym e))

pub no_call_malformed : (line : List ℕ) → call_in line ≡ none → frame_of line ≡ Malformed
unfolding call_in
no_call_malformed line e = none_malformed (frame_of line) (given_words (frame_of line) line) e

pub malformed_no_call : (line : List ℕ) → frame_of line ≡ Malformed → call_in line ≡ none
unfolding call_in
malformed_no_call line e = ap (λ (f : Frame). call_of f (given_words f line)) e

-- its digits are 0 and 1
pub no_frame_text : no_frame ≡ 48 ∷ 49 ∷ 10 ∷ []
unfolding answer_text answer_bytes concat_map byte_digits digit_of
no_frame_text = refl

pub no_call_alone : (s : State) (area l : List ℕ) (ls : List (List ℕ)) → call_in l ≡ none
    → play_lines s area (l ∷ ls) ≡ with_text (48 ∷ 49 ∷ 10 ∷ []) (play_lines s area ls)
no_call_alone s area l ls e =
    course_cons s area l ls
    ∙ ap (λ (c : Option Call). with_text (line_for s area c) (play_lines (state_for s area c) (area_for s area c) ls)) e
    ∙ ap (λ (t : List ℕ). with_text t (play_lines s area ls)) no_frame_text

-- ---- the whole session

-- what is written, however the input is cut: the printed answers of the history of its lines' calls; and the state and the area that they lead to
pub record Plays (bytes : List ℕ) (r : Said) : Type 0 where
  pub text : r.text ≡ printed before_start zeros (lines_of bytes)
  pub talk : r.desk.talk ≡ talk_with (state_after before_start zeros (calls_in (lines_of bytes))) no_line true
  pub words : r.desk.area ≡ area_after before_start zeros (calls_in (lines_of bytes))

pub session_history : (room words : List ℕ) → length room ≡ longest → most_words ≤ length words
    → (pieces : List Piece) (out : List ℕ) (late : List AnyCall) → take_answers pieces ≡ true → most_text ≤ length out
    → Plays (bytes_in pieces) (play_session room words pieces out late)
unfolding session_of course_of
session_history room words size roomy pieces out late h k =
    let R = session_right room words size roomy pieces out late h k in
    let H = history_is before_start zeros (lines_of (bytes_in pieces)) in
    record {
      text = R.text ∙ H.text;
      talk = R.talk ∙ ap (λ (s : State). talk_with s no_line true) H.state;
      words = R.area ∙ H.words;
    }

-- ---- the history of a session as the demands take one

pub lent_state : (s : State) (area : List ℕ) (calls : List Call) → after s (lent_from s area calls) ≡ state_after s area calls
unfolding after lent_from state_after
lent_state s area [] = refl
lent_state s area (call ∷ calls) = lent_state (answer_of s area call).state (answer_of s area call).area calls
