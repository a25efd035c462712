-- Each line of a session gives exactly one answer line, counted by line feeds, and an overlong one gives 01. Assumes nothing.
use mathlib.Core.Path.{◌≡◌, refl, ap, ap₂, ◌∙◌}
use mathlib.Core.Bool.{Bool, false}
use mathlib.Core.List.{List, [], ◌∷◌, ◌++◌}
use Prim.Native.Nat.{ℕ, ◌+◌, ◌<◌, ◌/◌, ◌%◌}
use native.Mathlib.Omega.{arith}
use borrow.Author.Tests.{ne_eqb, ltb-true, ltb-false}
use lib.Dec.{eqb, ltb}
use lib.ListN.{length, replicate}
use Rattle.area.specs.Lists.{count_of}
use Rattle.area.proofs.Walks.{by_test}
use Rattle.session_frame.specs.Digits.{digit_of, byte_digits, concat_map}
use Rattle.session_frame.specs.declared.Answer.{Answer}
use Rattle.session_frame.specs.Answers.{answer_bytes, answer_text}
use Rattle.session_frame.specs.Frames.{longest}
use Rattle.session_frame.proofs.Laws.Accepts.{frame_long}
use Rattle.session_frame.proofs.Laws.Values.{digit_decimal, digit_letter}
use Rattle.session_line.specs.Lines.{feed, lines_of}
use Rattle.state.specs.declared.State.{State}
use Rattle.state.specs.Places.{before_start}
use Rattle.session_reply.specs.Replies.{Reply, reply_to, answer_to, text_of}
use Rattle.session.specs.Session.{area_words, with_text, play_lines, course_of, session_of, feeds_in}
use Rattle.session.proofs.Answering.{malformed_answer}
use Rattle.session.proofs.Playing.{with_more}

-- ---- the line feeds of an answer

count_append : (test : ℕ → Bool) (xs ys : List ℕ) → count_of test (xs ++ ys) ≡ count_of test xs + count_of test ys
unfolding count_of
count_append test [] ys = omega arith
count_append test (x ∷ xs) ys = let h = count_append test xs ys in omega (arith, h)

digit_no_feed : (n : ℕ) → eqb (digit_of n) feed ≡ false
digit_no_feed n =
    by_test (λ b. ltb n 10 ≡ b → eqb (digit_of n) feed ≡ false) (ltb n 10)
    (λ t e. let d = digit_decimal n (ltb-true n 10 e) in ne_eqb (digit_of n) feed (λ z. omega (arith, d, z)))
    (λ t e. let d = digit_letter n (ltb-false n 10 e) in ne_eqb (digit_of n) feed (λ z. omega (arith, d, z)))
    refl

digits_no_feed : (bs : List ℕ) → feeds_in (concat_map byte_digits bs) ≡ 0
unfolding feeds_in count_of concat_map byte_digits
digits_no_feed [] = refl
digits_no_feed (b ∷ bs) = rw (digit_no_feed (b / 16), digit_no_feed (b % 16), digits_no_feed bs)

pub text_one_feed : (a : Answer) (ws : List ℕ) → feeds_in (answer_text a ws) ≡ 1
unfolding feeds_in answer_text count_of
text_one_feed a ws =
    count_append (λ (c : ℕ). eqb c feed) (concat_map byte_digits (answer_bytes a ws)) (10 ∷ [])
    ∙ ap (λ (n : ℕ). n + 1) (digits_no_feed (answer_bytes a ws))

-- ---- of a session

pub lines_counted : (ls : List (List ℕ)) (s : State) (area : List ℕ) → feeds_in (play_lines s area ls).text ≡ length ls
unfolding feeds_in count_of play_lines with_text text_of
lines_counted [] s area = refl
lines_counted (l ∷ ls) s area =
    let one : feeds_in (answer_text (answer_to s area l).answer (answer_to s area l).words) ≡ 1 = text_one_feed (answer_to s area l).answer (answer_to s area l).words in
    let rest = lines_counted ls (answer_to s area l).state (answer_to s area l).area in
    count_append (λ (c : ℕ). eqb c feed) (answer_text (answer_to s area l).answer (answer_to s area l).words) (play_lines (answer_to s area l).state (answer_to s area l).area ls).text
    ∙ ap₂ (λ (m n : ℕ). m + n) one rest
    ∙ omega arith

pub one_answer_each : (bytes : List ℕ) → feeds_in (session_of bytes) ≡ length (lines_of bytes)
unfolding session_of course_of
one_answer_each bytes = lines_counted (lines_of bytes) before_start (replicate area_words 0)

-- ---- an overlong line: a single 01, and nothing changes

pub overlong_single : (s : State) (area l : List ℕ) (ls : List (List ℕ)) → longest < length l
    → play_lines s area (l ∷ ls) ≡ with_text (48 ∷ 49 ∷ 10 ∷ []) (play_lines s area ls)
unfolding play_lines reply_to text_of answer_text answer_bytes concat_map byte_digits digit_of
overlong_single s area l ls h =
    ap (λ (r : Reply). with_text (text_of r) (play_lines r.state r.area ls)) (malformed_answer s area l (frame_long l h))

-- lines after lines
pub lines_append : (ks ls : List (List ℕ)) (s : State) (area : List ℕ)
    → play_lines s area (ks ++ ls) ≡ with_text (play_lines s area ks).text (play_lines (play_lines s area ks).state (play_lines s area ks).area ls)
unfolding play_lines with_text
lines_append [] ls s area = refl
lines_append (k ∷ ks) ls s area =
    ap (with_text (text_of (answer_to s area k))) (lines_append ks ls (answer_to s area k).state (answer_to s area k).area)
    ∙ with_more (text_of (answer_to s area k)) (play_lines (answer_to s area k).state (answer_to s area k).area ks).text _
