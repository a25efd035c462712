-- A line comes to the same for the sheet, by its frame and its answer's digits, and in the history, by its call and its answer. Assumes nothing.
use mathlib.Core.Path.{◌≡◌, refl, sym, ap, ap₂, ◌∙◌}
use mathlib.Core.Bool.{Bool, true, false, not, cond, ◌&&◌, ◌||◌}
use mathlib.Core.Option.{Option, none, some}
use mathlib.Core.List.{List, [], ◌∷◌, ◌++◌}
use Prim.Native.Nat.{ℕ, zero, suc, ◌+◌, ◌/◌, ◌%◌, ◌≤◌, ◌<◌}
use native.Mathlib.Omega.{arith}
use borrow.Author.Tests.{eqb-true, eqb-false, eq-eqb, ne_eqb, ltb-true, ltb-false}
use lib.Dec.{eqb, ltb}
use lib.ListN.{length, take, drop, get_or}
use Rattle.area.specs.Lists.{one_if, count_of}
use Rattle.area.proofs.Walks.{by_test, and_left, and_right, and_both, true_not_false}
use Rattle.session_frame.specs.Digits.{digit_of, byte_digits, concat_map}
use Rattle.session_frame.specs.declared.Frame.{Frame}
use Rattle.session_frame.specs.declared.Frame.TheVariants.{Malformed, Fresh, Open, Close, Ask, Report, Get, Put, Seal, Skip, Freeze, Thaw, Return, Running}
use Rattle.session_frame.specs.Frames.{frame_of}
use Rattle.session_frame.specs.declared.Answer as said
use Rattle.session_frame.specs.declared.Answer.TheVariants.{Refused, Done, Asked}
use Rattle.session_frame.specs.Answers.{answer_bytes, answer_text}
use Rattle.session_frame.proofs.Laws.Values.{digit_decimal, digit_letter}
use Rattle.state.specs.declared.State.{State}
use Rattle.session_reply.specs.Replies.{Reply, answer_or, report_answer, masks_of, given_words, reply_to, answer_to, text_of}
use Rattle.area.specs.Parts.{part_of}
use Rattle.pack_start.specs.Fresh.{fresh_by}
use Rattle.pack_request.specs.declared.Reporting.{Reporting}
use Rattle.pack_request.specs.Calls.{ask_by, report_by, report_by_area}
use Rattle.pack.specs.Calls.{Call, fresh, opening, close, ask, report, get, put, seal, skip, freeze, thaw, return, running, Answer, answer_of}
use Rattle.pack.specs.Histories.{is_accepted as accepts, count}
use Rattle.demands_session.specs.Played.{call_of, call_in, cons_of, calls_in, state_for, area_for, lent_from}
use Rattle.sheet.specs.declared.Event.{Event}
use Rattle.sheet.specs.Events.{is_pair, is_accepted, is_repeated, no_event, ask_event, report_event, start_event, event_of}
use Rattle.sheet.specs.Sheet.{events_of}
use Rattle.demands_sheet.specs.Listed.{call_event, event_for, events_by}
use Rattle.std.specs.declared.option.Option.{Option as OptionOf}
use Rattle.std.specs.declared.option.Option.TheVariants.{Some, None}
use Rattle.word.specs.declared.Checked.{Checked}

-- ---- the digits of a byte are 0 and d exactly if it is d

digit_back : (n d : ℕ) → d < 10 → digit_of n ≡ d + 48 → n ≡ d
digit_back n d small e =
    by_test (λ b. ltb n 10 ≡ b → n ≡ d) (ltb n 10)
    (λ q t. omega (arith, e, digit_decimal n (ltb-true n 10 t)))
    (λ q t. absurd (omega (arith, e, small, ltb-false n 10 t, digit_letter n (ltb-false n 10 t)))) refl

byte_pair : (n d : ℕ) → d < 10 → (eqb (digit_of (n / 16)) 48 && eqb (digit_of (n % 16)) (d + 48)) ≡ eqb n d
byte_pair n d small =
    by_test (λ b. eqb n d ≡ b → (eqb (digit_of (n / 16)) 48 && eqb (digit_of (n % 16)) (d + 48)) ≡ b) (eqb n d)
    (λ q t. ap (λ (m : ℕ). eqb (digit_of (m / 16)) 48 && eqb (digit_of (m % 16)) (d + 48)) (eqb-true n d t) ∙ same)
    (λ q t.
    by_test (λ b. (eqb (digit_of (n / 16)) 48 && eqb (digit_of (n % 16)) (d + 48)) ≡ b → b ≡ false) (eqb (digit_of (n / 16)) 48 && eqb (digit_of (n % 16)) (d + 48))
    (λ _ w.
    let high : n / 16 ≡ 0 = digit_back (n / 16) 0 (omega arith) (eqb-true (digit_of (n / 16)) 48 (and_left (eqb (digit_of (n / 16)) 48) _ w)) in
    let low : n % 16 ≡ d = digit_back (n % 16) d small (eqb-true (digit_of (n % 16)) (d + 48) (and_right (eqb (digit_of (n / 16)) 48) _ w)) in
    absurd (eqb-false n d t (omega (arith, high, low))))
    (λ _ w. refl) refl)
    refl
  where
    same : (eqb (digit_of (d / 16)) 48 && eqb (digit_of (d % 16)) (d + 48)) ≡ true
    same =
        let high : d / 16 ≡ 0 = omega (arith, small) in
        let low : d % 16 ≡ d = omega (arith, small) in
        and_both _ _ (eq-eqb (digit_of (d / 16)) 48 (ap digit_of high ∙ digit_decimal 0 (omega arith)))
        (eq-eqb (digit_of (d % 16)) (d + 48) (ap digit_of low ∙ digit_decimal d small))

-- ---- an answer line

first_zero : (n : ℕ) (bs : List ℕ) → is_pair (concat_map byte_digits (n ∷ bs) ++ (10 ∷ [])) 0 1 48 ≡ eqb n 0
unfolding is_pair concat_map byte_digits
first_zero n bs = byte_pair n 0 (omega arith)

second_pair : (n m d : ℕ) (bs : List ℕ) → d < 10 → is_pair (concat_map byte_digits (n ∷ m ∷ bs) ++ (10 ∷ [])) 2 3 (d + 48) ≡ eqb m d
unfolding is_pair concat_map byte_digits
second_pair n m d bs small = byte_pair m d small

-- an answer that begins with 0 unless it is refused
module _ (n : ℕ) (a : said.Answer) (ws bs : List ℕ) (begins : answer_bytes a ws ≡ 0 ∷ bs) where
  accepted_is : is_accepted (answer_text (answer_or n a) ws) ≡ eqb n 0
  unfolding answer_text answer_bytes
  accepted_is =
      by_test (λ b. eqb n 0 ≡ b → is_pair (concat_map byte_digits (answer_bytes (cond b a (Refused n)) ws) ++ (10 ∷ [])) 0 1 48 ≡ b) (eqb n 0)
      (λ q t. ap (λ (xs : List ℕ). is_pair (concat_map byte_digits xs ++ (10 ∷ [])) 0 1 48) begins ∙ first_zero 0 bs)
      (λ q t. first_zero n [] ∙ t) refl

-- a report's answer has its result after the 0
result_is : (result : ℕ) (bs : List ℕ) → is_repeated (concat_map byte_digits (0 ∷ result ∷ bs) ++ (10 ∷ [])) ≡ (eqb result 0 || eqb result 7)
result_is result bs = ap₂ (λ (x y : Bool). x || y) (second_pair 0 result 0 bs (omega arith)) (second_pair 0 result 7 bs (omega arith))

reported_is : (n result : ℕ) (a : said.Answer) (ws bs : List ℕ) → answer_bytes a ws ≡ 0 ∷ result ∷ bs
    → (is_accepted (answer_text (answer_or n a) ws) && not (is_repeated (answer_text (answer_or n a) ws))) ≡ (eqb n 0 && not (eqb result 0 || eqb result 7))
unfolding answer_text answer_bytes
reported_is n result a ws bs begins =
    by_test (λ b. eqb n 0 ≡ b → (is_accepted (concat_map byte_digits (answer_bytes (cond b a (Refused n)) ws) ++ (10 ∷ []))
    && not (is_repeated (concat_map byte_digits (answer_bytes (cond b a (Refused n)) ws) ++ (10 ∷ [])))) ≡ (b && not (eqb result 0 || eqb result 7))) (eqb n 0)
    (λ q t. ap (λ (xs : List ℕ). is_accepted (concat_map byte_digits xs ++ (10 ∷ [])) && not (is_repeated (concat_map byte_digits xs ++ (10 ∷ [])))) begins
    ∙ ap₂ (λ (x y : Bool). x && not y) (first_zero 0 _) (result_is result bs))
    (λ q t. ap (λ (x : Bool). x && not (is_repeated (concat_map byte_digits (n ∷ []) ++ (10 ∷ [])))) (first_zero n [] ∙ t)) refl

report_begins : (result : ℕ) (d : OptionOf Checked) (working : ℕ) (ws : List ℕ)
    → answer_bytes (report_answer result d working) ws ≡ 0 ∷ result ∷ drop 2 (answer_bytes (report_answer result d working) ws)
unfolding answer_bytes
report_begins result None working ws = refl
report_begins result (Some found) working ws = refl

-- ---- a line

frame_event : (s : State) (area words : List ℕ) (f : Frame) → event_of s f (text_of (reply_to s area words f)) ≡ event_for s area (call_of f words)
unfolding reply_to answer_of text_of answer_bytes ask_event
frame_event s area words Malformed = refl
frame_event s area words (Fresh q) = ap (λ (b : Bool). start_event b) (accepted_is (fresh_by s (length area) q.m q.w (masks_of q.masks)).refusal Done [] [] refl)
frame_event s area words (Open q) = refl
frame_event s area words (Close file) = refl
frame_event s area words (Ask q) =
    ap (λ (b : Bool). ask_event s q b) (accepted_is (ask_by s q.file q.op q.priority q.naming).refusal (Asked (ask_by s q.file q.op q.priority q.naming).working) [] _ refl)
frame_event s area words (Report q) = told (report_by s area q.channel q.unit q.outcome q.length words) (report_by_area s area q.channel q.unit q.outcome q.length words)
  where
    told : (x : Reporting) (after : List ℕ)
        → report_event q (is_accepted (answer_text (answer_or x.refusal (report_answer x.result x.delivery x.working)) (part_of x.start x.count after)))
        (is_repeated (answer_text (answer_or x.refusal (report_answer x.result x.delivery x.working)) (part_of x.start x.count after)))
        ≡ record { asked = false; reported = eqb x.refusal 0; answered = eqb x.refusal 0 && not (eqb x.result 0 || eqb x.result 7); started = false; file = 0; channel = q.channel; unit = q.unit }
    told x after =
        let begins = report_begins x.result x.delivery x.working (part_of x.start x.count after) in
        ap₂ (λ (a b : Bool). record { asked = false; reported = a; answered = b; started = false; file = 0; channel = q.channel; unit = q.unit })
        (accepted_is x.refusal (report_answer x.result x.delivery x.working) (part_of x.start x.count after) _ begins)
        (reported_is x.refusal x.result (report_answer x.result x.delivery x.working) (part_of x.start x.count after) _ begins)
frame_event s area words (Get file) = refl
frame_event s area words (Put q) = refl
frame_event s area words (Seal file) = refl
frame_event s area words (Skip file) = refl
frame_event s area words Freeze = refl
frame_event s area words Thaw = refl
frame_event s area words Return = refl
frame_event s area words Running = refl

line_event : (s : State) (area l : List ℕ) → event_of s (frame_of l) (text_of (answer_to s area l)) ≡ event_for s area (call_in l)
unfolding answer_to call_in
line_event s area l = frame_event s area (given_words (frame_of l) l) (frame_of l)

frame_state : (s : State) (area words : List ℕ) (f : Frame) → (reply_to s area words f).state ≡ state_for s area (call_of f words)
unfolding reply_to answer_of
frame_state s area words Malformed = refl
frame_state s area words (Fresh q) = refl
frame_state s area words (Open q) = refl
frame_state s area words (Close file) = refl
frame_state s area words (Ask q) = refl
frame_state s area words (Report q) = refl
frame_state s area words (Get file) = refl
frame_state s area words (Put q) = refl
frame_state s area words (Seal file) = refl
frame_state s area words (Skip file) = refl
frame_state s area words Freeze = refl
frame_state s area words Thaw = refl
frame_state s area words Return = refl
frame_state s area words Running = refl

frame_area : (s : State) (area words : List ℕ) (f : Frame) → (reply_to s area words f).area ≡ area_for s area (call_of f words)
unfolding reply_to answer_of
frame_area s area words Malformed = refl
frame_area s area words (Fresh q) = refl
frame_area s area words (Open q) = refl
frame_area s area words (Close file) = refl
frame_area s area words (Ask q) = refl
frame_area s area words (Report q) = refl
frame_area s area words (Get file) = refl
frame_area s area words (Put q) = refl
frame_area s area words (Seal file) = refl
frame_area s area words (Skip file) = refl
frame_area s area words Freeze = refl
frame_area s area words Thaw = refl
frame_area s area words Return = refl
frame_area s area words Running = refl

line_state : (s : State) (area l : List ℕ) → (answer_to s area l).state ≡ state_for s area (call_in l)
unfolding answer_to call_in
line_state s area l = frame_state s area (given_words (frame_of l) l) (frame_of l)

line_area : (s : State) (area l : List ℕ) → (answer_to s area l).area ≡ area_for s area (call_in l)
unfolding answer_to call_in
line_area s area l = frame_area s area (given_words (frame_of l) l) (frame_of l)

-- the sheet's events are those of the history
pub events_are : (ls : List (List ℕ)) (s : State) (area : List ℕ) → events_of s area ls ≡ events_by s area ls
unfolding events_of events_by
events_are [] s area = refl
events_are (l ∷ ls) s area =
    ap₂ (λ (e : Event) (es : List Event). e ∷ es) (line_event s area l)
    (ap₂ (λ (t : State) (xs : List ℕ). events_of t xs ls) (line_state s area l) (line_area s area l) ∙ events_are ls (state_for s area (call_in l)) (area_for s area (call_in l)))

-- the events of the first lines
pub events_take : (n : ℕ) (ls : List (List ℕ)) (s : State) (area : List ℕ) → take n (events_by s area ls) ≡ events_by s area (take n ls)
unfolding events_by
events_take zero ls s area = refl
events_take (suc n) [] s area = refl
events_take (suc n) (l ∷ ls) s area =
    ap (λ (es : List Event). event_for s area (call_in l) ∷ es) (events_take n ls (state_for s area (call_in l)) (area_for s area (call_in l)))

pub events_length : (ls : List (List ℕ)) (s : State) (area : List ℕ) → length (events_by s area ls) ≡ length ls
unfolding events_by
events_length [] s area = refl
events_length (l ∷ ls) s area = ap suc (events_length ls (state_for s area (call_in l)) (area_for s area (call_in l)))

-- what is counted of events is what the history counts of calls
module _ (test : Event → Bool) (kind : State → Call → Answer → Bool) (nothing : test no_event ≡ false)
    (agrees : (s : State) (call : Call) (a : Answer) → test (call_event s call a) ≡ (accepts a && kind s call a)) where
  count_cons : (s : State) (area : List ℕ) (c : Option Call) (calls : List Call)
      → cond (test (event_for s area c)) 1 0 + count kind (state_for s area c) (lent_from (state_for s area c) (area_for s area c) calls)
      ≡ count kind s (lent_from s area (cons_of c calls))
  unfolding count lent_from
  count_cons s area none calls = rw nothing (omega arith)
  count_cons s area (some call) calls =
      ap (λ (b : Bool). one_if b + count kind (answer_of s area call).state (lent_from (answer_of s area call).state (answer_of s area call).area calls)) (agrees s call (answer_of s area call))

  pub counts_are : (ls : List (List ℕ)) (s : State) (area : List ℕ) → count_of test (events_by s area ls) ≡ count kind s (lent_from s area (calls_in ls))
  unfolding count_of events_by calls_in count lent_from
  counts_are [] s area = refl
  counts_are (l ∷ ls) s area =
      ap (λ (n : ℕ). cond (test (event_for s area (call_in l))) 1 0 + n) (counts_are ls (state_for s area (call_in l)) (area_for s area (call_in l)))
      ∙ count_cons s area (call_in l) (calls_in ls)
