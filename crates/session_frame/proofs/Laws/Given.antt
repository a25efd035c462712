-- The count that a report or a put holds is that of its words, at most 1,024: a room of 1,024 words takes them all. Assumes nothing.
use mathlib.Core.Path.{◌≡◌, refl, sym, subst}
use mathlib.Core.Bool.{Bool, true, false, cond}
use mathlib.Core.List.{List}
use Prim.Native.Nat.{ℕ, ◌+◌, ◌-◌, ◌*◌, ◌/◌, ◌%◌, ◌≤◌, ◌<◌}
use native.Mathlib.Omega.{arith}
use borrow.Author.Tests.{ltb-false, leb-true, eqb-true, eqb-false}
use lib.Dec.{ltb, eqb}
use lib.ListN.{length, drop, length-drop}
use lib.Seq.{take_all}
use Rattle.area.proofs.Walks.{by_test, and_left}
use Rattle.channel_outcomes.specs.Rules.{redundancy, no_length}
use Rattle.session_frame.specs.Digits.{bytes_of}
use Rattle.session_frame.specs.Fields.{byte_at, size_at, words_of}
use Rattle.session_frame.proofs.Laws.Bytes.{length_bytes_lem, length_words, size_small}
use Rattle.session_frame.specs.declared.Frame.{Frame}
use Rattle.session_frame.specs.declared.ReportFrame.{ReportFrame}
use Rattle.session_frame.specs.declared.PutFrame.{PutFrame}
use Rattle.session_frame.specs.declared.Frame.TheVariants.{Malformed, Fresh, Open, Close, Ask, Report, Get, Put, Seal, Skip, Freeze, Thaw, Return, Running}
use Rattle.session_frame.specs.Frames.{longest, is_text, sized, worded, word_count, fresh_from, open_from, ask_with, naming_ask, ask_from, report_head, length_head, shows_length, report_with, report_from, words_at, put_from, kind_by, kind_of, frame_of, words_from}
use Rattle.session_frame.proofs.Laws.Sizes.{words_plain, words_measured, frame_text, frame_other}

-- the count of words that a frame holds is exact, in a line of n bytes
Exact : Frame → ℕ → Type 0
Exact (Report q) n = n ≡ words_at q + 5 * q.words
Exact (Put q) n = n ≡ 2 + 5 * q.words
Exact Malformed n = Unit {0}
Exact (Fresh q) n = Unit {0}
Exact (Open q) n = Unit {0}
Exact (Close f) n = Unit {0}
Exact (Ask q) n = Unit {0}
Exact (Get f) n = Unit {0}
Exact (Seal f) n = Unit {0}
Exact (Skip f) n = Unit {0}
Exact Freeze n = Unit {0}
Exact Thaw n = Unit {0}
Exact Return n = Unit {0}
Exact Running n = Unit {0}

either : (t : Bool) (x y : Frame) (n : ℕ) → Exact x n → Exact y n → Exact (cond t x y) n
either true x y n p q = p
either false x y n p q = q

exact_worded : (n head : ℕ) (f : Frame) → (n ≡ head + 5 * word_count n head → Exact f n) → Exact (worded n head f) n
unfolding worded word_count Exact
exact_worded n head f x =
    by_test (λ t. ltb n head ≡ t → Exact (cond t Malformed (cond (eqb ((n - head) % 5) 0) f Malformed)) n) (ltb n head) (λ q e. tt)
    (λ q e. by_test (λ t. eqb ((n - head) % 5) 0 ≡ t → Exact (cond t f Malformed) n) (eqb ((n - head) % 5) 0)
    (λ r z.
    let below : head ≤ n = ltb-false n head e in
    let whole : (n - head) % 5 ≡ 0 = eqb-true ((n - head) % 5) 0 z in
    x (omega arith)) (λ r z. tt) refl) refl

exact_report : (n : ℕ) (b : List ℕ) → size_at b 4 < no_length → Exact (report_from n b) n
unfolding report_from report_with Exact
exact_report n b small =
    let plain : ReportFrame = record { channel = byte_at b 1; unit = byte_at b 2; outcome = byte_at b 3; length = no_length; words = word_count n report_head } in
    let long : ReportFrame =
    record { channel = byte_at b 1; unit = byte_at b 2; outcome = byte_at b 3; length = size_at b 4; words = word_count n length_head } in
    either (shows_length n) _ _ n
    (either (eqb (byte_at b 3) redundancy) _ _ n
    (exact_worded n length_head (Report long) (λ x. omega (arith, x, words_measured long (λ e. omega arith)))) tt)
    (exact_worded n report_head (Report plain) (λ x. omega (arith, x, words_plain plain refl)))

exact_kind : (k n : ℕ) (b : List ℕ) → size_at b 4 < no_length → Exact (kind_by k n b) n
unfolding kind_by fresh_from open_from ask_from ask_with put_from sized Exact
exact_kind k n b small =
    either (eqb k 0) _ _ n (either (eqb n 14) _ _ n tt tt)
    (either (eqb k 1) _ _ n (either (eqb n 9) _ _ n tt tt)
    (either (eqb k 2) _ _ n (either (eqb n 2) _ _ n tt tt)
    (either (eqb k 3) _ _ n (either (eqb n naming_ask) _ _ n tt (either (eqb n 4) _ _ n tt tt))
    (either (eqb k 4) _ _ n (exact_report n b small)
    (either (eqb k 5) _ _ n (either (eqb n 2) _ _ n tt tt)
    (either (eqb k 6) _ _ n (exact_worded n 2 (Put (record { file = byte_at b 1; words = word_count n 2 })) (λ x. x))
    (either (eqb k 7) _ _ n (either (eqb n 2) _ _ n tt tt)
    (either (eqb k 8) _ _ n (either (eqb n 2) _ _ n tt tt)
    (either (eqb k 9) _ _ n (either (eqb n 1) _ _ n tt tt)
    (either (eqb k 10) _ _ n (either (eqb n 1) _ _ n tt tt)
    (either (eqb k 11) _ _ n (either (eqb n 1) _ _ n tt tt)
    (either (eqb k 12) _ _ n (either (eqb n 1) _ _ n tt tt) tt))))))))))))

-- of a whole line: exact, and a line that holds a frame is not too long
exact_frame : (line : List ℕ) → Exact (frame_of line) (length line / 2) × ((frame_of line ≡ Malformed → ⊥) → length line ≤ longest)
unfolding kind_of is_text Exact
exact_frame line =
    by_test (λ t. is_text line ≡ t → Exact (frame_of line) (length line / 2) × ((frame_of line ≡ Malformed → ⊥) → length line ≤ longest)) (is_text line)
    (λ q t. (
      subst (λ (f : Frame). Exact f (length line / 2)) (sym (frame_text line t)) (exact_kind (byte_at (bytes_of line) 0) (length line / 2) (bytes_of line) (size_small line 4)),
      λ h. leb-true (length line) longest (and_left _ _ t),
    ))
    (λ q t. (subst (λ (f : Frame). Exact f (length line / 2)) (sym (frame_other line t)) tt, λ h. absurd (h (frame_other line t))))
    refl

-- the room of 1,024 words takes all words after the first `head` bytes, and they are `words` many
pub record All (line : List ℕ) (head words : ℕ) : Type 0 where
  pub most : words ≤ 1024
  pub counts : length (words_of (drop head (bytes_of line))) ≡ words
  pub all : words_from line head 1024 ≡ words_of (drop head (bytes_of line))

all_of : (line : List ℕ) (head words : ℕ) → 1 < head → length line / 2 ≡ head + 5 * words → length line ≤ longest → All line head words
unfolding words_from
all_of line head words h e short =
    let counts : length (words_of (drop head (bytes_of line))) ≡ words =
    omega (arith, length_words (drop head (bytes_of line)), length-drop head (bytes_of line), length_bytes_lem line) in
    record { most = omega arith; counts = counts; all = take_all 1024 (words_of (drop head (bytes_of line))) (omega arith) }

words_past : (q : ReportFrame) → 1 < words_at q
words_past q =
    by_test (λ t. eqb q.length no_length ≡ t → 1 < words_at q) (eqb q.length no_length)
    (λ t e. omega (arith, words_plain q (eqb-true q.length no_length e)))
    (λ t e. omega (arith, words_measured q (eqb-false q.length no_length e)))
    refl

pub report_words : (line : List ℕ) (q : ReportFrame) → frame_of line ≡ Report q → All line (words_at q) q.words
unfolding Exact
report_words line q e =
    let x = exact_frame line in
    let n : length line / 2 ≡ words_at q + 5 * q.words = subst (λ (f : Frame). Exact f (length line / 2)) e x.0 in
    all_of line (words_at q) q.words (words_past q) n (x.1 (λ m. let z : ◌≡◌ {A = ℕ} 0 1 = cc in omega arith))

pub put_words : (line : List ℕ) (q : PutFrame) → frame_of line ≡ Put q → All line 2 q.words
unfolding Exact
put_words line q e =
    let x = exact_frame line in
    let n : length line / 2 ≡ 2 + 5 * q.words = subst (λ (g : Frame). Exact g (length line / 2)) e x.0 in
    all_of line 2 q.words (omega arith) n (x.1 (λ m. let z : ◌≡◌ {A = ℕ} 0 1 = cc in omega arith))
