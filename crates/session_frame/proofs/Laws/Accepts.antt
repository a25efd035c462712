-- A line is decoded to something else than Malformed exactly if it is well formed. Assumes nothing.
use mathlib.Core.Path.{◌≡◌, refl, sym, ap, ◌∙◌, subst}
use mathlib.Core.Bool.{Bool, true, false, cond}
use mathlib.Core.List.{List}
use Prim.Native.Nat.{ℕ, ◌+◌, ◌-◌, ◌*◌, ◌/◌, ◌%◌, ◌≤◌, ◌<◌}
use native.Mathlib.Omega.{arith}
use borrow.Author.Tests.{ltb-false, leb-true, le-leb, eqb-true, eq-eqb, ne_eqb}
use lib.Dec.{ltb, leb, eqb}
use lib.ListN.{length}
use Rattle.area.specs.Lists.{all_of}
use Rattle.area.proofs.Walks.{by_test, and_left, and_right, and_both}
use Rattle.channel_outcomes.specs.Rules.{redundancy, no_length}
use Rattle.routines.specs.Posts.{no_naming}
use Rattle.session_frame.specs.Digits.{is_digit, bytes_of, byte_digits, is_byte, concat_map}
use Rattle.session_frame.specs.Fields.{byte_at, size_at}
use Rattle.session_frame.proofs.Laws.Writes.{length_byte, length_concat}
use Rattle.session_frame.proofs.Laws.Trips.{bytes_back, digits_are}
use Rattle.session_frame.specs.declared.Frame.{Frame}
use Rattle.session_frame.specs.declared.Frame.TheVariants.{Malformed, Close, Report, Get, Put, Seal, Skip, Freeze, Thaw, Return, Running}
use Rattle.session_frame.specs.Frames.{longest, is_text, sized, worded, word_count, fresh_from, open_from, ask_with, naming_in, plain_ask, naming_ask, ask_from, report_head, length_head, shows_length, report_with, report_from, put_from, kind_by, kind_of, frame_of}
use Rattle.session_frame.specs.Formed.{Kind, fresh, opens, close, ask, naming, report, measured, get, put, seal, skip, freeze, thaw, returning, running, WellFormed, Accepted}
use Rattle.session_frame.proofs.Laws.Sizes.{worded_yes, report_plain, report_measured, text_long, frame_text, frame_other}

-- the frame is not Malformed
abbrev Decoded : Frame → Type 0
Decoded f = f ≡ Malformed → ⊥

-- ---- what is accepted is of its kind and size

either : {P : Type 0} (t : Bool) (x y : Frame) → (t ≡ true → Decoded x → P) → (Decoded y → P) → Decoded (cond t x y) → P
either true x y f g h = f refl h
either false x y f g h = g h

sized_exact : (n size : ℕ) (f : Frame) → Decoded (sized n size f) → n ≡ size
unfolding sized
sized_exact n size f h = either (eqb n size) f Malformed (λ e a. eqb-true n size e) (λ a. absurd (a refl)) h

worded_exact : (n head : ℕ) (f : Frame) → Decoded (worded n head f) → n ≡ head + 5 * word_count n head
unfolding worded word_count
worded_exact n head f h =
    by_test (λ t. ltb n head ≡ t → Decoded (cond t Malformed (cond (eqb ((n - head) % 5) 0) f Malformed)) → n ≡ head + 5 * ((n - head) / 5)) (ltb n head)
    (λ t e a. absurd (a refl))
    (λ t e a.
    let below : head ≤ n = ltb-false n head e in
    either (eqb ((n - head) % 5) 0) f Malformed
    (λ z b. let whole : (n - head) % 5 ≡ 0 = eqb-true ((n - head) % 5) 0 z in omega arith) (λ b. absurd (b refl)) a)
    refl h

kind_at : {o k l n m : ℕ} → k ≡ l → n ≡ m → Kind o l m → Kind o k n
kind_at {o} {k} {l} {n} {m} p q x = subst (λ (j : ℕ). Kind o j n) (sym p) (subst (λ (j : ℕ). Kind o l j) (sym q) x)

report_exact : (k n : ℕ) (b : List ℕ) → k ≡ 4 → Decoded (report_from n b) → Kind (byte_at b 3) k n
unfolding report_from report_with
report_exact k n b e =
    either (shows_length n) (cond (eqb (byte_at b 3) redundancy) (report_with length_head (size_at b 4) n b) Malformed) (report_with report_head no_length n b)
    (λ s. either (eqb (byte_at b 3) redundancy) (report_with length_head (size_at b 4) n b) Malformed
    (λ r a. kind_at e (worded_exact n length_head _ a) (measured (word_count n length_head) (eqb-true (byte_at b 3) redundancy r))) (λ a. absurd (a refl)))
    (λ a. kind_at e (worded_exact n report_head _ a) (report (word_count n report_head)))

ask_exact : (k n : ℕ) (b : List ℕ) → k ≡ 3 → Decoded (ask_from n b) → Kind (byte_at b 3) k n
unfolding ask_from
ask_exact k n b e =
    either (eqb n naming_ask) (ask_with (naming_in b) b) (sized n plain_ask (ask_with no_naming b)) (λ s a. kind_at e (eqb-true n naming_ask s) naming)
    (λ a. kind_at e (sized_exact n plain_ask _ a) ask)

kind_exact : (k n : ℕ) (b : List ℕ) → Decoded (kind_by k n b) → Kind (byte_at b 3) k n
unfolding kind_by fresh_from open_from put_from
kind_exact k n b =
    either (eqb k 0) (fresh_from n b) _ (λ e a. kind_at (eqb-true k 0 e) (sized_exact n 14 _ a) fresh)
    (either (eqb k 1) (open_from n b) _ (λ e a. kind_at (eqb-true k 1 e) (sized_exact n 9 _ a) opens)
    (either (eqb k 2) (sized n 2 (Close (byte_at b 1))) _ (λ e a. kind_at (eqb-true k 2 e) (sized_exact n 2 _ a) close)
    (either (eqb k 3) (ask_from n b) _ (λ e a. ask_exact k n b (eqb-true k 3 e) a)
    (either (eqb k 4) (report_from n b) _ (λ e a. report_exact k n b (eqb-true k 4 e) a)
    (either (eqb k 5) (sized n 2 (Get (byte_at b 1))) _ (λ e a. kind_at (eqb-true k 5 e) (sized_exact n 2 _ a) get)
    (either (eqb k 6) (put_from n b) _ (λ e a. kind_at (eqb-true k 6 e) (worded_exact n 2 _ a) (put (word_count n 2)))
    (either (eqb k 7) (sized n 2 (Seal (byte_at b 1))) _ (λ e a. kind_at (eqb-true k 7 e) (sized_exact n 2 _ a) seal)
    (either (eqb k 8) (sized n 2 (Skip (byte_at b 1))) _ (λ e a. kind_at (eqb-true k 8 e) (sized_exact n 2 _ a) skip)
    (either (eqb k 9) (sized n 1 Freeze) _ (λ e a. kind_at (eqb-true k 9 e) (sized_exact n 1 _ a) freeze)
    (either (eqb k 10) (sized n 1 Thaw) _ (λ e a. kind_at (eqb-true k 10 e) (sized_exact n 1 _ a) thaw)
    (either (eqb k 11) (sized n 1 Return) _ (λ e a. kind_at (eqb-true k 11 e) (sized_exact n 1 _ a) returning)
    (either (eqb k 12) (sized n 1 Running) Malformed (λ e a. kind_at (eqb-true k 12 e) (sized_exact n 1 _ a) running) (λ a. absurd (a refl))))))))))))))

-- ---- what is of its kind and size is accepted

module _ (n head words : ℕ) (f : Frame) (e : n ≡ head + 5 * words) where
  worded_whole : worded n head f ≡ f
  worded_whole = worded_yes n head f (omega arith) (omega arith)

-- a report of so many words, without a length and with one
module _ (words : ℕ) (b : List ℕ) where
  frame_with : ℕ → ℕ → ℕ → Frame
  frame_with head len n = Report (record { channel = byte_at b 1; unit = byte_at b 2; outcome = byte_at b 3; length = len; words = word_count n head })

  report_whole : report_from (report_head + 5 * words) b ≡ frame_with report_head no_length (report_head + 5 * words)
  unfolding shows_length report_with frame_with
  report_whole =
      let none : (report_head + 5 * words - report_head) % 5 ≡ 2 → ⊥ = λ e. omega arith in
      report_plain (report_head + 5 * words) b (ne_eqb ((report_head + 5 * words - report_head) % 5) 2 none)
      ∙ worded_whole (report_head + 5 * words) report_head words _ refl

  measured_whole : byte_at b 3 ≡ redundancy → report_from (length_head + 5 * words) b ≡ frame_with length_head (size_at b 4) (length_head + 5 * words)
  unfolding shows_length report_with frame_with
  measured_whole o =
      let two : (length_head + 5 * words - report_head) % 5 ≡ 2 = omega arith in
      report_measured (length_head + 5 * words) b (eq-eqb ((length_head + 5 * words - report_head) % 5) 2 two) o
      ∙ worded_whole (length_head + 5 * words) length_head words _ refl

kind_accepted : (k n : ℕ) (b : List ℕ) → Kind (byte_at b 3) k n → Decoded (kind_by k n b)
unfolding kind_by fresh_from open_from ask_from ask_with put_from sized frame_with
kind_accepted k n b fresh e = let z : ◌≡◌ {A = ℕ} 0 1 = cc in omega arith
kind_accepted k n b opens e = let z : ◌≡◌ {A = ℕ} 0 1 = cc in omega arith
kind_accepted k n b close e = let z : ◌≡◌ {A = ℕ} 0 1 = cc in omega arith
kind_accepted k n b ask e = let z : ◌≡◌ {A = ℕ} 0 1 = cc in omega arith
kind_accepted k n b naming e = let z : ◌≡◌ {A = ℕ} 0 1 = cc in omega arith
kind_accepted k n b (report words) e =
    let g = sym (report_whole words b) ∙ e in
    let z : ◌≡◌ {A = ℕ} 0 1 = cc in omega arith
kind_accepted k n b (measured words o) e =
    let g = sym (measured_whole words b o) ∙ e in
    let z : ◌≡◌ {A = ℕ} 0 1 = cc in omega arith
kind_accepted k n b get e = let z : ◌≡◌ {A = ℕ} 0 1 = cc in omega arith
kind_accepted k n b (put words) e =
    let g = sym (worded_whole (2 + 5 * words) 2 words (Put (record { file = byte_at b 1; words = word_count (2 + 5 * words) 2 })) refl) ∙ e in
    let z : ◌≡◌ {A = ℕ} 0 1 = cc in omega arith
kind_accepted k n b seal e = let z : ◌≡◌ {A = ℕ} 0 1 = cc in omega arith
kind_accepted k n b skip e = let z : ◌≡◌ {A = ℕ} 0 1 = cc in omega arith
kind_accepted k n b freeze e = let z : ◌≡◌ {A = ℕ} 0 1 = cc in omega arith
kind_accepted k n b thaw e = let z : ◌≡◌ {A = ℕ} 0 1 = cc in omega arith
kind_accepted k n b returning e = let z : ◌≡◌ {A = ℕ} 0 1 = cc in omega arith
kind_accepted k n b running e = let z : ◌≡◌ {A = ℕ} 0 1 = cc in omega arith

-- ---- the theorem

pub accepted_formed : (line : List ℕ) → Accepted line → WellFormed line
unfolding Accepted kind_of is_text
accepted_formed line h = by_test (λ t. is_text line ≡ t → WellFormed line) (is_text line) (λ q t. formed t) (λ q t. absurd (h (frame_other line t))) refl
  where
    formed : is_text line ≡ true → WellFormed line
    formed t =
        let even : length line % 2 ≡ 0 = eqb-true _ 0 (and_left _ _ (and_right (leb (length line) longest) _ t)) in
        record {
          pairs = length line / 2;
          even = omega arith;
          short = leb-true (length line) longest (and_left _ _ t);
          digits = and_right (eqb (length line % 2) 0) _ (and_right (leb (length line) longest) _ t);
          kind = kind_exact (byte_at (bytes_of line) 0) (length line / 2) (bytes_of line) (λ e. h (frame_text line t ∙ e));
        }

pub text_is : (line : List ℕ) → length line ≤ longest → length line % 2 ≡ 0 → all_of is_digit line ≡ true → is_text line ≡ true
unfolding is_text
text_is line short even all = and_both _ _ (le-leb (length line) longest short) (and_both _ _ (eq-eqb (length line % 2) 0 even) all)

pub formed_accepted : (line : List ℕ) → WellFormed line → Accepted line
unfolding Accepted kind_of
formed_accepted line w e =
    let t : is_text line ≡ true = text_is line w.short (omega (arith, w.even)) w.digits in
    let n : length line / 2 ≡ w.pairs = omega (arith, w.even) in
    kind_accepted (byte_at (bytes_of line) 0) w.pairs (bytes_of line) w.kind
    (ap (λ (k : ℕ). kind_by (byte_at (bytes_of line) 0) k (bytes_of line)) (sym n) ∙ sym (frame_text line t) ∙ e)

pub accepted_exactly : (line : List ℕ) → (Accepted line → WellFormed line) × (WellFormed line → Accepted line)
accepted_exactly line = (accepted_formed line, formed_accepted line)

-- "Lines then run to 10,252 digits."
pub frame_long : (line : List ℕ) → longest < length line → frame_of line ≡ Malformed
frame_long line h = frame_other line (text_long line h)

-- ---- bytes written as digits decode as those bytes

pub frame_of_bytes : (bs : List ℕ) → all_of is_byte bs ≡ true → 2 * length bs ≤ longest → frame_of (concat_map byte_digits bs) ≡ kind_of (length bs) bs
frame_of_bytes bs h short =
    let line = concat_map byte_digits bs in
    let long : length (concat_map byte_digits bs) ≡ 2 * length bs = length_concat byte_digits 2 length_byte bs in
    let t : is_text (concat_map byte_digits bs) ≡ true = text_is (concat_map byte_digits bs) (omega arith) (omega arith) (digits_are bs h) in
    let n : length (concat_map byte_digits bs) / 2 ≡ length bs = omega arith in
    frame_text (concat_map byte_digits bs) t ∙ rw (n, bytes_back bs h)
