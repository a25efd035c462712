-- The cases of a frame's size and kind. Assumes nothing.
use mathlib.Core.Path.{◌≡◌}
use mathlib.Core.Bool.{true, false, ◌&&◌}
use mathlib.Core.List.{List}
use Prim.Native.Nat.{ℕ, ◌-◌, ◌/◌, ◌%◌, ◌≤◌, ◌<◌}
use native.Mathlib.Omega.{arith}
use borrow.Author.Tests.{lt-ltb, le-ltb, lt-leb, le-leb, eq-eqb, ne_eqb}
use lib.Dec.{eqb}
use lib.ListN.{length}
use Rattle.area.specs.Lists.{all_of}
use Rattle.channel_outcomes.specs.Rules.{redundancy, no_length}
use Rattle.routines.specs.Posts.{no_naming}
use Rattle.session_frame.specs.Digits.{is_digit, bytes_of}
use Rattle.session_frame.specs.Fields.{byte_at, size_at}
use Rattle.session_frame.proofs.Laws.Bytes.{length_bytes_lem}
use Rattle.session_frame.specs.declared.ReportFrame.{ReportFrame}
use Rattle.session_frame.specs.declared.Frame.{Frame}
use Rattle.session_frame.specs.declared.Frame.TheVariants.{Malformed}
use Rattle.session_frame.specs.Frames.{longest, is_text, sized, worded, word_count, ask_with, naming_in, plain_ask, naming_ask, ask_from, report_head, length_head, shows_length, report_with, report_from, words_at, kind_by, kind_of, frame_of}

module _ (n size : ℕ) (f : Frame) where
  pub sized_yes : n ≡ size → sized n size f ≡ f
  unfolding sized
  sized_yes h = rw (eq-eqb n size h)

  pub sized_no : (n ≡ size → ⊥) → sized n size f ≡ Malformed
  unfolding sized
  sized_no h = rw (ne_eqb n size h)

  pub worded_short : n < size → worded n size f ≡ Malformed
  unfolding worded
  worded_short h = rw (lt-ltb n size h)

  pub worded_yes : size ≤ n → (n - size) % 5 ≡ 0 → worded n size f ≡ f
  unfolding worded
  worded_yes h k = rw (le-ltb n size h, eq-eqb ((n - size) % 5) 0 k)

  pub worded_no : size ≤ n → ((n - size) % 5 ≡ 0 → ⊥) → worded n size f ≡ Malformed
  unfolding worded
  worded_no h k = rw (le-ltb n size h, ne_eqb ((n - size) % 5) 0 k)

pub words_none : (n head : ℕ) → n < head → word_count n head ≡ 0
unfolding word_count
words_none n head h = let e : n - head ≡ 0 = omega arith in rw e

-- ---- whether an ask names a routine

module _ (n : ℕ) (b : List ℕ) where
  pub ask_named : n ≡ naming_ask → ask_from n b ≡ ask_with (naming_in b) b
  unfolding ask_from
  ask_named h = rw (eq-eqb n naming_ask h)

  pub ask_plain : (n ≡ naming_ask → ⊥) → ask_from n b ≡ sized n plain_ask (ask_with no_naming b)
  unfolding ask_from
  ask_plain h = rw (ne_eqb n naming_ask h)

-- ---- the length of a report

pub shows_short : (n : ℕ) → n < report_head → shows_length n ≡ false
unfolding shows_length
shows_short n h = let e : n - report_head ≡ 0 = omega arith in rw e

module _ (n : ℕ) (b : List ℕ) where
  pub report_plain : shows_length n ≡ false → report_from n b ≡ report_with report_head no_length n b
  unfolding report_from
  report_plain h = rw h

  pub report_other : shows_length n ≡ true → (byte_at b 3 ≡ redundancy → ⊥) → report_from n b ≡ Malformed
  unfolding report_from
  report_other h k = rw (h, ne_eqb (byte_at b 3) redundancy k)

  pub report_measured : shows_length n ≡ true → byte_at b 3 ≡ redundancy → report_from n b ≡ report_with length_head (size_at b 4) n b
  unfolding report_from
  report_measured h k = rw (h, eq-eqb (byte_at b 3) redundancy k)

module _ (q : ReportFrame) where
  pub words_plain : q.length ≡ no_length → words_at q ≡ report_head
  unfolding words_at
  words_plain h = rw (eq-eqb q.length no_length h)

  pub words_measured : (q.length ≡ no_length → ⊥) → words_at q ≡ length_head
  unfolding words_at
  words_measured h = rw (ne_eqb q.length no_length h)

-- a line that is too long is no text
pub text_long : (line : List ℕ) → longest < length line → is_text line ≡ false
unfolding is_text
text_long line h = rw (lt-leb (length line) longest h)

pub text_short : (line : List ℕ) → length line ≤ longest → is_text line ≡ (eqb (length line % 2) 0 && all_of is_digit line)
unfolding is_text
text_short line h = rw (le-leb (length line) longest h)

-- ---- the first byte

pub kind_is : (k n : ℕ) (b : List ℕ) → byte_at b 0 ≡ k → kind_of n b ≡ kind_by k n b
unfolding kind_of
kind_is k n b h = rw h

pub kind_none : (k n : ℕ) (b : List ℕ) → (k ≡ 0 → ⊥) → (k ≡ 1 → ⊥) → (k ≡ 2 → ⊥) → (k ≡ 3 → ⊥) → (k ≡ 4 → ⊥) → (k ≡ 5 → ⊥)
    → (k ≡ 6 → ⊥) → (k ≡ 7 → ⊥) → (k ≡ 8 → ⊥) → (k ≡ 9 → ⊥) → (k ≡ 10 → ⊥) → (k ≡ 11 → ⊥)
    → (k ≡ 12 → ⊥) → kind_by k n b ≡ Malformed
unfolding kind_by
kind_none k n b h0 h1 h2 h3 h4 h5 h6 h7 h8 h9 h10 h11 h12 =
    rw (
      ne_eqb k 0 h0,
      ne_eqb k 1 h1,
      ne_eqb k 2 h2,
      ne_eqb k 3 h3,
      ne_eqb k 4 h4,
      ne_eqb k 5 h5,
      ne_eqb k 6 h6,
      ne_eqb k 7 h7,
      ne_eqb k 8 h8,
      ne_eqb k 9 h9,
      ne_eqb k 10 h10,
      ne_eqb k 11 h11,
      ne_eqb k 12 h12,
    )

-- ---- a whole line

pub frame_text : (line : List ℕ) → is_text line ≡ true → frame_of line ≡ kind_of (length line / 2) (bytes_of line)
unfolding frame_of
frame_text line t = rw (t, length_bytes_lem)

pub frame_other : (line : List ℕ) → is_text line ≡ false → frame_of line ≡ Malformed
unfolding frame_of
frame_other line t = rw t
