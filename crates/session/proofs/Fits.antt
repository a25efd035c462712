-- No answer from a sound state shows more than 1,024 words: a room of 10,249 characters takes it. Assumes nothing.
use mathlib.Core.Path.{◌≡◌, refl, ap}
use mathlib.Core.Bool.{Bool, true, false, cond, ◌&&◌}
use mathlib.Core.List.{List}
use Prim.Native.Nat.{ℕ, ◌+◌, ◌-◌, ◌≤◌}
use native.Mathlib.Omega.{arith}
use borrow.Author.Tests.{leb-true, leb-false, eqb-true, eqb-false, eq-eqb, ne_eqb}
use lib.Dec.{leb, ltb, eqb}
use lib.ListN.{length, drop, length-take}
use Rattle.area.specs.Parts.{part_of, paste, pasted_in}
use Rattle.area.proofs.Walks.{by_test, and_left, and_right, or_either}
use Rattle.session_frame.specs.Writes.{place_after}
use Rattle.session_frame.proofs.Laws.Backs.{answer_longest, answer_fits}
use Rattle.file.specs.declared.Side.{Side}
use Rattle.file.specs.declared.Side.TheVariants.{Neither}
use Rattle.file.specs.declared.File.{File}
use Rattle.file.specs.Slots.{full_words, full_place, full_error, full_arrival}
use Rattle.file.specs.Arrivals.{error_told}
use Rattle.file.specs.Sides.{slot_at, start_at, is_side, oldest}
use Rattle.word.specs.CheckWords.{extra}
use Rattle.file_output.specs.Sends.{send_words}
use Rattle.file_input.proofs.Ages.{Aged, no_block, old, aged}
use Rattle.session_frame.specs.declared.Frame.{Frame}
use Rattle.session_frame.specs.declared.Frame.TheVariants.{Malformed, Fresh, Open, Close, Ask, Report, Get, Put, Seal, Skip, Freeze, Thaw, Return, Running}
use Rattle.session_frame.specs.Frames.{frame_of}
use Rattle.file_input.specs.declared.Got.TheVariants.{Record, Leftover, Error, End, Nothing}
use Rattle.file_input.specs.Gets.{words_left, found, looked_at, get_from, got_start, got_words}
use Rattle.pool.specs.Free.{pool_sound}
use Rattle.state_sound.proofs.FileFacts.{Sound}
use Rattle.state_sound.proofs.Changes.{numbers, passed_sound}
use Rattle.state_sound.proofs.Inside.{size_fits}
use Rattle.state.specs.declared.State.{State}
use Rattle.state.specs.Places.{file_at, channel_at}
use Rattle.state_sound.specs.Soundness.{sound}
use Rattle.state_sound.proofs.Facts.{sound_facts}
use Rattle.call_request.specs.declared.Effect.{Effect}
use Rattle.call_request.specs.declared.Effect.TheVariants.{Delivers, MeetsMark, GivesBack, Sends, Keeps}
use Rattle.call_request.specs.Report.{effect_at, shown_count, report_refusal, report_on}
use Rattle.pack_request.specs.Calls.{file_of, report_wrong, report_by, report_by_area}
use Rattle.pack_request.proofs.ReportTheorems.{report_was_sound, is_open}
use Rattle.pack_record.specs.Gets.{get_by, get_words}
use Rattle.pack_record.proofs.GetTheorems.{get_refused, get_open, get_state_sound, get_finds}
use Rattle.session_reply.specs.Replies.{given_words, reply_to, answer_to, text_of}
use Rattle.session.specs.Rooms.{most_words, most_text}
use Rattle.session_reply.proofs.Stores.{Counts}

-- ---- a buffer has at most 1,024 words

pool_small : (m w : ℕ) → pool_sound m w ≡ true → w ≤ 1024
pool_small m w h =
    or_either _ _ h
    (λ e. leb-true w 1024 (and_right (leb 1 w) _ (and_right (leb 1 m && leb m 32) _ e)))
    (λ e. let z : w ≡ 0 = eqb-true w 0 (and_right (eqb m 0) _ e) in omega arith)

module _ (m w : ℕ) (f : File) (S : Sound m w f) where
  record_fits : f.rlen ≤ w
  record_fits =
      let r : f.rlen ≤ f.size = leb-true f.rlen f.size (and_left (leb f.rlen f.size) _ (and_right (leb 1 f.rlen) _ S.sizes)) in
      omega (arith, size_fits m w f S)

  -- the block that a write sends
  send_fits : send_words f ≤ w
  unfolding send_words
  send_fits = go (oldest f) (aged f)
    where
      go : (k : Side) → Aged f k → full_words (slot_at f k) + extra f.sequence f.check ≤ w
      go Neither (no_block e) = omega (arith, size_fits m w f S)
      go k (old _ n at e rest t x l gone moved) =
          let words : full_words (slot_at f k) ≡ n = ap full_words x in
          omega (arith, size_fits m w f S, (numbers m w f k n at e S x).fit)

  -- the words that get finds in a file that has been looked at
  found_fits : got_words (found w f) ≤ w
  unfolding found
  found_fits =
      go (is_side (oldest f)) (ltb 0 (full_error (slot_at f (oldest f)))) (leb f.rlen (words_left (slot_at f (oldest f)))) f.marked refl
    where
      go : (a e t q : Bool) → leb f.rlen (words_left (slot_at f (oldest f))) ≡ t
          → got_words (cond a (cond e (Error (error_told (full_arrival (slot_at f (oldest f)))))
          (cond t (Record (start_at f w (oldest f) + full_place (slot_at f (oldest f))) f.rlen) (Leftover (start_at f w (oldest f) + full_place (slot_at f (oldest f))) (words_left (slot_at f (oldest f))))))
          (cond q End Nothing)) ≤ w
      go true true t q h = omega arith
      go true false true q h = record_fits
      go true false false q h = omega (arith, leb-false f.rlen (words_left (slot_at f (oldest f))) h, record_fits)
      go false e t true h = omega arith
      go false e t false h = omega arith

get_fits : (m w : ℕ) (f : File) → Sound m w f → got_words (get_from w f).got ≤ w
unfolding get_from looked_at
get_fits m w f S = found_fits m w (looked_at f) (passed_sound m w _ (passed_sound m w f S))

-- ---- the words that an answer shows

part_most : (at n : ℕ) (xs : List ℕ) → length (part_of at n xs) ≤ n
part_most at n xs = omega (arith, length-take n (drop at xs))

small : (s : State) → sound s ≡ true → s.w ≤ 1024
small s good = pool_small s.m s.w (sound_facts s good).pool

-- an accepted get has judged the state
get_shows : (s : State) (area : List ℕ) (file : ℕ) → length (get_words s area file) ≤ 1024
get_shows s area file =
    by_test (λ t. eqb (get_by s area file).refusal 0 ≡ t → length (get_words s area file) ≤ 1024) (eqb (get_by s area file).refusal 0)
    (λ q e.
    let z = eqb-true (get_by s area file).refusal 0 e in
    let good = get_state_sound s area file z in
    let g = (get_from s.w (file_at s file)).got in
    let fits : got_words g ≤ s.w = get_fits s.m s.w (file_at s file) ((sound_facts s good).files file (get_open s area file z)) in
    omega (arith, ap length (get_finds s area file z).2, part_most (got_start g) (got_words g) area, fits, small s good))
    (λ q e. omega (arith, ap length (get_refused s area file (eqb-false (get_by s area file).refusal 0 e)).2))
    refl

-- and so has an accepted report
module _ (s : State) (area : List ℕ) (channel unit outcome len : ℕ) (words : List ℕ) (counts : Counts s) where
  abbrev refusal : ℕ
  refusal = report_refusal (report_wrong s (length area) channel) (file_at s (file_of s channel unit)) (channel_at s channel) unit outcome len s.w area words

  booked_count : refusal ≡ 0 → (report_by s area channel unit outcome len words).count ≡ shown_count (effect_at (channel_at s channel) unit outcome len (length words)) (file_at s (file_of s channel unit))
  unfolding report_by report_on
  booked_count z = rw (eq-eqb refusal 0 z)

  refused_count : (refusal ≡ 0 → ⊥) → (report_by s area channel unit outcome len words).count ≡ 0
  unfolding report_by report_on
  refused_count h = rw (ne_eqb refusal 0 h)

  count_fits : (x : Effect) (f : File) → send_words f ≤ s.w → shown_count x f ≤ s.w
  count_fits (Delivers failed) f h = omega arith
  count_fits MeetsMark f h = omega arith
  count_fits GivesBack f h = omega arith
  count_fits Sends f h = h
  count_fits Keeps f h = omega arith

  report_shows : (report_by s area channel unit outcome len words).count ≤ 1024
  report_shows =
      by_test (λ t. eqb refusal 0 ≡ t → (report_by s area channel unit outcome len words).count ≤ 1024) (eqb refusal 0)
      (λ q e.
      let z = eqb-true refusal 0 e in
      let good = report_was_sound s area channel unit outcome len words counts.files z in
      let f = file_at s (file_of s channel unit) in
      let S = (sound_facts s good).files (file_of s channel unit) (is_open s area channel unit outcome len words counts.files z) in
      omega (arith, booked_count z, count_fits (effect_at (channel_at s channel) unit outcome len (length words)) f (send_fits s.m s.w f S), small s good))
      (λ q e. omega (arith, refused_count (eqb-false refusal 0 e)))
      refl

reply_words : (s : State) (area words : List ℕ) (frame : Frame) → Counts s → length (reply_to s area words frame).words ≤ 1024
unfolding reply_to
reply_words s area words Malformed k = omega arith
reply_words s area words (Fresh q) k = omega arith
reply_words s area words (Open q) k = omega arith
reply_words s area words (Close file) k = omega arith
reply_words s area words (Ask q) k = omega arith
reply_words s area words (Report q) k =
    let x = report_by s area q.channel q.unit q.outcome q.length words in
    omega (arith, part_most x.start x.count (report_by_area s area q.channel q.unit q.outcome q.length words), report_shows s area q.channel q.unit q.outcome q.length words k)
reply_words s area words (Get file) k = get_shows s area file
reply_words s area words (Put q) k = omega arith
reply_words s area words (Seal file) k = omega arith
reply_words s area words (Skip file) k = omega arith
reply_words s area words Freeze k = omega arith
reply_words s area words Thaw k = omega arith
reply_words s area words Return k = omega arith
reply_words s area words Running k = omega arith

-- ---- every answer is written whole

pub answer_words : (s : State) (area line : List ℕ) → Counts s → length (answer_to s area line).words ≤ most_words
unfolding answer_to
answer_words s area line k = reply_words s area (given_words (frame_of line) line) (frame_of line) k

pub text_longest : (s : State) (area line : List ℕ) → Counts s → length (text_of (answer_to s area line)) ≤ most_text
unfolding text_of
text_longest s area line k = answer_longest (answer_to s area line).answer (answer_to s area line).words (answer_words s area line k)

pub text_written : (s : State) (area line out : List ℕ) → Counts s → most_text ≤ length out
    → (place_after 0 (text_of (answer_to s area line)) out ≡ length (text_of (answer_to s area line)))
    × (pasted_in 0 (text_of (answer_to s area line)) out ≡ paste 0 (text_of (answer_to s area line)) out)
unfolding text_of
text_written s area line out k h = answer_fits (answer_to s area line).answer (answer_to s area line).words out (answer_words s area line k) h
