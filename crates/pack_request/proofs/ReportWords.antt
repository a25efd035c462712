-- The words of the area at a report: a delivered block lies in the taken buffer and no word outside the file's own buffers changes; the block of a
-- write lies in the area and its words are below 2^36. Assumes nothing.
use mathlib.Core.Path.{◌≡◌, refl, sym, ap, ◌∙◌}
use mathlib.Core.Logic.{◌⊎◌, ⊎_elim}
use mathlib.Core.Bool.{Bool, true, false, not, cond, ◌&&◌, ◌||◌, and-false}
use mathlib.Core.List.{List}
use Prim.Native.Nat.{ℕ, ◌+◌, ◌-◌, ◌*◌, ◌≤◌, ◌<◌}
use native.Mathlib.Nat.{suc-mul}
use native.Mathlib.Decide.{ℕ_discrete}
use native.Mathlib.Omega.{arith}
use lib.Dec.{ltb, eqb}
use lib.ListN.{length, drop, get_or}
use lib.Seq.{get_or-take, get_or-drop}
use borrow.Author.Tests.{ne_eqb, eq-eqb, ltb-false}
use Rattle.area.specs.Lists.{all_of}
use Rattle.area.specs.Parts.{is_word, part_of, paste}
use Rattle.area.proofs.Walks.{true_not_false, or_left, or_right}
use Rattle.area.proofs.Pastes.{length_part, paste_fitting, length_paste, paste_before, paste_after}
use Rattle.channel.specs.declared.Op.{Op}
use Rattle.channel.specs.declared.Op.TheVariants.{Read, Write, Mark}
use Rattle.channel.specs.declared.Position.{Position}
use Rattle.channel.specs.declared.Request.{Request}
use Rattle.channel.specs.declared.Turn.{Turn}
use Rattle.channel.specs.declared.Channel.{Channel}
use Rattle.channel_outcomes.specs.declared.Ending.{Ending}
use Rattle.channel_outcomes.specs.declared.Ending.TheVariants.{Good, Opposite, MarkRead, MediumEnd, LostRedundancy, LostIncomplete}
use Rattle.channel_outcomes.specs.declared.Verdict.{Verdict}
use Rattle.channel_outcomes.specs.declared.Verdict.TheVariants.{Refused, Repeats, Ends}
use Rattle.channel_outcomes.specs.Positions.{cleaner_due}
use Rattle.channel_outcomes.specs.Rules.{repeated_number, result_number}
use Rattle.channel.specs.Units.{turn_at, work_of, operation_at}
use Rattle.file.specs.declared.File.{File}
use Rattle.file.specs.Sides.{buffer_at, start_at, is_side, taken_side}
use Rattle.file_input.specs.Delivers.{has_full}
use Rattle.pool.specs.Free.{file_count, held_by}
use Rattle.state_sound.specs.Files.{taken_count}
use Rattle.state_sound.proofs.Changes.{own_taken}
use Rattle.state_sound.proofs.Inside.{size_fits, held_own, taken_inside, send_inside}
use Rattle.state.specs.declared.State.{State}
use Rattle.state.specs.Places.{file_at, channel_at, area_short}
use Rattle.state_sound.specs.Requests.{requested, is_read_op, is_write_op, is_read, is_write}
use Rattle.state_sound.specs.Soundness.{sound}
use Rattle.state_sound.specs.Judged.{file_ready}
use Rattle.call_request.specs.declared.Effect.{Effect}
use Rattle.call_request.specs.declared.Effect.TheVariants.{Delivers, MeetsMark, GivesBack, Sends, Keeps}
use Rattle.call_request.specs.Effects.{effect_of, op_effect, is_delivery}
use Rattle.call_request.specs.Report.{effect_at, shown_start, shown_count, report_refusal, reported_area, report_on_area}
use Rattle.pack_request.specs.Calls.{file_of, report_wrong, report_by_area}
use Rattle.call_request.proofs.Found.{fits_bounds}
use Rattle.pack_request.proofs.Ready.{ready_facts, some_taken}
use Rattle.pack_request.proofs.ReportTheorems.{Booked, again, ended, ReportReady, report_ready, facts, view, is_open, requested_ready}
use Rattle.std.specs.declared.option.Option.{Option}
use Rattle.std.specs.declared.option.Option.TheVariants.{Some, None}

-- ---- which operation an effect is of

abbrev pub is_sending : Effect → Bool
is_sending (Delivers failed) = false
is_sending MeetsMark = false
is_sending GivesBack = false
is_sending Sends = true
is_sending Keeps = false

abbrev is_good : ℕ → Bool
is_good result = eqb result 1 || eqb result 2

-- "05 permanent redundancy, 06 permanent incomplete word"
abbrev is_lost : ℕ → Bool
is_lost result = eqb result 5 || eqb result 6

-- "if it ends a write with 01 or 04"
abbrev is_done : ℕ → Bool
is_done result = eqb result 1 || eqb result 4

-- a repeated operation's result is none of them
repeated_not : (p : Position) (q : Request) (some : Bool)
    → ((is_good (repeated_number p q) || (is_lost (repeated_number p q) && some)) ≡ false) × (is_done (repeated_number p q) ≡ false)
unfolding repeated_number
repeated_not p q some = go (cleaner_due p q)
  where
    go : (b : Bool) → ((is_good (cond b 7 0) || (is_lost (cond b 7 0) && some)) ≡ false) × (is_done (cond b 7 0) ≡ false)
    go true = (refl, refl)
    go false = (refl, refl)

-- a block is delivered exactly by a read that ends with 01 or 02, or with 05 or 06 and words
pub delivers_exactly : (some : Bool) (x : Option Op) (p : Position) (v : Verdict) → is_delivery (effect_of some x v) ≡ (is_read x && (is_good (result_number p v) || (is_lost (result_number p v) && some)))
delivers_exactly some (Some op) p (Refused n) = sym (and-false (is_read_op op))
delivers_exactly some (Some op) p (Repeats q) = sym (ap (λ (b : Bool). is_read_op op && b) (repeated_not p q some).0 ∙ and-false (is_read_op op))
delivers_exactly some (Some Read) p (Ends Good) = refl
delivers_exactly some (Some Read) p (Ends Opposite) = refl
delivers_exactly some (Some Read) p (Ends MarkRead) = refl
delivers_exactly some (Some Read) p (Ends MediumEnd) = refl
delivers_exactly true (Some Read) p (Ends LostRedundancy) = refl
delivers_exactly false (Some Read) p (Ends LostRedundancy) = refl
delivers_exactly true (Some Read) p (Ends LostIncomplete) = refl
delivers_exactly false (Some Read) p (Ends LostIncomplete) = refl
delivers_exactly some (Some Write) p (Ends Good) = refl
delivers_exactly some (Some Write) p (Ends Opposite) = refl
delivers_exactly some (Some Write) p (Ends MarkRead) = refl
delivers_exactly some (Some Write) p (Ends MediumEnd) = refl
delivers_exactly some (Some Write) p (Ends LostRedundancy) = refl
delivers_exactly some (Some Write) p (Ends LostIncomplete) = refl
delivers_exactly some (Some Mark) p (Ends e) = refl
delivers_exactly some None p (Refused n) = refl
delivers_exactly some None p (Repeats q) = refl
delivers_exactly some None p (Ends e) = refl

-- a block is handed out exactly by a write that ends with 01 or 04
pub sends_exactly : (some : Bool) (x : Option Op) (p : Position) (v : Verdict) → is_sending (effect_of some x v) ≡ (is_write x && is_done (result_number p v))
sends_exactly some (Some op) p (Refused n) = sym (and-false (is_write_op op))
sends_exactly some (Some op) p (Repeats q) = sym (ap (λ (b : Bool). is_write_op op && b) (repeated_not p q some).1 ∙ and-false (is_write_op op))
sends_exactly some (Some Read) p (Ends Good) = refl
sends_exactly some (Some Read) p (Ends Opposite) = refl
sends_exactly some (Some Read) p (Ends MarkRead) = refl
sends_exactly some (Some Read) p (Ends MediumEnd) = refl
sends_exactly true (Some Read) p (Ends LostRedundancy) = refl
sends_exactly false (Some Read) p (Ends LostRedundancy) = refl
sends_exactly true (Some Read) p (Ends LostIncomplete) = refl
sends_exactly false (Some Read) p (Ends LostIncomplete) = refl
sends_exactly some (Some Write) p (Ends Good) = refl
sends_exactly some (Some Write) p (Ends Opposite) = refl
sends_exactly some (Some Write) p (Ends MarkRead) = refl
sends_exactly some (Some Write) p (Ends MediumEnd) = refl
sends_exactly some (Some Write) p (Ends LostRedundancy) = refl
sends_exactly some (Some Write) p (Ends LostIncomplete) = refl
sends_exactly some (Some Mark) p (Ends e) = refl
sends_exactly some None p (Refused n) = refl
sends_exactly some None p (Repeats q) = refl
sends_exactly some None p (Ends e) = refl

delivery_taken : (some : Bool) (op : Op) (e : Ending) (f : File) → file_ready (Some op) f ≡ true → is_delivery (op_effect some op e) ≡ true → taken_count f ≡ 1
delivery_taken some Read e f h b = (ready_facts (Some Read) f h).taken
delivery_taken some Write Good f h b = true_not_false b refl
delivery_taken some Write Opposite f h b = true_not_false b refl
delivery_taken some Write MarkRead f h b = true_not_false b refl
delivery_taken some Write MediumEnd f h b = true_not_false b refl
delivery_taken some Write LostRedundancy f h b = true_not_false b refl
delivery_taken some Write LostIncomplete f h b = true_not_false b refl
delivery_taken some Mark e f h b = true_not_false b refl

sending_full : (some : Bool) (op : Op) (e : Ending) (f : File) → file_ready (Some op) f ≡ true → is_sending (op_effect some op e) ≡ true → has_full f ≡ true
sending_full some Read Good f h b = true_not_false b refl
sending_full some Read Opposite f h b = true_not_false b refl
sending_full some Read MarkRead f h b = true_not_false b refl
sending_full some Read MediumEnd f h b = true_not_false b refl
sending_full true Read LostRedundancy f h b = true_not_false b refl
sending_full false Read LostRedundancy f h b = true_not_false b refl
sending_full true Read LostIncomplete f h b = true_not_false b refl
sending_full false Read LostIncomplete f h b = true_not_false b refl
sending_full some Write e f h b = (ready_facts (Some Write) f h).block
sending_full some Mark e f h b = true_not_false b refl

module _ (c : Channel) (u outcome len n : ℕ) (f : File) (ready : file_ready (requested (turn_at c u)) f ≡ true) where
  by_ending : (test : Effect → Bool) (P : Type 0) → test Keeps ≡ false
      → ((op : Op) (e : Ending) → file_ready (Some op) f ≡ true → test (op_effect (ltb 0 n) op e) ≡ true → P)
      → Booked c u outcome len → test (effect_at c u outcome len n) ≡ true → P
  unfolding operation_at
  by_ending test P none k (again r q t j) b = true_not_false b (ap (λ (v : Verdict). test (effect_of (ltb 0 n) (operation_at c u) v)) j ∙ none)
  by_ending test P none k (ended r e t j) b =
      let here : effect_at c u outcome len n ≡ op_effect (ltb 0 n) r.op e = ap (effect_of (ltb 0 n) (operation_at c u)) j ∙ ap (λ (y : Turn). effect_of (ltb 0 n) (work_of y) (Ends e)) t in
      k r.op e (sym (ap (λ (y : Turn). file_ready (requested y) f) t) ∙ ready) (sym (ap test here) ∙ b)

-- ---- a word before or after what is pasted

paste_left : (at k : ℕ) (ys xs : List ℕ) → at ≤ length xs → k < at → get_or (paste at ys xs) k 0 ≡ get_or xs k 0
paste_left at k ys xs l h =
    sym (get_or-take at (paste at ys xs) k 0 h) ∙ ap (λ (zs : List ℕ). get_or zs k 0) (paste_before at ys xs l) ∙ get_or-take at xs k 0 h

paste_right : (at k : ℕ) (ys xs : List ℕ) → at ≤ length xs → at + length ys ≤ k → get_or (paste at ys xs) k 0 ≡ get_or xs k 0
paste_right at k ys xs l h =
    let n = at + length ys in
    let e : n + (k - n) ≡ k = omega arith in
    let to : (zs : List ℕ) → get_or zs k 0 ≡ get_or (drop n zs) (k - n) 0 = λ zs. sym (get_or-drop n zs (k - n) 0 ∙ ap (λ (j : ℕ). get_or zs j 0) e) in
    to (paste at ys xs) ∙ ap (λ (zs : List ℕ). get_or zs (k - n) 0) (paste_after at ys xs l) ∙ sym (to xs)

-- ---- the call on a state

module _ (s : State) (area : List ℕ) (channel unit outcome len : ℕ) (words : List ℕ) where
  abbrev i : ℕ
  i = file_of s channel unit

  abbrev f : File
  f = file_at s i

  abbrev c : Channel
  c = channel_at s channel

  abbrev wrong : Bool
  wrong = report_wrong s (length area) channel

  abbrev refusal : ℕ
  refusal = report_refusal wrong f c unit outcome len s.w area words

  abbrev effect : Effect
  effect = effect_at c unit outcome len (length words)

  abbrev after : List ℕ
  after = report_by_area s area channel unit outcome len words

  -- where the taken buffer begins
  abbrev start : ℕ
  start = start_at f s.w (taken_side f)

  same_unless : ((refusal ≡ 0) → is_delivery effect ≡ true → ⊥) → after ≡ area
  unfolding report_by_area report_on_area reported_area
  same_unless h = go (ℕ_discrete refusal 0) (is_delivery effect) refl
    where
      go : Dec (refusal ≡ 0) → (b : Bool) → is_delivery effect ≡ b → after ≡ area
      go (yes z) true e = absurd (h z e)
      go (yes z) false e = rw (eq-eqb refusal 0 z, e)
      go (no k) b e = rw (ne_eqb refusal 0 k)

  module _ (sixteen : length s.files ≡ file_count) (z : refusal ≡ 0) where
    ready : ReportReady wrong f c unit outcome len s.w area words
    ready = report_ready wrong f c unit outcome len s.w area words z

    long : s.m * s.w ≤ length area
    long = ltb-false (length area) (s.m * s.w) (or_left (area_short s (length area)) _ (or_right (not (sound s)) _ ready.right))

    -- a delivered block is put into the taken buffer, which has room for it and lies in the area
    pub record Delivered : Type 0 where
      pub side : is_side (taken_side f) ≡ true
      pub held : held_by (buffer_at f (taken_side f)).number f ≡ true
      pub room : length words ≤ s.w
      pub inside : start + length words ≤ length area
      pub pasted : after ≡ paste start words area

    pub report_delivers : is_delivery effect ≡ true → Delivered
    unfolding report_by_area report_on_area reported_area
    report_delivers d =
        let S = (facts s area channel unit outcome len words sixteen z).files i (is_open s area channel unit outcome len words sixteen z) in
        let one = by_ending c unit outcome len (length words) f (requested_ready s area channel unit outcome len words sixteen z) is_delivery (taken_count f ≡ 1) refl (λ op e. delivery_taken (ltb 0 (length words)) op e f)
        (view s area channel unit outcome len words sixteen z) d in
        let here = some_taken f one in
        let b = fits_bounds f (length words) (ready.fits d) in
        let fit : start + length words ≤ length area = omega (arith, taken_inside s.m s.w f S (length words) here b.1, long) in
        record {
          side = here;
          held = held_own f (taken_side f) (is_open s area channel unit outcome len words sixteen z) (own_taken s.m s.w f S here);
          room = omega (arith, size_fits s.m s.w f S, b.1);
          inside = fit;
          pasted = rw (eq-eqb refusal 0 z, d) (paste_fitting start words area fit);
        }

    -- the block of a write: it lies in the area, and every word of it is below 2^36
    pub record ShowsBlock : Type 0 where
      pub inside : shown_start effect s.w f + shown_count effect f ≤ length area
      pub whole : length (part_of (shown_start effect s.w f) (shown_count effect f) area) ≡ shown_count effect f
      pub small : all_of is_word (part_of (shown_start effect s.w f) (shown_count effect f) area) ≡ true

    shown_inside : (x : Effect) → (is_sending x ≡ true → has_full f ≡ true) → shown_start x s.w f + shown_count x f ≤ length area
    shown_inside (Delivers failed) h = omega arith
    shown_inside MeetsMark h = omega arith
    shown_inside GivesBack h = omega arith
    shown_inside Sends h =
        let S = (facts s area channel unit outcome len words sixteen z).files i (is_open s area channel unit outcome len words sixteen z) in
        omega (arith, send_inside s.m s.w f S (h refl), long)
    shown_inside Keeps h = omega arith

    pub report_shows : ShowsBlock
    report_shows =
        let l = shown_inside effect (by_ending c unit outcome len (length words) f (requested_ready s area channel unit outcome len words sixteen z) is_sending (has_full f ≡ true) refl (λ op e. sending_full (ltb 0 (length words)) op e f)
        (view s area channel unit outcome len words sixteen z)) in
        record { inside = l; whole = length_part (shown_start effect s.w f) (shown_count effect f) area l; small = ready.handed }

  -- words outside the file's own buffers are as they were, whatever the answer: those before each of its buffers or after it
  pub report_area_frame : length s.files ≡ file_count → (k : ℕ) → ((b : ℕ) → held_by b f ≡ true → (k < b * s.w) ⊎ ((b + 1) * s.w ≤ k)) → get_or after k 0 ≡ get_or area k 0
  report_area_frame n k out = go (ℕ_discrete refusal 0) (is_delivery effect) refl
    where
      there : (z : refusal ≡ 0) → is_delivery effect ≡ true → get_or after k 0 ≡ get_or area k 0
      there z d =
          let D = report_delivers n z d in
          let b = (buffer_at f (taken_side f)).number in
          ap (λ (xs : List ℕ). get_or xs k 0) D.pasted
          ∙ ⊎_elim (λ l. paste_left start k words area (omega (arith, D.inside)) l)
          (λ r. paste_right start k words area (omega (arith, D.inside)) (omega (arith, D.room, suc-mul b s.w)))
          (out b D.held)

      go : Dec (refusal ≡ 0) → (b : Bool) → is_delivery effect ≡ b → get_or after k 0 ≡ get_or area k 0
      go (yes z) true e = there z e
      go (yes z) false e = ap (λ (xs : List ℕ). get_or xs k 0) (same_unless (λ q d. true_not_false d e))
      go (no h) b e = ap (λ (xs : List ℕ). get_or xs k 0) (same_unless (λ q d. h q))

  -- the area has as many words as before
  pub report_area_length : length s.files ≡ file_count → length after ≡ length area
  report_area_length n = go (ℕ_discrete refusal 0) (is_delivery effect) refl
    where
      go : Dec (refusal ≡ 0) → (b : Bool) → is_delivery effect ≡ b → length after ≡ length area
      go (yes z) true e = let D = report_delivers n z e in ap length D.pasted ∙ length_paste start words area D.inside
      go (yes z) false e = ap length (same_unless (λ q d. true_not_false d e))
      go (no h) b e = ap length (same_unless (λ q d. h q))
