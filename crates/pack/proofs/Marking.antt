-- Whether a file is open, on which unit, and whether a mark has been read since its open, are what the history says of it, after every call.
-- Assumes nothing.
use mathlib.Core.Path.{◌≡◌, refl, sym, ap, subst, ◌∙◌}
use mathlib.Core.Logic.{◌≢◌}
use mathlib.Core.Bool.{Bool, true, false, not, cond, ◌&&◌, ◌||◌}
use mathlib.Core.Option.{Option, none, some}
use mathlib.Core.List.{List, [], ◌∷◌}
use Prim.Native.Nat.{ℕ, zero, suc, ◌-◌}
use native.Mathlib.Decide.{ℕ_discrete}
use lib.Dec.{eqb, leb, ltb}
use lib.ListN.{length, get_or, replicate}
use borrow.Author.Tests.{eq-eqb, ne_eqb, eqb-true}
use Rattle.area.specs.Lists.{any_of}
use Rattle.area.proofs.Walks.{true_not_false, and_left, and_right, and_both}
use Rattle.channel.specs.declared.Op.{Op}
use Rattle.channel.specs.declared.Op.TheVariants.{Read, Write, Mark}
use Rattle.channel.specs.declared.Position.{Position}
use Rattle.channel.specs.declared.Request.{Request}
use Rattle.channel.specs.declared.Turn.{Turn}
use Rattle.channel.specs.declared.Turn.TheVariants.{Working}
use Rattle.channel.specs.declared.Channel.{Channel}
use Rattle.channel.specs.Units.{turn_at, position_at, work_of, operation_at}
use Rattle.channel_outcomes.specs.declared.Ending.{Ending}
use Rattle.channel_outcomes.specs.declared.Ending.TheVariants.{Good, Opposite, MarkRead, MediumEnd, LostRedundancy, LostIncomplete}
use Rattle.channel_outcomes.specs.declared.Verdict.{Verdict}
use Rattle.channel_outcomes.specs.declared.Verdict.TheVariants.{Refused, Repeats, Ends}
use Rattle.channel_outcomes.specs.Positions.{cleaner_due}
use Rattle.channel_outcomes.specs.Rules.{good, redundancy, incomplete_word, file_mark, row_of, is_allowed, is_failure, is_permanent, is_noise, past_noise, next_attempt, good_ending, ending_of, table_verdict, verdict_of, repeated_number, result_number}
use Rattle.channel_turns.specs.Turns.{judge_turn, judge_of}
use Rattle.word.specs.CheckWords.{extra, next_number}
use Rattle.word.specs.declared.Checked.{Checked}
use Rattle.file.specs.declared.Arrival.{Arrival}
use Rattle.file.specs.Arrivals.{no_arrival}
use Rattle.file.specs.declared.Slot.{Slot}
use Rattle.file.specs.declared.Slot.TheVariants.{Empty, Taken, Part, Full}
use Rattle.file.specs.declared.Side.{Side}
use Rattle.file.specs.declared.Side.TheVariants.{Low, High, Neither}
use Rattle.file.specs.declared.File.{File}
use Rattle.file.specs.Sides.{slot_at, empty_side, taken_side, part_side, oldest}
use Rattle.file.specs.Fills.{with_slot, turned_by, filled_at, emptied_at, without_oldest}
use Rattle.file.specs.Sizes.{opened_file, closed_file}
use Rattle.file_output.specs.Puts.{put_side, words_after, added, after_put}
use Rattle.file_output.specs.Parts.{is_complete, part_length, sealed_file}
use Rattle.file_output.specs.Sends.{after_write}
use Rattle.file_input.specs.Delivers.{took_buffer, delivered, gave_back, met_mark}
use Rattle.file_input.specs.Gets.{is_used_up, passed, looked_at, slot_after, after_found, get_from}
use Rattle.file_input.specs.Histories as files
use Rattle.file_input.specs.Histories.{Event, read, giveBack, mark, send, deliver}
use Rattle.pool.specs.Free.{file_count}
use Rattle.pool.specs.Serving.{serves}
use Rattle.routines.specs.declared.Naming.{Naming}
use Rattle.state.specs.declared.State.{State}
use Rattle.state.specs.Places.{file_at, channel_at}
use Rattle.state_sound.proofs.Events.{event_alike}
use Rattle.state_sound.proofs.Replaced.{Alike, alike_self}
use Rattle.pack_start.specs.declared.Masks.{Masks}
use Rattle.pack_start.specs.Fresh.{fresh_state}
use Rattle.pack_start.proofs.FreshTheorems.{fresh_accepted}
use Rattle.pack_start.proofs.FreezeTheorems.{freeze_frame, thaw_frame}
use Rattle.pack_open.proofs.OpenTheorems.{open_file, open_frame}
use Rattle.pack_open.proofs.CloseTheorems.{close_file, close_frame}
use Rattle.call_request.specs.declared.Effect.{Effect}
use Rattle.call_request.specs.declared.Effect.TheVariants.{Delivers, MeetsMark, GivesBack, Sends, Keeps}
use Rattle.call_request.specs.Ask.{is_reading, asked_file}
use Rattle.call_request.specs.Effects.{effect_of}
use Rattle.call_request.specs.Report.{is_forbidden, effect_at, report_refusal, reported_file, delivery_check}
use Rattle.pack_request.specs.Calls.{file_of, report_wrong}
use Rattle.pack_request.proofs.Ready.{not_false}
use Rattle.pack_request.proofs.AskTheorems.{ask_frame, ask_file}
use Rattle.pack_request.proofs.ReportTheorems.{Booked, again, ended, ReportReady, report_ready, report_exactly, view, report_books_own, report_file_lem}
use Rattle.pack_routine.proofs.Theorems.{return_frame, running_frame}
use Rattle.pack_record.proofs.GetTheorems.{get_file, get_frame}
use Rattle.pack_record.proofs.SkipTheorems.{skip_drops, skip_frame}
use Rattle.pack_record.proofs.PutTheorems.{put_file, put_frame}
use Rattle.pack_record.proofs.SealTheorems.{seal_file, seal_frame}
use Rattle.pack.specs.Calls.{Call, fresh, opening, close, ask, report, get, put, seal, skip, freeze, thaw, return, running, Answer, answer_of}
use Rattle.pack.specs.Histories.{Lent, answer_to, after, is_accepted}
use Rattle.pack.specs.Books.{told_result, Opened, with_result, opened_by, opened_after}
use Rattle.pack.proofs.Refused.{call_alone_lem}
use Rattle.pack.proofs.Kept as kept
use Rattle.pack.proofs.Kept.{call_kept}
use Rattle.pack.proofs.Counted.{result_is}
use Rattle.std.specs.declared.option.Option.TheVariants.{Some}

-- ---- what is known of a file

pub record Shown (f : File) (x : Opened) : Type 0 where
  pub opened : f.opened ≡ true
  pub channel : f.channel ≡ x.channel
  pub unit : f.unit ≡ x.unit
  pub marked : f.marked ≡ x.marked

abbrev pub Known : File → Option Opened → Type 0
Known f none = f.opened ≡ false
Known f (some x) = Shown f x

-- the same of a file that has changed in nothing of this
known_same : (f g : File) (o : Option Opened) → Alike f g → g.marked ≡ f.marked → Known f o → Known g o
known_same f g none A m K = A.opened ∙ K
known_same f g (some x) A m K =
    record { opened = A.opened ∙ K.opened; channel = A.channel ∙ K.channel; unit = A.unit ∙ K.unit; marked = m ∙ K.marked }

-- ---- what happens to a file leaves its mark, but for a mark

slot_marked : (f : File) (k : Side) (x : Slot) (t : Bool) (b : ℕ) → (with_slot f k x t b).marked ≡ f.marked
slot_marked f Low x t b = refl
slot_marked f High x t b = refl
slot_marked f Neither x t b = refl

filled_marked : (f : File) (k : Side) (n : ℕ) (e : Arrival) → (filled_at f k n e).marked ≡ f.marked
unfolding filled_at
filled_marked f k n e = slot_marked f k (Full n 0 e) (turned_by f k) (next_number f.block)

emptied_marked : (f : File) (k : Side) → (emptied_at f k).marked ≡ f.marked
unfolding emptied_at
emptied_marked f k = slot_marked f k Empty false f.block

passed_marked : (f : File) → (passed f).marked ≡ f.marked
unfolding passed without_oldest
passed_marked f = go (is_used_up (slot_at f (oldest f)))
  where
    go : (t : Bool) → (cond t (without_oldest f) f).marked ≡ f.marked
    go true = emptied_marked f (oldest f)
    go false = refl

added_marked : (f : File) → (added f).marked ≡ f.marked
unfolding added
added_marked f = go (leb (words_after f) f.size)
  where
    go : (t : Bool) → (cond t (with_slot f (put_side f) (Part (words_after f)) false f.block) f).marked ≡ f.marked
    go true = slot_marked f (put_side f) (Part (words_after f)) false f.block
    go false = refl

sealed_marked : (f : File) → (sealed_file f).marked ≡ f.marked
unfolding sealed_file
sealed_marked f = filled_marked f (part_side f) (part_length f) no_arrival

put_marked : (f : File) → (after_put f).marked ≡ f.marked
unfolding after_put
put_marked f = go (is_complete (added f))
  where
    go : (t : Bool) → (cond t (sealed_file (added f)) (added f)).marked ≡ f.marked
    go true = sealed_marked (added f) ∙ added_marked f
    go false = added_marked f

abbrev meets : Event → Bool
meets read = false
meets giveBack = false
meets mark = true
meets files.get = false
meets files.skip = false
meets files.put = false
meets files.seal = false
meets send = false
meets (deliver n e) = false

event_marked : (f : File) (e : Event) → meets e ≡ false → (files.after f e).marked ≡ f.marked
unfolding took_buffer delivered gave_back without_oldest looked_at after_found
event_marked f read m = slot_marked f (empty_side f) Taken false f.block
event_marked f giveBack m = emptied_marked f (taken_side f)
event_marked f mark m = true_not_false refl m
event_marked f files.get m =
    let h = passed (passed f) in
    slot_marked h (oldest h) (slot_after h.rlen (slot_at h (oldest h))) h.turned h.block ∙ passed_marked (passed f) ∙ passed_marked f
event_marked f files.skip m = emptied_marked f (oldest f)
event_marked f files.put m = put_marked f
event_marked f files.seal m = sealed_marked f
event_marked f send m = emptied_marked f (oldest f)
event_marked f (deliver n e) m = filled_marked f (taken_side f) n e

-- ---- what a report means for the mark

abbrev meets_mark : Effect → Bool
meets_mark (Delivers failed) = false
meets_mark MeetsMark = true
meets_mark GivesBack = false
meets_mark Sends = false
meets_mark Keeps = false

or_none : (b : Bool) → b ≡ (b || false)
or_none true = refl
or_none false = refl

or_all : (b : Bool) → true ≡ (b || true)
or_all true = refl
or_all false = refl

effect_file : (x : Effect) (f : File) (n : ℕ) (e : Checked) → Alike f (reported_file x f n e) × ((reported_file x f n e).marked ≡ (f.marked || meets_mark x))
unfolding reported_file after_write met_mark
effect_file (Delivers failed) f n e =
    let brings : Event = deliver (n - extra f.sequence f.check) (record { failed = failed; check = e }) in
    (event_alike f brings, event_marked f brings refl ∙ or_none f.marked)
effect_file MeetsMark f n e = (event_alike f mark, or_all f.marked)
effect_file GivesBack f n e = (event_alike f giveBack, event_marked f giveBack refl ∙ or_none f.marked)
effect_file Sends f n e = (event_alike f send, event_marked f send refl ∙ or_none f.marked)
effect_file Keeps f n e = (alike_self f, or_none f.marked)

-- a mark is met exactly if the result is 03: of a read whatever it comes to, and no other operation comes to a mark
abbrev is_mark : Ending → Bool
is_mark Good = false
is_mark Opposite = false
is_mark MarkRead = true
is_mark MediumEnd = false
is_mark LostRedundancy = false
is_mark LostIncomplete = false

abbrev marks : Verdict → Bool
marks (Refused n) = false
marks (Repeats q) = false
marks (Ends e) = is_mark e

abbrev Meets : Bool → Position → Op → Verdict → Type 0
Meets given p op v = meets_mark (effect_of given (Some op) v) ≡ eqb (result_number p v) 3

repeats_no_mark : (p : Position) (q : Request) → false ≡ eqb (repeated_number p q) 3
unfolding repeated_number
repeats_no_mark p q = go (cleaner_due p q)
  where
    go : (b : Bool) → false ≡ eqb (cond b 7 0) 3
    go true = refl
    go false = refl

meets_read : (given : Bool) (p : Position) (v : Verdict) → Meets given p Read v
meets_read given p (Refused n) = refl
meets_read given p (Repeats q) = repeats_no_mark p q
meets_read given p (Ends Good) = refl
meets_read given p (Ends Opposite) = refl
meets_read given p (Ends MarkRead) = refl
meets_read given p (Ends MediumEnd) = refl
meets_read true p (Ends LostRedundancy) = refl
meets_read false p (Ends LostRedundancy) = refl
meets_read true p (Ends LostIncomplete) = refl
meets_read false p (Ends LostIncomplete) = refl

meets_write : (given : Bool) (p : Position) (v : Verdict) → marks v ≡ false → Meets given p Write v
meets_write given p (Refused n) h = refl
meets_write given p (Repeats q) h = repeats_no_mark p q
meets_write given p (Ends Good) h = refl
meets_write given p (Ends Opposite) h = refl
meets_write given p (Ends MarkRead) h = true_not_false refl h
meets_write given p (Ends MediumEnd) h = refl
meets_write given p (Ends LostRedundancy) h = refl
meets_write given p (Ends LostIncomplete) h = refl

meets_mark_lem : (given : Bool) (p : Position) (v : Verdict) → marks v ≡ false → Meets given p Mark v
meets_mark_lem given p (Refused n) h = refl
meets_mark_lem given p (Repeats q) h = repeats_no_mark p q
meets_mark_lem given p (Ends Good) h = refl
meets_mark_lem given p (Ends Opposite) h = refl
meets_mark_lem given p (Ends MarkRead) h = true_not_false refl h
meets_mark_lem given p (Ends MediumEnd) h = refl
meets_mark_lem given p (Ends LostRedundancy) h = refl
meets_mark_lem given p (Ends LostIncomplete) h = refl

-- an outcome that is not a file mark ends with none
ending_not : (op : Op) (a o : ℕ) → is_mark (good_ending op a) ≡ false → eqb o file_mark ≡ false → is_mark (ending_of op a o) ≡ false
unfolding ending_of
ending_not op a o g n = go (eqb o good) (eqb o redundancy) (eqb o incomplete_word) (eqb o file_mark) n
  where
    go : (x y z w : Bool) → w ≡ false → is_mark (cond x (good_ending op a) (cond y LostRedundancy (cond z LostIncomplete (cond w MarkRead MediumEnd)))) ≡ false
    go true y z w e = g
    go false true z w e = refl
    go false false true w e = refl
    go false false false true e = e
    go false false false false e = refl

verdict_not : (q : Request) (o l : ℕ) → is_mark (ending_of q.op q.attempts o) ≡ false → marks (verdict_of q o l) ≡ false
unfolding verdict_of table_verdict
verdict_not q o l h = go (is_noise q o l) (is_allowed q.op o) (not (is_failure o) || is_permanent q o)
  where
    go : (n a e : Bool)
        → marks (cond n (Repeats (past_noise q)) (cond a (cond e (Ends (ending_of q.op q.attempts o)) (Repeats (next_attempt q o))) (Refused 12))) ≡ false
    go true a e = refl
    go false true true = h
    go false true false = refl
    go false false e = refl

meets_three : (given : Bool) (p : Position) (q : Request) (o l : ℕ) → is_allowed q.op o ≡ true → Meets given p q.op (verdict_of q o l)
unfolding is_allowed row_of any_of
meets_three given p q o l h = by q.op refl
  where
    never : (op : Op) → q.op ≡ op → is_allowed op file_mark ≡ false → eqb o file_mark ≡ false
    never op e n = go (ℕ_discrete o file_mark)
      where
        go : Dec (o ≡ file_mark) → eqb o file_mark ≡ false
        go (yes k) = true_not_false (sym (ap (λ (x : Op). is_allowed x o) e ∙ ap (is_allowed op) k) ∙ h) n
        go (no ne) = ne_eqb o file_mark ne

    by : (op : Op) → q.op ≡ op → Meets given p op (verdict_of q o l)
    by Read e = meets_read given p (verdict_of q o l)
    by Write e =
        meets_write given p (verdict_of q o l)
        (verdict_not q o l (ending_not q.op q.attempts o (ap (λ (x : Op). is_mark (good_ending x q.attempts)) e) (never Write e refl)))
    by Mark e =
        meets_mark_lem given p (verdict_of q o l)
        (verdict_not q o l (ending_not q.op q.attempts o (ap (λ (x : Op). is_mark (good_ending x q.attempts)) e) (never Mark e refl)))

-- ---- one call

-- every file after a fresh start is closed
pub all_closed : (n i : ℕ) → (get_or (replicate n closed_file) i closed_file).opened ≡ false
all_closed zero i = refl
all_closed (suc n) zero = refl
all_closed (suc n) (suc i) = all_closed n i

-- an accepted fresh start closes every file
pub known_start : (i : ℕ) (s : State) (area : List ℕ) (m w : ℕ) (masks : Masks) → (answer_of s area (fresh m w masks)).refusal ≡ 0
    → Known (file_at (answer_of s area (fresh m w masks)).state i) none
unfolding answer_of fresh_state
known_start i s area m w masks z = ap (λ (t : State). (file_at t i).opened) (fresh_accepted s (length area) m w masks z) ∙ all_closed file_count i

module _ (i : ℕ) (s : State) (area : List ℕ) (g : kept.Good s) (o : Option Opened) (K : Known (file_at s i) o) where
  untouched : (t : State) → file_at t i ≡ file_at s i → Known (file_at t i) o
  untouched t e = subst (λ (f : File). Known f o) (sym e) K

  -- file j became h, and no other file changed
  happened : (t : State) (j : ℕ) (h : File) → file_at t j ≡ h → Alike (file_at s j) h → h.marked ≡ (file_at s j).marked
      → ((k : ℕ) → k ≢ j → file_at t k ≡ file_at s k) → Known (file_at t i) o
  happened t j h e A m others = go (ℕ_discrete i j)
    where
      go : Dec (i ≡ j) → Known (file_at t i) o
      go (yes q) =
          subst (λ (f : File). Known f o) (sym (ap (λ (n : ℕ). file_at t n) q ∙ e))
          (known_same (file_at s j) h o A m (subst (λ (n : ℕ). Known (file_at s n) o) q K))
      go (no ne) = untouched t (others i ne)

  event : (t : State) (j : ℕ) (e : Event) → meets e ≡ false → file_at t j ≡ files.after (file_at s j) e
      → ((k : ℕ) → k ≢ j → file_at t k ≡ file_at s k) → Known (file_at t i) o
  event t j e m f others = happened t j (files.after (file_at s j) e) f (event_alike (file_at s j) e) (event_marked (file_at s j) e m) others

  -- a call that gives file j another binding or none
  bound_anew : (t : State) (j : ℕ) (new : Option Opened) → Known (file_at t j) new → ((k : ℕ) → k ≢ j → file_at t k ≡ file_at s k)
      → Known (file_at t i) (cond (eqb j i) new o)
  bound_anew t j new N others = go (ℕ_discrete i j)
    where
      go : Dec (i ≡ j) → Known (file_at t i) (cond (eqb j i) new o)
      go (yes q) =
          subst (λ (b : Bool). Known (file_at t i) (cond b new o)) (sym (eq-eqb j i (sym q))) (subst (λ (n : ℕ). Known (file_at t n) new) (sym q) N)
      go (no ne) =
          subst (λ (b : Bool). Known (file_at t i) (cond b new o)) (sym (ne_eqb j i (λ e. ne (sym e)))) (untouched t (others i ne))

  open_known : (file channel unit flags size rlen : ℕ) → (answer_of s area (opening file channel unit flags size rlen)).refusal ≡ 0
      → Known (file_at (answer_of s area (opening file channel unit flags size rlen)).state i)
      (cond (eqb file i) (some (record { channel = channel; unit = unit; marked = false })) o)
  unfolding answer_of opened_file
  open_known file channel unit flags size rlen z =
      bound_anew (answer_of s area (opening file channel unit flags size rlen)).state file (some (record { channel = channel; unit = unit; marked = false }))
      (subst (λ (f : File). Shown f (record { channel = channel; unit = unit; marked = false }))
      (sym (open_file s file channel unit flags size rlen z g.sixteen)) (record { opened = refl; channel = refl; unit = refl; marked = refl }))
      (open_frame s file channel unit flags size rlen).files

  close_known : (file : ℕ) → (answer_of s area (close file)).refusal ≡ 0
      → Known (file_at (answer_of s area (close file)).state i) (cond (eqb file i) none o)
  unfolding answer_of
  close_known file z = bound_anew (answer_of s area (close file)).state file none (ap (λ (f : File). f.opened) (close_file s file z)) (close_frame s file).files

  ask_known : (file op priority : ℕ) (naming : Naming) → (answer_of s area (ask file op priority naming)).refusal ≡ 0
      → Known (file_at (answer_of s area (ask file op priority naming)).state i) o
  unfolding answer_of asked_file
  ask_known file op priority naming z = go (is_reading op) (ask_file s file op priority naming z)
    where
      go : (b : Bool) → file_at (answer_of s area (ask file op priority naming)).state file ≡ cond b (took_buffer (file_at s file)) (file_at s file)
          → Known (file_at (answer_of s area (ask file op priority naming)).state i) o
      go true e = event (answer_of s area (ask file op priority naming)).state file read refl e (ask_frame s file op priority naming).files
      go false e = happened (answer_of s area (ask file op priority naming)).state file (file_at s file) e (alike_self (file_at s file)) refl (ask_frame s file op priority naming).files

  module _ (channel unit outcome len : ℕ) (words : List ℕ) (z : (answer_of s area (report channel unit outcome len words)).refusal ≡ 0) where
    abbrev c : Channel
    c = channel_at s channel

    abbrev j : ℕ
    j = file_of s channel unit

    abbrev t : State
    t = (answer_of s area (report channel unit outcome len words)).state

    abbrev result : ℕ
    result = told_result (answer_of s area (report channel unit outcome len words)).added

    number : report_refusal (report_wrong s (length area) channel) (file_at s j) c unit outcome len s.w area words ≡ 0
    unfolding answer_of report_refusal
    number = sym (report_exactly s area channel unit outcome len words).number ∙ z

    ready : ReportReady (report_wrong s (length area) channel) (file_at s j) c unit outcome len s.w area words
    ready = report_ready (report_wrong s (length area) channel) (file_at s j) c unit outcome len s.w area words number

    allowed : (r : Request) → turn_at c unit ≡ Working r → is_allowed r.op outcome ≡ true
    unfolding operation_at
    allowed r w = not_false (is_allowed r.op outcome) (sym (ap (λ (x : Turn). is_forbidden (work_of x) outcome) w) ∙ ready.allowed)

    three : meets_mark (effect_at c unit outcome len (length words)) ≡ eqb result 3
    unfolding answer_of operation_at judge_of
    three = go (view s area channel unit outcome len words g.sixteen number)
      where
        for : (r : Request) → turn_at c unit ≡ Working r → meets_mark (effect_at c unit outcome len (length words)) ≡ eqb result 3
        for r w =
            ap (λ (x : Turn). meets_mark (effect_of (ltb 0 (length words)) (work_of x) (judge_turn x outcome len))) w
            ∙ meets_three (ltb 0 (length words)) (position_at c unit) r outcome len (allowed r w)
            ∙ sym (ap (λ (n : ℕ). eqb n 3) (result_is channel s area channel unit outcome len words z ∙ ap (λ (x : Turn). result_number (position_at c unit) (judge_turn x outcome len)) w))

        go : Booked c unit outcome len → meets_mark (effect_at c unit outcome len (length words)) ≡ eqb result 3
        go (again r q w e) = for r w
        go (ended r x w e) = for r w

    bound : serves channel unit (file_at s j) ≡ true
    unfolding answer_of
    bound = (report_books_own s area channel unit outcome len words g.sixteen z).bound

    others : (k : ℕ) → k ≢ j → file_at t k ≡ file_at s k
    unfolding answer_of
    others = (report_books_own s area channel unit outcome len words g.sixteen z).others.files

    became : file_at t j ≡ reported_file (effect_at c unit outcome len (length words)) (file_at s j) (length words) (delivery_check (effect_at c unit outcome len (length words)) (file_at s j) words)
    unfolding answer_of
    became = report_file_lem s area channel unit outcome len words g.sixteen z

    only : serves channel unit (file_at s i) ≡ true → i ≡ j
    unfolding answer_of
    only = (report_books_own s area channel unit outcome len words g.sixteen z).only i

    report_known : Known (file_at t i) (with_result channel unit result o)
    report_known = go o K (ℕ_discrete i j)
      where
        mine : (x : Opened) → Shown (file_at s j) x → Shown (file_at t j) (record {
          channel = x.channel;
          unit = x.unit;
          marked = x.marked || (eqb x.channel channel && (eqb x.unit unit && eqb result 3));
        })
        mine x Kx =
            let P = effect_file (effect_at c unit outcome len (length words)) (file_at s j) (length words) (delivery_check (effect_at c unit outcome len (length words)) (file_at s j) words) in
            let rest = and_right (file_at s j).opened _ bound in
            let on_channel : x.channel ≡ channel = sym Kx.channel ∙ eqb-true (file_at s j).channel channel (and_left (eqb (file_at s j).channel channel) _ rest) in
            let on_unit : x.unit ≡ unit = sym Kx.unit ∙ eqb-true (file_at s j).unit unit (and_right (eqb (file_at s j).channel channel) _ rest) in
            let flags : (eqb x.channel channel && (eqb x.unit unit && eqb result 3)) ≡ eqb result 3 =
            rw (eq-eqb x.channel channel on_channel, eq-eqb x.unit unit on_unit) in
            record {
              opened = ap (λ (f : File). f.opened) became ∙ P.0.opened ∙ Kx.opened;
              channel = ap (λ (f : File). f.channel) became ∙ P.0.channel ∙ Kx.channel;
              unit = ap (λ (f : File). f.unit) became ∙ P.0.unit ∙ Kx.unit;
              marked =
                  ap (λ (f : File). f.marked) became ∙ P.1 ∙ ap (λ (b : Bool). b || meets_mark (effect_at c unit outcome len (length words))) Kx.marked
                  ∙ ap (λ (b : Bool). x.marked || b) (three ∙ sym flags);
            }

        other : (x : Opened) → Shown (file_at s i) x → i ≢ j → (eqb x.channel channel && (eqb x.unit unit && eqb result 3)) ≡ false
        other x Kx ne = by (eqb x.channel channel) (eqb x.unit unit) refl refl
          where
            by : (a b : Bool) → eqb x.channel channel ≡ a → eqb x.unit unit ≡ b → (a && (b && eqb result 3)) ≡ false
            by false b p q = refl
            by true false p q = refl
            by true true p q =
                absurd (ne (only (and_both (file_at s i).opened _ Kx.opened
                (and_both (eqb (file_at s i).channel channel) _ (ap (λ (n : ℕ). eqb n channel) Kx.channel ∙ p) (ap (λ (n : ℕ). eqb n unit) Kx.unit ∙ q)))))

        go : (h : Option Opened) → Known (file_at s i) h → Dec (i ≡ j) → Known (file_at t i) (with_result channel unit result h)
        go none Kn (yes q) = true_not_false (and_left (file_at s j).opened _ bound) (subst (λ (n : ℕ). (file_at s n).opened ≡ false) q Kn)
        go none Kn (no ne) = ap (λ (f : File). f.opened) (others i ne) ∙ Kn
        go (some x) Kx (yes q) =
            subst (λ (n : ℕ). Known (file_at t n) (with_result channel unit result (some x))) (sym q) (mine x (subst (λ (n : ℕ). Shown (file_at s n) x) q Kx))
        go (some x) Kx (no ne) =
            let e = others i ne in
            record {
              opened = ap (λ (f : File). f.opened) e ∙ Kx.opened;
              channel = ap (λ (f : File). f.channel) e ∙ Kx.channel;
              unit = ap (λ (f : File). f.unit) e ∙ Kx.unit;
              marked = ap (λ (f : File). f.marked) e ∙ Kx.marked ∙ or_none x.marked ∙ ap (λ (b : Bool). x.marked || b) (sym (other x Kx ne));
            }

  accepted_known : (call : Call) → (answer_of s area call).refusal ≡ 0
      → Known (file_at (answer_of s area call).state i) (opened_by i call (answer_of s area call) o)
  unfolding answer_of get_from
  accepted_known (fresh m w masks) z = known_start i s area m w masks z
  accepted_known (opening file channel unit flags size rlen) z = open_known file channel unit flags size rlen z
  accepted_known (close file) z = close_known file z
  accepted_known (ask file op priority naming) z = ask_known file op priority naming z
  accepted_known (report channel unit outcome len words) z = report_known channel unit outcome len words z
  accepted_known (get file) z = event (answer_of s area (get file)).state file files.get refl (get_file s area file z) (get_frame s area file).0
  accepted_known (put file words) z = event (answer_of s area (put file words)).state file files.put refl (put_file s area file words z) (put_frame s area file words).0
  accepted_known (seal file) z = event (answer_of s area (seal file)).state file files.seal refl (seal_file s area file z) (seal_frame s area file).0
  accepted_known (skip file) z = event (answer_of s area (skip file)).state file files.skip refl (skip_drops s file z).0 (skip_frame s file).0
  accepted_known freeze z = untouched (answer_of s area freeze).state (ap (λ (fs : List File). get_or fs i closed_file) (freeze_frame s).0.files)
  accepted_known thaw z = untouched (answer_of s area thaw).state (ap (λ (fs : List File). get_or fs i closed_file) (thaw_frame s).files)
  accepted_known return z = untouched (answer_of s area return).state (ap (λ (fs : List File). get_or fs i closed_file) (return_frame s).files)
  accepted_known running z = untouched (answer_of s area running).state (ap (λ (fs : List File). get_or fs i closed_file) (running_frame s).files)

  -- a refused call changes nothing
  pub call_known : (call : Call)
      → Known (file_at (answer_of s area call).state i) (cond (is_accepted (answer_of s area call)) (opened_by i call (answer_of s area call) o) o)
  call_known call = go (ℕ_discrete (answer_of s area call).refusal 0)
    where
      To : Bool → Type 0
      To b = Known (file_at (answer_of s area call).state i) (cond b (opened_by i call (answer_of s area call) o) o)

      go : Dec ((answer_of s area call).refusal ≡ 0) → To (is_accepted (answer_of s area call))
      go (yes z) = subst To (sym (eq-eqb (answer_of s area call).refusal 0 z)) (accepted_known call z)
      go (no h) =
          subst To (sym (ne_eqb (answer_of s area call).refusal 0 h))
          (subst (λ (a : Answer). Known (file_at a.state i) o) (sym (call_alone_lem s area call h)) K)

-- ---- any history

pub known_after : (i : ℕ) (s : State) (o : Option Opened) (h : List Lent) → kept.Good s → Known (file_at s i) o
    → Known (file_at (after s h) i) (opened_after i s o h)
unfolding after opened_after
known_after i s o [] g K = K
known_after i s o (x ∷ h) g K =
    known_after i (answer_to s x).state (cond (is_accepted (answer_to s x)) (opened_by i x.call (answer_to s x) o) o) h (call_kept s x.area g x.call) (call_known i s x.area g o K x.call)
