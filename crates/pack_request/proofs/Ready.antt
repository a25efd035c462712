-- What ask and report make of a sound file: it is sound still, ready for what is requested then, and on the same unit and buffers.
-- Assumes nothing.
use mathlib.Core.Path.{◌≡◌, refl, ap, ◌∙◌}
use mathlib.Core.Bool.{Bool, true, false, not, ◌&&◌, ◌||◌}
use Prim.Native.Nat.{ℕ, zero, suc, ◌+◌, ◌-◌, ◌≤◌}
use native.Mathlib.Omega.{arith}
use lib.Dec.{ltb, eqb}
use borrow.Author.Tests.{eqb-true, eq-eqb, ltb-false}
use Rattle.area.proofs.Walks.{true_not_false, and_left, and_right, and_both, or_left}
use Rattle.channel.specs.declared.Op.{Op}
use Rattle.channel.specs.declared.Op.TheVariants.{Read, Write, Mark}
use Rattle.channel_outcomes.specs.declared.Ending.{Ending}
use Rattle.channel_outcomes.specs.declared.Ending.TheVariants.{Good, Opposite, MarkRead, MediumEnd, LostRedundancy, LostIncomplete}
use Rattle.word.specs.declared.Checked.{Checked}
use Rattle.word.specs.Checks.{is_checked, is_exact}
use Rattle.file.specs.declared.Arrival.{Arrival}
use Rattle.file.specs.Arrivals.{redundancy_error, incomplete_error, is_arrival}
use Rattle.file.proofs.ArrivalLaws.{arrival, well_fits, kept_fits}
use Rattle.file.specs.declared.Slot.{Slot}
use Rattle.file.specs.declared.Slot.TheVariants.{Empty, Taken, Full}
use Rattle.file.specs.declared.Side.{Side}
use Rattle.file.specs.declared.Side.TheVariants.{Low, High, Neither}
use Rattle.file.specs.declared.File.{File}
use Rattle.file.specs.Slots.{is_taken}
use Rattle.file.specs.Sides.{slot_at, is_side, lower, empty_side, taken_side, oldest}
use Rattle.file.specs.Fills.{with_slot, turned_by, filled_at, emptied_at, without_oldest}
use Rattle.word.specs.CheckWords.{next_number, extra}
use Rattle.file_input.specs.Delivers.{has_empty, has_full, block_fits, took_buffer, delivered, gave_back, met_mark}
use Rattle.file_output.specs.Sends.{has_unsent, after_write}
use Rattle.file.proofs.Which.{taken_there}
use Rattle.file_input.specs.Histories.{read, giveBack, mark, send, deliver}
use Rattle.state_sound.specs.Files.{taken_count}
use Rattle.area.specs.Lists.{one_if}
use Rattle.state_sound.proofs.FileFacts.{Sound}
use Rattle.state_sound.proofs.FilesKept.{other, taken_sides}
use Rattle.state_sound.proofs.Changes.{taken_input, took_sound, delivered_sound, back_sound, dropped_sound, met_sound}
use Rattle.state_sound.proofs.Replaced.{Alike, alike_self}
use Rattle.state_sound.proofs.Events.{event_alike}
use Rattle.state_sound.specs.Requests.{is_read, is_write, fits_output}
use Rattle.state_sound.specs.Judged.{file_ready}
use Rattle.call_request.specs.Ask.{is_reading, is_writing, is_marking, op_of, asked_file}
use Rattle.call_request.specs.Effects.{is_delivery, op_effect}
use Rattle.call_request.specs.Report.{reported_file}
use Rattle.call_request.proofs.Found.{fits_bounds}
use Rattle.std.specs.declared.option.Option.{Option}
use Rattle.std.specs.declared.option.Option.TheVariants.{Some, None}

-- ---- how many buffers are taken

slot_count : (f : File) (k : Side) (x : Slot) (t : Bool) (b : ℕ) → is_side k ≡ true → taken_count (with_slot f k x t b) ≡ one_if (is_taken x) + one_if (is_taken (other f k))
slot_count f Low x t b s = refl
slot_count f High x t b s = omega arith
slot_count f Neither x t b s = true_not_false s refl

-- the taken buffer is taken no longer
freed_count : (f : File) (k : Side) (x : Slot) (t : Bool) (b : ℕ) → is_side k ≡ true → is_taken (slot_at f k) ≡ true → is_taken x ≡ false → taken_count f ≡ 1 → taken_count (with_slot f k x t b) ≡ 0
freed_count f k x t b s was now n =
    let one : one_if (is_taken (slot_at f k)) ≡ 1 = ap one_if was in
    let none : one_if (is_taken x) ≡ 0 = ap one_if now in
    omega (arith, slot_count f k x t b s, taken_sides f k s)

pub took_count : (f : File) → taken_count f ≡ 0 → has_empty f ≡ true → taken_count (took_buffer f) ≡ 1
unfolding took_buffer
took_count f n s = omega (arith, slot_count f (empty_side f) Taken false f.block s, taken_sides f (empty_side f) s)

pub some_taken : (f : File) → taken_count f ≡ 1 → is_side (taken_side f) ≡ true
unfolding taken_side
some_taken f n = go (is_taken f.low.slot) (is_taken f.high.slot) n
  where
    go : (a b : Bool) → one_if a + one_if b ≡ 1 → is_side (lower a b) ≡ true
    go true b e = refl
    go false true e = refl
    go false false e = absurd (omega arith)

module _ (f : File) (n : taken_count f ≡ 1) where
  here : is_side (taken_side f) ≡ true
  here = some_taken f n

  delivered_count : (k : ℕ) (e : Arrival) → taken_count (delivered f k e) ≡ 0
  unfolding delivered filled_at
  delivered_count k e = freed_count f (taken_side f) (Full k 0 e) (turned_by f (taken_side f)) (next_number f.block) here (taken_there f here) refl n

  back_count : taken_count (gave_back f) ≡ 0
  unfolding gave_back emptied_at
  back_count = freed_count f (taken_side f) Empty false f.block here (taken_there f here) refl n

  met_count : taken_count (met_mark f) ≡ 0
  unfolding met_mark
  met_count = back_count

emptied_count : (f : File) (k : Side) → taken_count f ≡ 0 → taken_count (emptied_at f k) ≡ 0
unfolding emptied_at
emptied_count f Low n = omega arith
emptied_count f High n = omega arith
emptied_count f Neither n = n

-- ---- what a file that is ready for a request has

pub record Ready (x : Option Op) (f : File) : Type 0 where
  pub way : fits_output x f.output ≡ true
  pub taken : taken_count f ≡ one_if (is_read x)
  pub block : (not (is_write x) || has_full f) ≡ true

pub ready_facts : (x : Option Op) (f : File) → file_ready x f ≡ true → Ready x f
unfolding file_ready
ready_facts x f h =
    let rest = and_right (fits_output x f.output) _ h in
    record {
      way = and_left (fits_output x f.output) _ h;
      taken = eqb-true (taken_count f) (one_if (is_read x)) (and_left (eqb (taken_count f) (one_if (is_read x))) _ rest);
      block = and_right (eqb (taken_count f) (one_if (is_read x))) _ rest;
    }

pub facts_ready : (x : Option Op) (f : File) → Ready x f → file_ready x f ≡ true
unfolding file_ready
facts_ready x f R =
    and_both (fits_output x f.output) _ R.way (and_both (eqb (taken_count f) (one_if (is_read x))) _ (eq-eqb (taken_count f) (one_if (is_read x)) R.taken) R.block)

-- a file that has no request has no buffer taken, and that is all it needs
pub ready_none : (f : File) → taken_count f ≡ 0 → file_ready None f ≡ true
ready_none f n = facts_ready None f (record { way = refl; taken = n; block = refl })

-- ---- g is what became of the sound file f: sound, ready for x, on the same unit and buffers

pub record Became (m w : ℕ) (x : Option Op) (f g : File) : Type 0 where
  pub sound : Sound m w g
  pub ready : file_ready x g ≡ true
  pub alike : Alike f g

-- ---- ask

-- what an accepted ask of operation number op found of the file
pub data Kind (f : File) : ℕ → Type 0 where
  reads : f.output ≡ false → has_empty f ≡ true → f.marked ≡ false → Kind f 0
  writes : f.output ≡ true → has_full f ≡ true → Kind f 1
  marks : f.output ≡ true → has_unsent f ≡ false → Kind f 2

pub not_false : (b : Bool) → not b ≡ false → b ≡ true
not_false true e = refl
not_false false e = true_not_false refl e

pub kind : (f : File) (op : ℕ) → ltb 2 op ≡ false → ((is_reading op && f.output) || ((is_writing op || is_marking op) && not f.output)) ≡ false
    → ((is_reading op && not (has_empty f)) || (is_writing op && not (has_full f))) ≡ false → (is_reading op && f.marked) ≡ false → (is_marking op && has_unsent f) ≡ false
    → Kind f op
kind f zero l way buffer unmarked sent = reads (or_left f.output false way) (not_false (has_empty f) (or_left (not (has_empty f)) false buffer)) unmarked
kind f (suc zero) l way buffer unmarked sent = writes (not_false f.output way) (not_false (has_full f) buffer)
kind f (suc (suc zero)) l way buffer unmarked sent = marks (not_false f.output way) sent
kind f (suc (suc (suc n))) l way buffer unmarked sent = absurd (omega (arith, ltb-false 2 (suc (suc (suc n))) l))

pub asked_file_lem : (m w : ℕ) (f : File) (op : ℕ) → Sound m w f → taken_count f ≡ 0 → Kind f op → Became m w (Some (op_of op)) f (asked_file op f)
unfolding asked_file op_of
asked_file_lem m w f op S n (reads i e u) = record {
  sound = took_sound m w f S i n e;
  ready = facts_ready (Some Read) (took_buffer f) (record { way = ap not ((event_alike f read).output ∙ i); taken = took_count f n e; block = refl });
  alike = event_alike f read;
}
asked_file_lem m w f op S n (writes o b) = record {
  sound = S;
  ready = facts_ready (Some Write) f (record { way = o; taken = n; block = b });
  alike = alike_self f;
}
asked_file_lem m w f op S n (marks o b) = record {
  sound = S;
  ready = facts_ready (Some Mark) f (record { way = o; taken = n; block = refl });
  alike = alike_self f;
}

-- ---- report

module _ (m w : ℕ) (f : File) (n : ℕ) (found : Checked) (S : Sound m w f) (right : is_checked f.sequence f.check found ≡ true)
    (exact : is_exact f.sequence f.check found ≡ true) where
  untouched : taken_count f ≡ 0 → Became m w None f f
  untouched k = record { sound = S; ready = ready_none f k; alike = alike_self f }

  sent : taken_count f ≡ 0 → Became m w None f (without_oldest f)
  unfolding without_oldest
  sent k = record { sound = dropped_sound m w f S; ready = ready_none (without_oldest f) (emptied_count f (oldest f) k); alike = event_alike f send }

  brought : (a : Arrival) → is_arrival f.sequence f.check a ≡ true → taken_count f ≡ 1 → block_fits f n ≡ true
      → Became m w None f (delivered f (n - extra f.sequence f.check) a)
  brought a fits k h =
      let b = fits_bounds f n h in
      let d = n - extra f.sequence f.check in
      let some : 1 ≤ d = omega (arith, b.0) in
      let fit : d ≤ f.size = omega (arith, b.1) in
      record {
        sound = delivered_sound m w f S d a (some_taken f k) some fit fits;
        ready = ready_none (delivered f d a) (delivered_count f k d a);
        alike = event_alike f (deliver d a);
      }

  back : taken_count f ≡ 1 → Became m w None f (gave_back f)
  back k = record { sound = back_sound m w f S; ready = ready_none (gave_back f) (back_count f k); alike = event_alike f giveBack }

  met : taken_count f ≡ 1 → Became m w None f (met_mark f)
  met k = record { sound = met_sound m w f S (taken_input m w f S (some_taken f k)); ready = ready_none (met_mark f) (met_count f k); alike = event_alike f mark }

  -- a block that was read well, and one that is kept after a permanent error
  good : taken_count f ≡ 1 → block_fits f n ≡ true → Became m w None f (delivered f (n - extra f.sequence f.check) (arrival 0 found))
  good = brought (arrival 0 found) (well_fits f.sequence f.check found right)

  kept : (x : ℕ) → (eqb x redundancy_error || eqb x incomplete_error) ≡ true → taken_count f ≡ 1 → block_fits f n ≡ true
      → Became m w None f (delivered f (n - extra f.sequence f.check) (arrival x found))
  kept x k = brought (arrival x found) (kept_fits f.sequence f.check x found k right exact)

  -- whatever operation the file was ready for, and however it ends, with words or without
  pub ended_file : (some : Bool) (op : Op) (e : Ending) → file_ready (Some op) f ≡ true → (is_delivery (op_effect some op e) ≡ true → block_fits f n ≡ true)
      → Became m w None f (reported_file (op_effect some op e) f n found)
  unfolding reported_file after_write
  ended_file some Read Good h k = good (ready_facts (Some Read) f h).taken (k refl)
  ended_file some Read Opposite h k = good (ready_facts (Some Read) f h).taken (k refl)
  ended_file some Read MarkRead h k = met (ready_facts (Some Read) f h).taken
  ended_file some Read MediumEnd h k = back (ready_facts (Some Read) f h).taken
  ended_file true Read LostRedundancy h k = kept redundancy_error refl (ready_facts (Some Read) f h).taken (k refl)
  ended_file false Read LostRedundancy h k = back (ready_facts (Some Read) f h).taken
  ended_file true Read LostIncomplete h k = kept incomplete_error refl (ready_facts (Some Read) f h).taken (k refl)
  ended_file false Read LostIncomplete h k = back (ready_facts (Some Read) f h).taken
  ended_file some Write Good h k = sent (ready_facts (Some Write) f h).taken
  ended_file some Write Opposite h k = untouched (ready_facts (Some Write) f h).taken
  ended_file some Write MarkRead h k = untouched (ready_facts (Some Write) f h).taken
  ended_file some Write MediumEnd h k = sent (ready_facts (Some Write) f h).taken
  ended_file some Write LostRedundancy h k = untouched (ready_facts (Some Write) f h).taken
  ended_file some Write LostIncomplete h k = untouched (ready_facts (Some Write) f h).taken
  ended_file some Mark e h k = untouched (ready_facts (Some Mark) f h).taken
