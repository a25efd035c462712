-- Whatever may happen to a sound file keeps it sound, and leaves it its unit and its buffers. Assumes nothing.
use mathlib.Core.Path.{◌≡◌, refl, ◌∙◌}
use mathlib.Core.Bool.{Bool, true, false, cond}
use Prim.Native.Nat.{ℕ, ◌≤◌}
use lib.Dec.{leb}
use Rattle.file.specs.declared.Arrival.{Arrival}
use Rattle.file.specs.Arrivals.{no_arrival, is_arrival}
use Rattle.file.specs.declared.Side.{Side}
use Rattle.file.specs.declared.Slot.TheVariants.{Taken, Part, Full, Empty}
use Rattle.file.specs.declared.File.{File}
use Rattle.file.specs.Sides.{slot_at, is_side, empty_side, taken_side, part_side, oldest}
use Rattle.file.specs.Fills.{turned_by, filled_at, emptied_at, without_oldest, with_slot}
use Rattle.word.specs.CheckWords.{next_number}
use Rattle.file_input.specs.Delivers.{has_empty, took_buffer, delivered, gave_back, with_file_mark, met_mark}
use Rattle.file_output.specs.Puts.{put_side, has_room, words_after, added, after_put}
use Rattle.file_output.specs.Parts.{has_part, is_complete, part_length, sealed_file}
use Rattle.file_input.specs.Gets.{is_used_up, passed, looked_at, slot_after, after_found}
use Rattle.file_input.specs.Histories.{Event, read, giveBack, mark, get, skip, put, seal, send, deliver, after}
use Rattle.state_sound.specs.Files.{taken_count, file_sound}
use Rattle.state_sound.proofs.FileFacts.{Sound, facts, sound}
use Rattle.state_sound.proofs.Changes.{taken_input, took_sound, delivered_sound, back_sound, dropped_sound, met_sound, found_sound, passed_sound, same_passed, sealed_sound}
use Rattle.state_sound.proofs.Puts.{put_sound}
use Rattle.state_sound.proofs.Replaced.{Alike, alike_self, alike_then, alike_slot}

-- when each may happen to an open file: where the call for it is not refused
abbrev pub Allowed : File → Event → Type 0
Allowed f read = (f.output ≡ false) × (taken_count f ≡ 0) × (has_empty f ≡ true)
Allowed f (deliver n e) = (is_side (taken_side f) ≡ true) × (1 ≤ n) × (n ≤ f.size) × (is_arrival f.sequence f.check e ≡ true)
Allowed f giveBack = is_side (taken_side f) ≡ true
Allowed f mark = is_side (taken_side f) ≡ true
Allowed f get = f.output ≡ false
Allowed f skip = is_side (oldest f) ≡ true
Allowed f put = (f.output ≡ true) × (has_room f ≡ true)
Allowed f seal = has_part f ≡ true
Allowed f send = is_side (oldest f) ≡ true

event_sound : (m w : ℕ) (f : File) (e : Event) → Sound m w f → Allowed f e → Sound m w (after f e)
unfolding looked_at
event_sound m w f read S (i, n, s) = took_sound m w f S i n s
event_sound m w f (deliver n e) S (s, some, fit, err) = delivered_sound m w f S n e s some fit err
event_sound m w f giveBack S s = back_sound m w f S
event_sound m w f mark S s = met_sound m w f S (taken_input m w f S s)
event_sound m w f get S i =
    found_sound m w (looked_at f) (passed_sound m w (passed f) (passed_sound m w f S)) (same_passed (passed f) ∙ same_passed f ∙ i)
event_sound m w f skip S s = dropped_sound m w f S
event_sound m w f put S (o, s) = put_sound m w f S o s
event_sound m w f seal S s = sealed_sound m w f S s
event_sound m w f send S s = dropped_sound m w f S

-- ---- it holds what it held

emptied_alike : (f : File) (k : Side) → Alike f (emptied_at f k)
unfolding emptied_at
emptied_alike f k = alike_slot f k Empty false f.block

filled_alike : (f : File) (k : Side) (n : ℕ) (e : Arrival) → Alike f (filled_at f k n e)
unfolding filled_at
filled_alike f k n e = alike_slot f k (Full n 0 e) (turned_by f k) (next_number f.block)

marked_alike : (f : File) → Alike f (with_file_mark f)
marked_alike f = record { opened = refl; channel = refl; unit = refl; double = refl; output = refl; low = refl; high = refl }

passed_alike : (f : File) → Alike f (passed f)
unfolding passed without_oldest
passed_alike f = go (is_used_up (slot_at f (oldest f)))
  where
    go : (t : Bool) → Alike f (cond t (emptied_at f (oldest f)) f)
    go true = emptied_alike f (oldest f)
    go false = alike_self f

added_alike : (f : File) → Alike f (added f)
unfolding added
added_alike f = go (leb (words_after f) f.size)
  where
    go : (t : Bool) → Alike f (cond t (with_slot f (put_side f) (Part (words_after f)) false f.block) f)
    go true = alike_slot f (put_side f) (Part (words_after f)) false f.block
    go false = alike_self f

put_alike : (f : File) → Alike f (after_put f)
unfolding after_put sealed_file
put_alike f = go (is_complete (added f))
  where
    go : (t : Bool) → Alike f (cond t (sealed_file (added f)) (added f))
    go true = alike_then f (added f) (sealed_file (added f)) (added_alike f) (filled_alike (added f) (part_side (added f)) (part_length (added f)) no_arrival)
    go false = added_alike f

pub event_alike : (f : File) (e : Event) → Alike f (after f e)
unfolding took_buffer delivered gave_back met_mark without_oldest sealed_file looked_at after_found
event_alike f read = alike_slot f (empty_side f) Taken false f.block
event_alike f (deliver n e) = filled_alike f (taken_side f) n e
event_alike f giveBack = emptied_alike f (taken_side f)
event_alike f mark = alike_then f (gave_back f) (met_mark f) (emptied_alike f (taken_side f)) (marked_alike (gave_back f))
event_alike f get =
    alike_then f (looked_at f) (after_found (looked_at f)) (alike_then f (passed f) (looked_at f) (passed_alike f) (passed_alike (passed f)))
    (alike_slot (looked_at f) (oldest (looked_at f)) (slot_after (looked_at f).rlen (slot_at (looked_at f) (oldest (looked_at f)))) (looked_at f).turned (looked_at f).block)
event_alike f skip = emptied_alike f (oldest f)
event_alike f put = put_alike f
event_alike f seal = filled_alike f (part_side f) (part_length f) no_arrival
event_alike f send = emptied_alike f (oldest f)

-- ---- sound files stay sound

pub event_kept : (m w : ℕ) (f : File) (e : Event) → file_sound m w f ≡ true → f.opened ≡ true → Allowed f e → file_sound m w (after f e) ≡ true
event_kept m w f e h o a = sound m w (after f e) ((event_alike f e).opened ∙ o) (event_sound m w f e (facts m w f h o) a)
