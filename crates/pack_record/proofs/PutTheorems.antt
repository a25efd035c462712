-- Put: exactly when it is refused, that a refusal changes nothing, that a sound state stays sound, what it writes, and that nothing else is
-- touched. Assumes nothing.
use mathlib.Core.Path.{◌≡◌, refl, sym, ap, subst, ◌∙◌}
use mathlib.Core.Logic.{◌≢◌}
use mathlib.Core.Bool.{Bool, true, false, not, cond, ◌&&◌, ◌||◌}
use mathlib.Core.List.{List, ◌++◌}
use Prim.Native.Nat.{ℕ, ◌+◌, ◌*◌, ◌≤◌}
use borrow.Author.Tests.{eqb-true, eq-eqb, ltb-false, ne_eqb, not-false}
use lib.Dec.{ltb, eqb, leb}
use lib.ListN.{length}
use lib.Seq.{get_or-set_same, get_or-set_other}
use Rattle.pool.specs.Free.{file_count}
use Rattle.area.specs.Lists.{all_of}
use Rattle.area.specs.Parts.{is_word, part_of}
use Rattle.area.specs.Refusals.{Rows, lowest, Exactly, NoneApplies, here, later}
use Rattle.area.proofs.Walks.{or_left, or_right, true_not_false, and_both}
use Rattle.area.proofs.Exactly.{exactly}
use Rattle.file.specs.declared.File.{File}
use Rattle.file.specs.Slots.{part_words}
use Rattle.file.specs.Sides.{buffer_at, slot_at, start_at}
use Rattle.file.specs.Sizes.{closed_file}
use Rattle.word.specs.CheckWords.{extra}
use Rattle.file_output.specs.Puts.{put_side, has_room, put_start, words_after, added, after_put}
use Rattle.file_output.specs.Parts.{is_complete}
use Rattle.file_input.specs.Histories as histories
use Rattle.state_sound.proofs.FileFacts.{Sound}
use Rattle.state_sound.proofs.Puts.{put_sound}
use Rattle.state_sound.proofs.Events.{event_alike}
use Rattle.state.specs.declared.State.{State}
use Rattle.state.specs.Places.{file_at, area_short}
use Rattle.state.specs.Stores.{with_file}
use Rattle.pack_record.specs.Misused.{misused}
use Rattle.state_sound.specs.Soundness.{sound, request_of}
use Rattle.state_sound.proofs.Facts.{SoundFacts, sound_facts, facts_sound}
use Rattle.state_sound.proofs.Kept.{file_kept_lem, holdings, place_of}
use Rattle.pack_record.specs.Only.{Only}
use Rattle.call_record.specs.Blocks.{held_right}
use Rattle.call_record.specs.Put.{is_put_taken, sums, put_rows, put_refusal, put_area, put_on, put_on_area}
use Rattle.pack_record.specs.Puts.{put_change, put_by, put_by_area}
use Rattle.pack_record.proofs.Written.{only_self, other_buffer}
use Rattle.pack_record.proofs.Fillings.{with_check, put_only, put_buffer, put_added, put_sealed}
use Rattle.pack_record.proofs.OutputReady.{put_full, output_ready}

module _ (s : State) (area : List ℕ) (file : ℕ) (words : List ℕ) where
  abbrev f : File
  f = file_at s file

  abbrev rows : Rows
  rows = put_rows (misused s (length area) file) f s.w area words

  -- "Given exactly when", and "If several apply, the lowest number is given."
  pub put_exactly : ((put_by s area file words).refusal ≡ lowest rows) × Exactly rows
  unfolding put_by put_on put_refusal put_rows
  put_exactly = (refl, exactly rows refl)

  -- "A refusal returns the number alone and changes nothing."
  pub put_refused : ((put_by s area file words).refusal ≡ 0 → ⊥) → ((put_by s area file words).state ≡ s) × (put_by_area s area file words ≡ area)
  unfolding put_by put_on put_by_area put_on_area
  put_refused h =
      let e : eqb (put_refusal (misused s (length area) file) f s.w area words) 0 ≡ false = ne_eqb _ 0 h in
      (rw e, rw e)

  module _ (accepted : (put_by s area file words).refusal ≡ 0) where
    none : NoneApplies rows
    none = put_exactly.1.none (sym put_exactly.0 ∙ accepted)

    right : misused s (length area) file ≡ false
    unfolding put_rows
    right = none 1 (misused s (length area) file) here

    pub put_state_sound : sound s ≡ true
    put_state_sound = not-false (sound s) (or_right (area_short s (length area)) _ (or_right (leb file_count file) _ right))

    pub put_area_long : s.m * s.w ≤ length area
    put_area_long = ltb-false (length area) (s.m * s.w) (or_left (area_short s (length area)) _ (or_right (leb file_count file) _ right))

    pub put_open : f.opened ≡ true
    unfolding put_rows
    put_open = not-false f.opened (none 5 (not f.opened) (later (later here)))

    pub put_output : f.output ≡ true
    unfolding put_rows
    put_output = not-false f.output (none 6 (not f.output) (later (later (later here))))

    pub put_room : has_room f ≡ true
    unfolding put_rows
    put_room = not-false (has_room f) (none 9 (not (has_room f)) (later (later (later (later here)))))

    pub put_exact : length words ≡ f.rlen
    unfolding put_rows
    put_exact = eqb-true (length words) f.rlen (not-false _ (none 13 (not (eqb (length words) f.rlen)) (later (later (later (later (later here)))))))

    spoilt : (not (all_of is_word words) || (sums f (length words) && not (held_right s.w f area))) ≡ false
    unfolding put_rows
    spoilt = none 2 (not (all_of is_word words) || (sums f (length words) && not (held_right s.w f area))) (later here)

    pub put_words_right : all_of is_word words ≡ true
    put_words_right = not-false _ (or_left (not (all_of is_word words)) _ spoilt)

    -- the words that a put that seals finds in the buffer
    pub put_held_right : is_complete (added f) ≡ true → f.check ≡ true → held_right s.w f area ≡ true
    put_held_right c k =
        let taken : is_put_taken f (length words) ≡ true =
        and_both f.opened _ put_open (and_both f.output _ put_output (and_both (has_room f) _ put_room (eq-eqb (length words) f.rlen put_exact))) in
        let summed : sums f (length words) ≡ true = and_both (is_put_taken f (length words)) _ taken (and_both (is_complete (added f)) _ c k) in
        not-false _ (sym (ap (λ (b : Bool). b && not (held_right s.w f area)) summed) ∙ or_right (not (all_of is_word words)) _ spoilt)

    S : Sound s.m s.w f
    S = (sound_facts s put_state_sound).files file put_open

    put_is : ((put_by s area file words).state ≡ with_file s file (after_put f)) × (put_by_area s area file words ≡ put_area s.w f words area)
    unfolding put_by put_on put_by_area put_on_area
    put_is =
        let e : put_refusal (misused s (length area) file) f s.w area words ≡ 0 = accepted in
        (rw e, rw e)

    -- the file after it stands in its place
    pub put_file : file_at (put_by s area file words).state file ≡ after_put f
    unfolding with_file
    put_file = ap (λ (t : State). file_at t file) put_is.0 ∙ get_or-set_same s.files file (after_put f) closed_file (place_of s file put_open)

    kept_facts : SoundFacts (with_file s file (after_put f))
    kept_facts =
        let F = sound_facts s put_state_sound in
        let T = put_sound s.m s.w f S put_output put_room in
        file_kept_lem s file (after_put f) F put_open (holdings f (after_put f) (event_alike f histories.put)) T
        (output_ready s.m s.w (request_of s.channels f) f (after_put f) S T put_output (event_alike f histories.put).output (put_full s.m s.w f S put_room) (F.ready file put_open))

    -- nothing of the area changes but the words of the put, in their place, and a check word after them
    pub put_writes : Only (put_start s.w f) (f.rlen + extra f.sequence f.check) area (put_by_area s area file words)
    put_writes =
        subst (Only (put_start s.w f) (f.rlen + extra f.sequence f.check) area) (sym put_is.1)
        (put_only s.m s.w f words area S put_room put_exact put_area_long put_words_right put_held_right)

    -- nothing outside the buffer that it adds to
    pub put_own_buffer : Only (start_at f s.w (put_side f)) s.w area (put_by_area s area file words)
    put_own_buffer =
        subst (Only (start_at f s.w (put_side f)) s.w area) (sym put_is.1)
        (put_buffer s.m s.w f words area S put_room put_exact put_area_long put_words_right put_held_right)

    -- the buffer's words are those that it had, then those of the put
    pub put_adds : is_complete (added f) ≡ false
        → part_of (start_at f s.w (put_side f)) (words_after f) (put_by_area s area file words) ≡ part_of (start_at f s.w (put_side f)) (part_words (slot_at f (put_side f))) area ++ words
    put_adds c =
        ap (part_of (start_at f s.w (put_side f)) (words_after f)) put_is.1
        ∙ put_added s.m s.w f words area S put_room put_exact put_area_long put_words_right put_held_right c

    -- "If less than r then remains of B, the block is sealed at once": the check word of all of them follows
    pub put_seals : is_complete (added f) ≡ true
        → part_of (start_at f s.w (put_side f)) (words_after f + extra f.sequence f.check) (put_by_area s area file words)
        ≡ with_check f (part_of (start_at f s.w (put_side f)) (part_words (slot_at f (put_side f))) area ++ words)
    put_seals c =
        ap (part_of (start_at f s.w (put_side f)) (words_after f + extra f.sequence f.check)) put_is.1
        ∙ put_sealed s.m s.w f words area S put_room put_exact put_area_long put_words_right put_held_right c

  -- a sound state stays sound, whatever the answer
  pub put_kept : sound s ≡ true → sound (put_by s area file words).state ≡ true
  put_kept h = go (eqb (put_by s area file words).refusal 0) refl
    where
      go : (t : Bool) → eqb (put_by s area file words).refusal 0 ≡ t → sound (put_by s area file words).state ≡ true
      go true e =
          let a = eqb-true (put_by s area file words).refusal 0 e in
          ap sound (put_is a).0 ∙ facts_sound (with_file s file (after_put f)) (kept_facts a)
      go false e = ap sound (put_refused (λ z. true_not_false (ap (λ (n : ℕ). eqb n 0) z) e)).0 ∙ h

  -- every other file, every channel and the pool are as they were
  pub put_frame : ((j : ℕ) → j ≢ file → file_at (put_by s area file words).state j ≡ file_at s j) × ((put_by s area file words).state.channels ≡ s.channels)
      × ((put_by s area file words).state.m ≡ s.m) × ((put_by s area file words).state.w ≡ s.w) × ((put_by s area file words).state.frozen ≡ s.frozen)
      × ((put_by s area file words).state.routines ≡ s.routines)
  unfolding put_by with_file
  put_frame = go (eqb (put_change s area file words).refusal 0)
    where
      go : (t : Bool) → ((j : ℕ) → j ≢ file → file_at (cond t (with_file s file (put_change s area file words).file) s) j ≡ file_at s j)
          × ((cond t (with_file s file (put_change s area file words).file) s).channels ≡ s.channels)
          × ((cond t (with_file s file (put_change s area file words).file) s).m ≡ s.m) × ((cond t (with_file s file (put_change s area file words).file) s).w ≡ s.w)
          × ((cond t (with_file s file (put_change s area file words).file) s).frozen ≡ s.frozen)
          × ((cond t (with_file s file (put_change s area file words).file) s).routines ≡ s.routines)
      go true = (λ j ne. get_or-set_other s.files file j (put_change s area file words).file closed_file ne, refl, refl, refl, refl, refl)
      go false = (λ j ne. refl, refl, refl, refl, refl, refl)

  -- and so is every word of the area outside the buffer that it adds to, whatever the answer
  pub put_area_frame : Only (start_at f s.w (put_side f)) s.w area (put_by_area s area file words)
  put_area_frame = go (eqb (put_by s area file words).refusal 0) refl
    where
      go : (t : Bool) → eqb (put_by s area file words).refusal 0 ≡ t → Only (start_at f s.w (put_side f)) s.w area (put_by_area s area file words)
      go true e = put_own_buffer (eqb-true (put_by s area file words).refusal 0 e)
      go false e =
          subst (Only (start_at f s.w (put_side f)) s.w area) (sym (put_refused (λ z. true_not_false (ap (λ (n : ℕ). eqb n 0) z) e)).1)
          (only_self (start_at f s.w (put_side f)) s.w area)

  -- so that every other buffer of the pool, free or held by any file, has the words that it had
  pub put_other_buffers : (c : ℕ) → c ≢ (buffer_at f (put_side f)).number → part_of (c * s.w) s.w (put_by_area s area file words) ≡ part_of (c * s.w) s.w area
  put_other_buffers c ne = other_buffer s.w (buffer_at f (put_side f)).number c area (put_by_area s area file words) put_area_frame ne
