-- Seal: exactly when it is refused, that a refusal changes nothing, that a sound state stays sound, what it writes, and that nothing else is
-- touched. Assumes nothing.
use mathlib.Core.Path.{◌≡◌, refl, sym, ap, subst, ◌∙◌}
use mathlib.Core.Logic.{◌≢◌}
use mathlib.Core.Bool.{Bool, true, false, not, cond, ◌&&◌}
use mathlib.Core.List.{List}
use Prim.Native.Nat.{ℕ, ◌+◌, ◌*◌, ◌≤◌}
use borrow.Author.Tests.{eqb-true, ltb-false, ne_eqb, not-false}
use lib.Dec.{ltb, eqb, leb}
use lib.ListN.{length}
use lib.Seq.{get_or-set_same, get_or-set_other}
use Rattle.pool.specs.Free.{file_count}
use Rattle.area.specs.Parts.{part_of}
use Rattle.area.specs.Refusals.{Rows, lowest, Exactly, NoneApplies, here, later}
use Rattle.area.proofs.Walks.{or_left, or_right, true_not_false, and_both}
use Rattle.area.proofs.Exactly.{exactly}
use Rattle.file.specs.declared.File.{File}
use Rattle.file.specs.Sides.{buffer_at, part_side}
use Rattle.file.specs.Sizes.{closed_file}
use Rattle.word.specs.CheckWords.{extra}
use Rattle.file_output.specs.Parts.{has_part, part_start, part_length, sealed_file}
use Rattle.file_input.specs.Histories as histories
use Rattle.state_sound.proofs.FileFacts.{Sound}
use Rattle.state_sound.proofs.Changes.{sealed_sound}
use Rattle.state_sound.proofs.Events.{event_alike}
use Rattle.state.specs.declared.State.{State}
use Rattle.state.specs.Places.{file_at, area_short}
use Rattle.state.specs.Stores.{with_file}
use Rattle.pack_record.specs.Misused.{misused}
use Rattle.state_sound.specs.Soundness.{sound, request_of}
use Rattle.state_sound.proofs.Facts.{SoundFacts, sound_facts, facts_sound}
use Rattle.state_sound.proofs.Kept.{file_kept_lem, holdings, place_of}
use Rattle.pack_record.specs.Only.{Only}
use Rattle.call_record.specs.Blocks.{held_right, sealed_area}
use Rattle.call_record.specs.Seal.{seal_sums, seal_rows, seal_refusal, seal_on, seal_on_area}
use Rattle.pack_record.specs.Seals.{seal_change, seal_by, seal_by_area}
use Rattle.pack_record.proofs.Written.{only_self, other_buffer}
use Rattle.pack_record.proofs.Fillings.{with_check, seal_only, seal_buffer, seal_block}
use Rattle.pack_record.proofs.OutputReady.{sealed_full, output_ready}

module _ (s : State) (area : List ℕ) (file : ℕ) where
  abbrev f : File
  f = file_at s file

  abbrev rows : Rows
  rows = seal_rows (misused s (length area) file) f s.w area

  -- "Given exactly when", and "If several apply, the lowest number is given."
  pub seal_exactly : ((seal_by s area file).refusal ≡ lowest rows) × Exactly rows
  unfolding seal_by seal_on seal_refusal seal_rows
  seal_exactly = (refl, exactly rows refl)

  -- "A refusal returns the number alone and changes nothing."
  pub seal_refused : ((seal_by s area file).refusal ≡ 0 → ⊥) → ((seal_by s area file).state ≡ s) × (seal_by_area s area file ≡ area)
  unfolding seal_by seal_on seal_by_area seal_on_area
  seal_refused h =
      let e : eqb (seal_refusal (misused s (length area) file) f s.w area) 0 ≡ false = ne_eqb _ 0 h in
      (rw e, rw e)

  module _ (accepted : (seal_by s area file).refusal ≡ 0) where
    none : NoneApplies rows
    none = seal_exactly.1.none (sym seal_exactly.0 ∙ accepted)

    right : misused s (length area) file ≡ false
    unfolding seal_rows
    right = none 1 (misused s (length area) file) here

    pub seal_state_sound : sound s ≡ true
    seal_state_sound = not-false (sound s) (or_right (area_short s (length area)) _ (or_right (leb file_count file) _ right))

    pub seal_area_long : s.m * s.w ≤ length area
    seal_area_long = ltb-false (length area) (s.m * s.w) (or_left (area_short s (length area)) _ (or_right (leb file_count file) _ right))

    pub seal_open : f.opened ≡ true
    unfolding seal_rows
    seal_open = not-false f.opened (none 5 (not f.opened) (later (later here)))

    pub seal_output : f.output ≡ true
    unfolding seal_rows
    seal_output = not-false f.output (none 6 (not f.output) (later (later (later here))))

    pub seal_part : has_part f ≡ true
    unfolding seal_rows
    seal_part = not-false (has_part f) (none 9 (not (has_part f)) (later (later (later (later here)))))

    -- the words that it sums
    pub seal_held_right : f.check ≡ true → held_right s.w f area ≡ true
    unfolding seal_rows
    seal_held_right k =
        let summed : seal_sums f ≡ true = and_both f.opened _ seal_open (and_both f.output _ seal_output (and_both (has_part f) _ seal_part k)) in
        not-false _ (sym (ap (λ (b : Bool). b && not (held_right s.w f area)) summed) ∙ none 2 (seal_sums f && not (held_right s.w f area)) (later here))

    S : Sound s.m s.w f
    S = (sound_facts s seal_state_sound).files file seal_open

    seal_is : ((seal_by s area file).state ≡ with_file s file (sealed_file f)) × (seal_by_area s area file ≡ sealed_area s.w f area)
    unfolding seal_by seal_on seal_by_area seal_on_area
    seal_is =
        let e : seal_refusal (misused s (length area) file) f s.w area ≡ 0 = accepted in
        (rw e, rw e)

    -- the file after it stands in its place
    pub seal_file : file_at (seal_by s area file).state file ≡ sealed_file f
    unfolding with_file
    seal_file = ap (λ (t : State). file_at t file) seal_is.0 ∙ get_or-set_same s.files file (sealed_file f) closed_file (place_of s file seal_open)

    kept_facts : SoundFacts (with_file s file (sealed_file f))
    kept_facts =
        let F = sound_facts s seal_state_sound in
        let T = sealed_sound s.m s.w f S seal_part in
        file_kept_lem s file (sealed_file f) F seal_open (holdings f (sealed_file f) (event_alike f histories.seal)) T
        (output_ready s.m s.w (request_of s.channels f) f (sealed_file f) S T seal_output (event_alike f histories.seal).output (λ h. sealed_full f seal_part) (F.ready file seal_open))

    -- nothing of the area changes but the check word, if there is one
    pub seal_writes : Only (part_start s.w f + part_length f) (extra f.sequence f.check) area (seal_by_area s area file)
    seal_writes =
        subst (Only (part_start s.w f + part_length f) (extra f.sequence f.check) area) (sym seal_is.1)
        (seal_only s.m s.w f area S seal_part seal_area_long seal_held_right)

    pub seal_own_buffer : Only (part_start s.w f) s.w area (seal_by_area s area file)
    seal_own_buffer = subst (Only (part_start s.w f) s.w area) (sym seal_is.1) (seal_buffer s.m s.w f area S seal_part seal_area_long seal_held_right)

    -- the block is its data words, then the one right check word for its number
    pub seal_seals : part_of (part_start s.w f) (part_length f + extra f.sequence f.check) (seal_by_area s area file) ≡ with_check f (part_of (part_start s.w f) (part_length f) area)
    seal_seals =
        ap (part_of (part_start s.w f) (part_length f + extra f.sequence f.check)) seal_is.1
        ∙ seal_block s.m s.w f area S seal_part seal_area_long seal_held_right

  -- a sound state stays sound, whatever the answer
  pub seal_kept : sound s ≡ true → sound (seal_by s area file).state ≡ true
  seal_kept h = go (eqb (seal_by s area file).refusal 0) refl
    where
      go : (t : Bool) → eqb (seal_by s area file).refusal 0 ≡ t → sound (seal_by s area file).state ≡ true
      go true e =
          let a = eqb-true (seal_by s area file).refusal 0 e in
          ap sound (seal_is a).0 ∙ facts_sound (with_file s file (sealed_file f)) (kept_facts a)
      go false e = ap sound (seal_refused (λ z. true_not_false (ap (λ (n : ℕ). eqb n 0) z) e)).0 ∙ h

  -- every other file, every channel and the pool are as they were
  pub seal_frame : ((j : ℕ) → j ≢ file → file_at (seal_by s area file).state j ≡ file_at s j) × ((seal_by s area file).state.channels ≡ s.channels)
      × ((seal_by s area file).state.m ≡ s.m) × ((seal_by s area file).state.w ≡ s.w) × ((seal_by s area file).state.frozen ≡ s.frozen)
      × ((seal_by s area file).state.routines ≡ s.routines)
  unfolding seal_by with_file
  seal_frame = go (eqb (seal_change s area file).refusal 0)
    where
      go : (t : Bool) → ((j : ℕ) → j ≢ file → file_at (cond t (with_file s file (seal_change s area file).file) s) j ≡ file_at s j)
          × ((cond t (with_file s file (seal_change s area file).file) s).channels ≡ s.channels)
          × ((cond t (with_file s file (seal_change s area file).file) s).m ≡ s.m) × ((cond t (with_file s file (seal_change s area file).file) s).w ≡ s.w)
          × ((cond t (with_file s file (seal_change s area file).file) s).frozen ≡ s.frozen)
          × ((cond t (with_file s file (seal_change s area file).file) s).routines ≡ s.routines)
      go true = (λ j ne. get_or-set_other s.files file j (seal_change s area file).file closed_file ne, refl, refl, refl, refl, refl)
      go false = (λ j ne. refl, refl, refl, refl, refl, refl)

  -- and so is every word of the area outside the part-filled buffer, whatever the answer
  pub seal_area_frame : Only (part_start s.w f) s.w area (seal_by_area s area file)
  seal_area_frame = go (eqb (seal_by s area file).refusal 0) refl
    where
      go : (t : Bool) → eqb (seal_by s area file).refusal 0 ≡ t → Only (part_start s.w f) s.w area (seal_by_area s area file)
      go true e = seal_own_buffer (eqb-true (seal_by s area file).refusal 0 e)
      go false e =
          subst (Only (part_start s.w f) s.w area) (sym (seal_refused (λ z. true_not_false (ap (λ (n : ℕ). eqb n 0) z) e)).1)
          (only_self (part_start s.w f) s.w area)

  -- so that every other buffer of the pool, free or held by any file, has the words that it had
  pub seal_other_buffers : (c : ℕ) → c ≢ (buffer_at f (part_side f)).number → part_of (c * s.w) s.w (seal_by_area s area file) ≡ part_of (c * s.w) s.w area
  unfolding part_start
  seal_other_buffers c ne = other_buffer s.w (buffer_at f (part_side f)).number c area (seal_by_area s area file) seal_area_frame ne
