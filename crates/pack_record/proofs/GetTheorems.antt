-- Get: exactly when it is refused, that a refusal changes nothing, that a sound state stays sound, that nothing else is touched, and that what
-- it answers is what get finds in the file. Assumes nothing.
use mathlib.Core.Path.{◌≡◌, refl, sym, ap, subst, ◌∙◌}
use mathlib.Core.Logic.{◌≢◌}
use mathlib.Core.Bool.{Bool, true, false, not, cond, ◌&&◌}
use mathlib.Core.List.{List, []}
use Prim.Native.Nat.{ℕ, ◌+◌, ◌*◌, ◌≤◌}
use native.Mathlib.Nat.{le_trans}
use borrow.Author.Tests.{eqb-true, ltb-false, ne_eqb, not-false}
use lib.Dec.{ltb, eqb, leb}
use lib.ListN.{length}
use lib.Seq.{get_or-set_same, get_or-set_other}
use Rattle.pool.specs.Free.{file_count}
use Rattle.area.specs.Lists.{all_of}
use Rattle.area.specs.Parts.{is_word}
use Rattle.area.specs.Refusals.{Rows, lowest, Exactly, NoneApplies, here, later}
use Rattle.area.proofs.Walks.{or_left, or_right, true_not_false}
use Rattle.area.proofs.Exactly.{exactly}
use Rattle.file.specs.declared.File.{File}
use Rattle.file.specs.Sizes.{closed_file}
use Rattle.file_input.specs.declared.Got.{Got}
use Rattle.file_input.specs.Gets.{get_from, got_start, got_words}
use Rattle.file_input.specs.Histories.{shown, get}
use Rattle.state_sound.proofs.Changes.{get_sound}
use Rattle.state_sound.proofs.Events.{event_alike}
use Rattle.state_sound.proofs.Inside.{get_inside}
use Rattle.state.specs.declared.State.{State}
use Rattle.state.specs.Places.{file_at, area_short}
use Rattle.state.specs.Stores.{with_file}
use Rattle.pack_record.specs.Misused.{misused}
use Rattle.state_sound.specs.Soundness.{sound, request_of}
use Rattle.state_sound.proofs.Facts.{SoundFacts, sound_facts, facts_sound}
use Rattle.state_sound.proofs.Kept.{file_kept_lem, holdings, place_of}
use Rattle.call_record.specs.Get.{gives_out, get_rows, get_refusal, no_answer, get_on}
use Rattle.pack_record.specs.Gets.{get_change, get_by, get_words}
use Rattle.pack_record.proofs.InputReady.{get_taken, input_ready}

module _ (s : State) (area : List ℕ) (file : ℕ) where
  abbrev f : File
  f = file_at s file

  abbrev rows : Rows
  rows = get_rows (misused s (length area) file) f (get_from s.w f).got area

  -- "Given exactly when", and "If several apply, the lowest number is given."
  pub get_exactly : ((get_by s area file).refusal ≡ lowest rows) × Exactly rows
  unfolding get_by get_on get_refusal get_rows
  get_exactly = (refl, exactly rows refl)

  -- "A refusal returns the number alone and changes nothing."
  pub get_refused : ((get_by s area file).refusal ≡ 0 → ⊥) → ((get_by s area file).state ≡ s) × ((get_by s area file).got ≡ no_answer) × (get_words s area file ≡ [])
  unfolding get_by get_on get_words
  get_refused h =
      let e : eqb (get_refusal (misused s (length area) file) f (get_from s.w f).got area) 0 ≡ false = ne_eqb _ 0 h in
      (rw e, rw e, rw e)

  module _ (accepted : (get_by s area file).refusal ≡ 0) where
    none : NoneApplies rows
    none = get_exactly.1.none (sym get_exactly.0 ∙ accepted)

    right : misused s (length area) file ≡ false
    unfolding get_rows
    right = none 1 (misused s (length area) file) here

    pub get_open : f.opened ≡ true
    unfolding get_rows
    get_open = not-false f.opened (none 5 (not f.opened) (later (later here)))

    pub get_input : f.output ≡ false
    unfolding get_rows
    get_input = none 6 f.output (later (later (later here)))

    -- no word that is handed out is 2^36 or more
    pub get_words_right : all_of is_word (shown area (get_from s.w f).got) ≡ true
    unfolding get_rows
    get_words_right =
        not-false _ (sym (ap (λ (b : Bool). (b && not f.output) && not (all_of is_word (shown area (get_from s.w f).got))) get_open
        ∙ ap (λ (b : Bool). not b && not (all_of is_word (shown area (get_from s.w f).got))) get_input)
        ∙ none 2 (gives_out f && not (all_of is_word (shown area (get_from s.w f).got))) (later here))

    pub get_state_sound : sound s ≡ true
    get_state_sound = not-false (sound s) (or_right (area_short s (length area)) _ (or_right (leb file_count file) _ right))

    pub get_area_long : s.m * s.w ≤ length area
    get_area_long = ltb-false (length area) (s.m * s.w) (or_left (area_short s (length area)) _ (or_right (leb file_count file) _ right))

    -- the answer is what get finds in the file, and the file is the one after it: the laws of gets in a row carry over
    pub get_finds : ((get_by s area file).got ≡ (get_from s.w f).got) × ((get_by s area file).state ≡ with_file s file (get_from s.w f).file)
        × (get_words s area file ≡ shown area (get_from s.w f).got)
    unfolding get_by get_on get_words
    get_finds =
        let e : get_refusal (misused s (length area) file) f (get_from s.w f).got area ≡ 0 = accepted in
        (rw e, rw e, rw e)

    -- the words that it shows lie in the area
    pub get_within : got_start (get_by s area file).got + got_words (get_by s area file).got ≤ length area
    get_within =
        subst (λ (g : Got). got_start g + got_words g ≤ length area) (sym get_finds.0)
        (le_trans (get_inside s.m s.w f ((sound_facts s get_state_sound).files file get_open)) get_area_long)

    kept_facts : SoundFacts (with_file s file (get_from s.w f).file)
    unfolding get_from
    kept_facts =
        let F = sound_facts s get_state_sound in
        let g = (get_from s.w f).file in
        file_kept_lem s file g F get_open (holdings f g (event_alike f get))
        (get_sound s.m s.w f (F.files file get_open) get_input)
        (input_ready (request_of s.channels f) f g get_input (event_alike f get).output (get_taken s.w f) (F.ready file get_open))

    -- the file after it stands in its place
    pub get_file : file_at (get_by s area file).state file ≡ (get_from s.w f).file
    unfolding with_file
    get_file = ap (λ (t : State). file_at t file) get_finds.1 ∙ get_or-set_same s.files file (get_from s.w f).file closed_file (place_of s file get_open)

  -- a sound state stays sound, whatever the answer
  pub get_kept : sound s ≡ true → sound (get_by s area file).state ≡ true
  get_kept h = go (eqb (get_by s area file).refusal 0) refl
    where
      go : (t : Bool) → eqb (get_by s area file).refusal 0 ≡ t → sound (get_by s area file).state ≡ true
      go true e =
          let a = eqb-true (get_by s area file).refusal 0 e in
          ap sound (get_finds a).1 ∙ facts_sound (with_file s file (get_from s.w f).file) (kept_facts a)
      go false e = ap sound (get_refused (λ z. true_not_false (ap (λ (n : ℕ). eqb n 0) z) e)).0 ∙ h

  -- every other file, every channel and the pool are as they were; no word of the area can change, since it is lent to be read alone
  pub get_frame : ((j : ℕ) → j ≢ file → file_at (get_by s area file).state j ≡ file_at s j) × ((get_by s area file).state.channels ≡ s.channels)
      × ((get_by s area file).state.m ≡ s.m) × ((get_by s area file).state.w ≡ s.w) × ((get_by s area file).state.frozen ≡ s.frozen)
      × ((get_by s area file).state.routines ≡ s.routines)
  unfolding get_by with_file
  get_frame = go (eqb (get_change s area file).refusal 0)
    where
      go : (t : Bool) → ((j : ℕ) → j ≢ file → file_at (cond t (with_file s file (get_change s area file).file) s) j ≡ file_at s j)
          × ((cond t (with_file s file (get_change s area file).file) s).channels ≡ s.channels)
          × ((cond t (with_file s file (get_change s area file).file) s).m ≡ s.m) × ((cond t (with_file s file (get_change s area file).file) s).w ≡ s.w)
          × ((cond t (with_file s file (get_change s area file).file) s).frozen ≡ s.frozen)
          × ((cond t (with_file s file (get_change s area file).file) s).routines ≡ s.routines)
      go true = (λ j ne. get_or-set_other s.files file j (get_change s area file).file closed_file ne, refl, refl, refl, refl, refl)
      go false = (λ j ne. refl, refl, refl, refl, refl, refl)
