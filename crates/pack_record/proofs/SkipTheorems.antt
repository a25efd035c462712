-- Skip: exactly when it is refused, that a refusal changes nothing, that a sound state stays sound, that nothing else is touched, and that it
-- drops the oldest full block. Assumes nothing.
use mathlib.Core.Path.{◌≡◌, refl, sym, ap, ◌∙◌}
use mathlib.Core.Logic.{◌≢◌}
use mathlib.Core.Bool.{Bool, true, false, not, cond}
use Prim.Native.Nat.{ℕ}
use borrow.Author.Tests.{eqb-true, ne_eqb, not-false}
use lib.Dec.{ltb, eqb, leb}
use lib.ListN.{drop}
use lib.Seq.{get_or-set_same, get_or-set_other}
use Rattle.pool.specs.Free.{file_count}
use Rattle.area.specs.Refusals.{Rows, lowest, Exactly, NoneApplies, here, later}
use Rattle.area.proofs.Walks.{or_right, true_not_false}
use Rattle.area.proofs.Exactly.{exactly}
use Rattle.file.specs.declared.File.{File}
use Rattle.file.specs.Sizes.{closed_file}
use Rattle.file.specs.Fills.{without_oldest}
use Rattle.file_input.specs.Delivers.{has_full}
use Rattle.file_input.specs.Ages.{line}
use Rattle.file_input.proofs.Ages.{oldest_leaves}
use Rattle.file_input.specs.Histories.{skip}
use Rattle.state_sound.proofs.Changes.{dropped_sound}
use Rattle.state_sound.proofs.Events.{event_alike}
use Rattle.state.specs.declared.State.{State}
use Rattle.state.specs.Places.{file_at}
use Rattle.state.specs.Stores.{with_file}
use Rattle.state_sound.specs.Soundness.{sound, request_of}
use Rattle.state_sound.proofs.Facts.{SoundFacts, sound_facts, facts_sound}
use Rattle.state_sound.proofs.Kept.{file_kept_lem, holdings, place_of}
use Rattle.call_record.specs.Skip.{skip_rows, skip_refusal, skip_on}
use Rattle.pack_record.specs.Skips.{skip_misused, skip_change, skip_by}
use Rattle.pack_record.proofs.InputReady.{dropped_taken, input_ready}

module _ (s : State) (file : ℕ) where
  abbrev f : File
  f = file_at s file

  abbrev rows : Rows
  rows = skip_rows (skip_misused s file) f

  pub skip_exactly : ((skip_by s file).refusal ≡ lowest rows) × Exactly rows
  unfolding skip_by skip_on skip_refusal skip_rows
  skip_exactly = (refl, exactly rows refl)

  pub skip_refused : ((skip_by s file).refusal ≡ 0 → ⊥) → (skip_by s file).state ≡ s
  unfolding skip_by skip_on
  skip_refused h =
      let e : eqb (skip_refusal (skip_misused s file) f) 0 ≡ false = ne_eqb _ 0 h in
      rw e

  module _ (accepted : (skip_by s file).refusal ≡ 0) where
    none : NoneApplies rows
    none = skip_exactly.1.none (sym skip_exactly.0 ∙ accepted)

    pub skip_open : f.opened ≡ true
    unfolding skip_rows
    skip_open = not-false f.opened (none 5 (not f.opened) (later here))

    pub skip_input : f.output ≡ false
    unfolding skip_rows
    skip_input = none 6 f.output (later (later here))

    pub skip_full : has_full f ≡ true
    unfolding skip_rows
    skip_full = not-false (has_full f) (none 9 (not (has_full f)) (later (later (later here))))

    pub skip_state_sound : sound s ≡ true
    unfolding skip_rows
    skip_state_sound = not-false (sound s) (or_right (leb file_count file) _ (none 1 (skip_misused s file) here))

    skip_is : (skip_by s file).state ≡ with_file s file (without_oldest f)
    unfolding skip_by skip_on
    skip_is =
        let e : skip_refusal (skip_misused s file) f ≡ 0 = accepted in
        rw e

    -- "Skip drops the oldest full block, used up or not.": the others keep their order
    pub skip_drops : (file_at (skip_by s file).state file ≡ without_oldest f) × (line (file_at (skip_by s file).state file) ≡ drop 1 (line f))
    unfolding with_file
    skip_drops =
        let e : file_at (skip_by s file).state file ≡ without_oldest f =
        ap (λ (t : State). file_at t file) skip_is ∙ get_or-set_same s.files file (without_oldest f) closed_file (place_of s file skip_open) in
        (e, ap line e ∙ oldest_leaves f)

    kept_facts : SoundFacts (with_file s file (without_oldest f))
    kept_facts =
        let F = sound_facts s skip_state_sound in
        file_kept_lem s file (without_oldest f) F skip_open (holdings f (without_oldest f) (event_alike f skip))
        (dropped_sound s.m s.w f (F.files file skip_open))
        (input_ready (request_of s.channels f) f (without_oldest f) skip_input (event_alike f skip).output (dropped_taken f) (F.ready file skip_open))

  pub skip_kept : sound s ≡ true → sound (skip_by s file).state ≡ true
  skip_kept h = go (eqb (skip_by s file).refusal 0) refl
    where
      go : (t : Bool) → eqb (skip_by s file).refusal 0 ≡ t → sound (skip_by s file).state ≡ true
      go true e =
          let a = eqb-true (skip_by s file).refusal 0 e in
          ap sound (skip_is a) ∙ facts_sound (with_file s file (without_oldest f)) (kept_facts a)
      go false e = ap sound (skip_refused (λ z. true_not_false (ap (λ (n : ℕ). eqb n 0) z) e)) ∙ h

  -- every other file, every channel and the pool are as they were; skip takes no area
  pub skip_frame : ((j : ℕ) → j ≢ file → file_at (skip_by s file).state j ≡ file_at s j) × ((skip_by s file).state.channels ≡ s.channels)
      × ((skip_by s file).state.m ≡ s.m) × ((skip_by s file).state.w ≡ s.w) × ((skip_by s file).state.frozen ≡ s.frozen)
      × ((skip_by s file).state.routines ≡ s.routines)
  unfolding skip_by with_file
  skip_frame = go (eqb (skip_change s file).refusal 0)
    where
      go : (t : Bool) → ((j : ℕ) → j ≢ file → file_at (cond t (with_file s file (skip_change s file).file) s) j ≡ file_at s j)
          × ((cond t (with_file s file (skip_change s file).file) s).channels ≡ s.channels)
          × ((cond t (with_file s file (skip_change s file).file) s).m ≡ s.m) × ((cond t (with_file s file (skip_change s file).file) s).w ≡ s.w)
          × ((cond t (with_file s file (skip_change s file).file) s).frozen ≡ s.frozen)
          × ((cond t (with_file s file (skip_change s file).file) s).routines ≡ s.routines)
      go true = (λ j ne. get_or-set_other s.files file j (skip_change s file).file closed_file ne, refl, refl, refl, refl, refl)
      go false = (λ j ne. refl, refl, refl, refl, refl, refl)
