-- Return and what runs: exactly when they are refused, that a refusal is the number alone, what an accepted one leads to, what they leave alone, and that a
-- sound state stays sound. Assumes nothing.
use mathlib.Core.Path.{◌≡◌, refl, sym, ap, ◌∙◌}
use mathlib.Core.Logic.{◌≢◌}
use mathlib.Core.Bool.{Bool, true, false, not}
use Prim.Native.Nat.{ℕ}
use native.Mathlib.Decide.{ℕ_discrete}
use Rattle.area.specs.Refusals.{lowest, Exactly, here, later}
use Rattle.area.proofs.Exactly.{exactly}
use Rattle.routines.specs.Ranks.{main_program}
use Rattle.routines.specs.Schedule.{none_runs}
use Rattle.routines.specs.Changes.{gave_back_in}
use Rattle.state.specs.declared.State.{State}
use Rattle.state.specs.Stores.{with_routines}
use Rattle.state.proofs.Answered.{not_so}
use Rattle.state_sound.specs.Soundness.{sound}
use Rattle.state_sound.proofs.Facts.{sound_facts, facts_sound}
use Rattle.state_sound.proofs.Wholes.{back_kept}
use Rattle.pack_routine.specs.declared.Ran.{Ran}
use Rattle.pack_routine.specs.Ons.{refused_change, return_rows, return_refusal, running_rows, running_refusal}
use Rattle.pack_routine.specs.Calls.{ran_in, return_by, running_by}
use Rattle.pack_routine.proofs.OnLaws.{back_change, run_change, return_off, return_done, running_off, running_done}

-- the pool, the freeze, the channels, the files and the free buffers are as they were
pub record OnlyRoutines (s t : State) : Type 0 where
  pub m : t.m ≡ s.m
  pub w : t.w ≡ s.w
  pub frozen : t.frozen ≡ s.frozen
  pub channels : t.channels ≡ s.channels
  pub files : t.files ≡ s.files
  pub free : t.free ≡ s.free

-- the number alone, and the state that was passed
abbrev pub ran_alone : ℕ → State → Ran
ran_alone n s = record { refusal = n; entered = false; program = main_program; state = s }

alone_in : (n : ℕ) (s : State) → ran_in s (refused_change n s.routines) ≡ ran_alone n s
unfolding with_routines
alone_in n s = refl

module _ (s : State) where
  -- ---- return

  abbrev wrong : Bool
  wrong = not (sound s)

  abbrev refusal : ℕ
  refusal = return_refusal wrong s.routines

  off : refusal ≢ 0 → return_by s ≡ ran_alone refusal s
  unfolding return_by
  off h = ap (ran_in s) (return_off wrong s.frozen s.routines refusal refl h) ∙ alone_in refusal s

  done : refusal ≡ 0 → return_by s ≡ ran_in s (back_change s.frozen s.routines)
  unfolding return_by
  done z = ap (ran_in s) (return_done wrong s.frozen s.routines refusal refl z)

  number : (return_by s).refusal ≡ refusal
  number = go (ℕ_discrete refusal 0)
    where
      go : Dec (refusal ≡ 0) → (return_by s).refusal ≡ refusal
      go (yes z) = ap (λ (r : Ran). r.refusal) (done z) ∙ sym z
      go (no h) = ap (λ (r : Ran). r.refusal) (off h)

  -- refused with a number exactly if its row applies and none with a lower number does
  pub return_exactly : ((return_by s).refusal ≡ lowest (return_rows (not (sound s)) s.routines)) × Exactly (return_rows (not (sound s)) s.routines)
  unfolding return_rows
  return_exactly = (number, exactly (return_rows (not (sound s)) s.routines) refl)

  pub return_refused : (return_by s).refusal ≢ 0 → return_by s ≡ ran_alone (return_by s).refusal s
  return_refused h = off (λ z. h (number ∙ z)) ∙ ap (λ (n : ℕ). ran_alone n s) (sym number)

  -- an accepted one gives the routine that runs back: "the highest waiting routine is entered if it is above the program last pushed, otherwise that program resumes"
  pub return_done_as : (return_by s).refusal ≡ 0 → return_by s ≡ ran_in s (back_change s.frozen s.routines)
  return_done_as h = done (sym number ∙ h)

  pub return_judged : (return_by s).refusal ≡ 0 → sound s ≡ true
  unfolding return_rows
  return_judged h = not_so (sound s) ((exactly (return_rows (not (sound s)) s.routines) refl).none (sym number ∙ h) 1 _ here)

  -- a routine runs
  pub return_some : (return_by s).refusal ≡ 0 → none_runs s.routines.programs ≡ false
  unfolding return_rows
  return_some h = (exactly (return_rows (not (sound s)) s.routines) refl).none (sym number ∙ h) 18 _ (later here)

  pub return_frame : OnlyRoutines s (return_by s).state
  unfolding return_by with_routines
  return_frame = record { m = refl; w = refl; frozen = refl; channels = refl; files = refl; free = refl }

  -- ---- what runs

  abbrev run_refusal : ℕ
  run_refusal = running_refusal wrong

  runs_off : run_refusal ≢ 0 → running_by s ≡ ran_alone run_refusal s
  unfolding running_by
  runs_off h = ap (ran_in s) (running_off wrong s.routines run_refusal refl h) ∙ alone_in run_refusal s

  runs_done : run_refusal ≡ 0 → running_by s ≡ ran_in s (run_change s.routines)
  unfolding running_by
  runs_done z = ap (ran_in s) (running_done wrong s.routines run_refusal refl z)

  runs_number : (running_by s).refusal ≡ run_refusal
  runs_number = go (ℕ_discrete run_refusal 0)
    where
      go : Dec (run_refusal ≡ 0) → (running_by s).refusal ≡ run_refusal
      go (yes z) = ap (λ (r : Ran). r.refusal) (runs_done z) ∙ sym z
      go (no h) = ap (λ (r : Ran). r.refusal) (runs_off h)

  pub running_exactly : ((running_by s).refusal ≡ lowest (running_rows (not (sound s)))) × Exactly (running_rows (not (sound s)))
  unfolding running_rows
  running_exactly = (runs_number, exactly (running_rows (not (sound s))) refl)

  pub running_refused : (running_by s).refusal ≢ 0 → running_by s ≡ ran_alone (running_by s).refusal s
  running_refused h = runs_off (λ z. h (runs_number ∙ z)) ∙ ap (λ (n : ℕ). ran_alone n s) (sym runs_number)

  -- an accepted one tells what runs, and changes nothing
  pub running_tells : (running_by s).refusal ≡ 0 → running_by s ≡ record { refusal = 0; entered = false; program = s.routines.programs.running; state = s }
  unfolding with_routines
  running_tells h = runs_done (sym runs_number ∙ h)

  -- "changes nothing", whatever it answers
  pub running_state : (running_by s).state ≡ s
  running_state = go (ℕ_discrete run_refusal 0)
    where
      go : Dec (run_refusal ≡ 0) → (running_by s).state ≡ s
      go (yes z) = ap (λ (r : Ran). r.state) (running_tells (runs_number ∙ z))
      go (no h) = ap (λ (r : Ran). r.state) (runs_off h)

  pub running_frame : OnlyRoutines s (running_by s).state
  running_frame = record {
    m = ap (λ (t : State). t.m) running_state;
    w = ap (λ (t : State). t.w) running_state;
    frozen = ap (λ (t : State). t.frozen) running_state;
    channels = ap (λ (t : State). t.channels) running_state;
    files = ap (λ (t : State). t.files) running_state;
    free = ap (λ (t : State). t.free) running_state;
  }

  -- ---- a sound state stays sound

  pub return_kept : sound s ≡ true → sound (return_by s).state ≡ true
  return_kept h = go (ℕ_discrete (return_by s).refusal 0)
    where
      go : Dec ((return_by s).refusal ≡ 0) → sound (return_by s).state ≡ true
      go (yes z) =
          ap (λ (r : Ran). sound r.state) (return_done_as z)
          ∙ facts_sound (with_routines s (gave_back_in s.routines s.frozen).routines) (back_kept s (sound_facts s h) (return_some z))
      go (no k) = ap (λ (r : Ran). sound r.state) (return_refused k) ∙ h

  pub running_kept : sound s ≡ true → sound (running_by s).state ≡ true
  running_kept h = ap sound running_state ∙ h
