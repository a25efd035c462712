-- Freeze and thaw: exactly when they are refused, what they leave alone, that either twice is as once, and that a sound state stays sound.
-- Assumes nothing.
use mathlib.Core.Path.{◌≡◌, refl, ap, ap₂, ◌∙◌}
use mathlib.Core.Logic.{◌≢◌}
use mathlib.Core.Bool.{Bool, true, false, cond, ◌||◌}
use mathlib.Core.List.{List}
use Prim.Native.Nat.{ℕ}
use native.Mathlib.Decide.{ℕ_discrete}
use native.Mathlib.Omega.{arith}
use lib.Dec.{eqb}
use Rattle.area.specs.Refusals.{lowest, Exactly, here}
use Rattle.area.proofs.Walks.{by_test, true_not_false}
use Rattle.area.proofs.Exactly.{exactly}
use Rattle.channel.specs.declared.Turn.{Turn}
use Rattle.channel.specs.declared.Turn.TheVariants.{Idle, Waiting, Displaced, Working}
use Rattle.channel.specs.declared.Channel.{Channel}
use Rattle.channel.specs.Units.{is_idle, turn_at, is_working}
use Rattle.channel_turns.specs.Scans.{working_in}
use Rattle.channel_turns.specs.Starts.{start_of, thaw_of}
use Rattle.channel_theorems.proofs.Theorems.Turning.{held, at_set}
use Rattle.channel_theorems.proofs.Theorems.Starts.{Started, is_frozen, is_busy, is_quiet, begins, started, works_found}
use Rattle.channel_turns.proofs.Laws.Starts.{start_stays}
use Rattle.routines.specs.declared.Routines.{Routines}
use Rattle.state.specs.declared.State.{State}
use Rattle.state.specs.Places.{channel_at}
use Rattle.state_sound.specs.Soundness.{sound}
use Rattle.state_sound.proofs.Facts.{sound_facts, facts_sound}
use Rattle.state_sound.proofs.Wholes.{freeze_kept as freeze_facts, thaw_kept as thaw_facts}
use Rattle.pack_start.specs.Freeze.{state_rows, state_refusal, frozen_state, thawed_state, freeze_by, thaw_by}
use Rattle.state.proofs.Answered.{not_so, state_refused, state_accepted}
use Rattle.area.proofs.Maps.{map_twice}
use Rattle.routines.proofs.Laws.Facts.{look_twice}
use Rattle.std.specs.Option.{is_some}

module _ (s : State) where
  -- refused with a number exactly if its row applies and none with a lower number does
  pub freeze_exactly : ((freeze_by s).refusal ≡ lowest (state_rows s)) × Exactly (state_rows s)
  unfolding freeze_by state_rows
  freeze_exactly = (refl, exactly (state_rows s) refl)

  pub thaw_exactly : ((thaw_by s).refusal ≡ lowest (state_rows s)) × Exactly (state_rows s)
  unfolding thaw_by state_rows
  thaw_exactly = (refl, exactly (state_rows s) refl)

  pub freeze_refused : (freeze_by s).refusal ≢ 0 → (freeze_by s).state ≡ s
  unfolding freeze_by
  freeze_refused h = state_refused (state_refusal s) s (frozen_state s) h

  pub thaw_refused : (thaw_by s).refusal ≢ 0 → (thaw_by s).state ≡ s
  unfolding thaw_by
  thaw_refused h = state_refused (state_refusal s) s (thawed_state s) h

  good : state_refusal s ≡ 0 → sound s ≡ true
  unfolding state_rows
  good h = not_so (sound s) ((exactly (state_rows s) refl).none h 1 _ here)

  pub freeze_state : (freeze_by s).refusal ≡ 0 → (freeze_by s).state ≡ frozen_state s
  unfolding freeze_by
  freeze_state h = state_accepted (state_refusal s) s (frozen_state s) h

  pub thaw_state : (thaw_by s).refusal ≡ 0 → (thaw_by s).state ≡ thawed_state s
  unfolding thaw_by
  thaw_state h = state_accepted (state_refusal s) s (thawed_state s) h

  pub freeze_sound : (freeze_by s).refusal ≡ 0 → sound (freeze_by s).state ≡ true
  unfolding freeze_by frozen_state
  freeze_sound h = ap sound (freeze_state h) ∙ facts_sound (frozen_state s) (freeze_facts s (sound_facts s (good h)))

  pub thaw_sound : (thaw_by s).refusal ≡ 0 → sound (thaw_by s).state ≡ true
  unfolding thaw_by thawed_state
  thaw_sound h = ap sound (thaw_state h) ∙ facts_sound (thawed_state s) (thaw_facts s (sound_facts s (good h)))

-- a sound state stays sound
pub freeze_kept : (s : State) → sound s ≡ true → sound (freeze_by s).state ≡ true
freeze_kept s h = go (ℕ_discrete (freeze_by s).refusal 0)
  where
    go : Dec ((freeze_by s).refusal ≡ 0) → sound (freeze_by s).state ≡ true
    go (yes e) = freeze_sound s e
    go (no ne) = ap sound (freeze_refused s ne) ∙ h

pub thaw_kept : (s : State) → sound s ≡ true → sound (thaw_by s).state ≡ true
thaw_kept s h = go (ℕ_discrete (thaw_by s).refusal 0)
  where
    go : Dec ((thaw_by s).refusal ≡ 0) → sound (thaw_by s).state ≡ true
    go (yes e) = thaw_sound s e
    go (no ne) = ap sound (thaw_refused s ne) ∙ h

-- ---- what they leave alone

-- the pool and the files are as they were; freeze leaves the channels and the routines too
pub record OnlyTurns (s t : State) : Type 0 where
  pub m : t.m ≡ s.m
  pub w : t.w ≡ s.w
  pub files : t.files ≡ s.files

pub freeze_frame : (s : State) → OnlyTurns s (freeze_by s).state × ((freeze_by s).state.channels ≡ s.channels) × ((freeze_by s).state.routines ≡ s.routines)
unfolding freeze_by frozen_state
freeze_frame s = go (eqb (state_refusal s) 0)
  where
    go : (b : Bool) → OnlyTurns s (cond b (frozen_state s) s) × ((cond b (frozen_state s) s).channels ≡ s.channels) × ((cond b (frozen_state s) s).routines ≡ s.routines)
    go true = (record { m = refl; w = refl; files = refl }, refl, refl)
    go false = (record { m = refl; w = refl; files = refl }, refl, refl)

pub thaw_frame : (s : State) → OnlyTurns s (thaw_by s).state
unfolding thaw_by thawed_state
thaw_frame s = go (eqb (state_refusal s) 0)
  where
    go : (b : Bool) → OnlyTurns s (cond b (thawed_state s) s)
    go true = record { m = refl; w = refl; files = refl }
    go false = record { m = refl; w = refl; files = refl }

-- ---- "Either twice is as once."

-- a channel that has started what is due has nothing more to start
pub start_twice : (c : Channel) (frozen : Bool) → start_of (start_of c frozen) frozen ≡ start_of c frozen
start_twice c frozen = go (start_of c frozen) (started c frozen) refl
  where
    or_found : (b : Bool) {w : Bool} → w ≡ true → (b || w) ≡ true
    or_found true h = refl
    or_found false h = h

    go : (d : Channel) → Started c frozen d → start_of c frozen ≡ d → start_of d frozen ≡ d
    go d (is_frozen e) q = q
    go d (is_busy x e) q = q
    go d (is_quiet f) q = q
    go d (begins x t b) q =
        let works = at_set c x t b.within (λ y k. y ≡ x → is_working k.turn ≡ true) (λ e. b.begins) (λ y ne e. absurd (ne e)) x refl in
        start_stays d frozen (is_some (working_in d)) refl (or_found frozen (works_found d x works))

pub freeze_freeze : (s : State) → frozen_state (frozen_state s) ≡ frozen_state s
unfolding frozen_state
freeze_freeze s = refl

thaw_twice : (c : Channel) → thaw_of (thaw_of c) ≡ thaw_of c
unfolding thaw_of
thaw_twice c = start_twice c false

pub thaw_thaw : (s : State) → thawed_state (thawed_state s) ≡ thawed_state s
unfolding thawed_state
thaw_thaw s =
    ap₂ (λ (cs : List Channel) (r : Routines). record { m = s.m; w = s.w; frozen = false; channels = cs; files = s.files; free = s.free; routines = r })
    (map_twice thaw_of thaw_twice s.channels) (look_twice s.routines false)

-- ---- "After every accepted call, a channel that is idle and not frozen starts an activity .. if any request waits."

busy_held : (t u : Turn) → held t ≡ held u → is_working t ≡ true → is_idle u ≡ false
busy_held Idle u e w = true_not_false w refl
busy_held (Waiting q) u e w = true_not_false w refl
busy_held (Displaced q) u e w = true_not_false w refl
busy_held (Working q) Idle e w = absurd (let z : ◌≡◌ {A = ℕ} 0 1 = cc in omega arith)
busy_held (Working q) (Waiting r) e w = refl
busy_held (Working q) (Displaced r) e w = refl
busy_held (Working q) (Working r) e w = refl

-- In a sound state nothing is due, so an open, a close and a freeze, which leave the channels alone, have nothing to start.
pub nothing_due_lem : (s : State) → sound s ≡ true → (c : ℕ) → start_of (channel_at s c) s.frozen ≡ channel_at s c
nothing_due_lem s h c = go (start_of x s.frozen) (started x s.frozen) refl
  where
    x : Channel
    x = channel_at s c

    go : (d : Channel) → Started x s.frozen d → start_of x s.frozen ≡ d → start_of x s.frozen ≡ x
    go d (is_frozen e) q = q
    go d (is_busy u e) q = q
    go d (is_quiet f) q = q
    go d (begins u t b) q =
        start_stays x s.frozen (is_some (working_in x)) refl
        (by_test (λ f. s.frozen ≡ f → (f || is_some (working_in x)) ≡ true) s.frozen (λ k e. refl)
        (λ k e. ((sound_facts s h).channels c).alive e u (busy_held t (turn_at x u) b.same b.begins)) refl)
