-- Close: exactly when it is refused, that its buffers are free afterwards and may be the next ones taken, what it leaves alone, and that a
-- sound state stays sound. Assumes nothing.
use mathlib.Core.Path.{◌≡◌, refl, sym, ap, subst, ◌∙◌}
use mathlib.Core.Logic.{◌≢◌}
use mathlib.Core.Bool.{Bool, true, false, not, ◌&&◌, ◌||◌}
use mathlib.Core.List.{List}
use Prim.Native.Nat.{ℕ, ◌≤◌, ◌<◌}
use native.Mathlib.Decide.{ℕ_discrete, dec_lt}
use native.Mathlib.Omega.{arith}
use lib.Dec.{leb}
use lib.ListN.{length, get_or}
use lib.Seq.{get_or-set_same}
use Rattle.area.specs.Refusals.{Rows, lowest, Exactly, NoneApplies, here, later}
use Rattle.area.proofs.Walks.{by_test, true_not_false, or_right}
use Rattle.area.proofs.Bools.{Somewhere, any_at}
use Rattle.area.proofs.Exactly.{exactly}
use Rattle.channel.specs.Units.{turn_at, is_idle, has_request}
use Rattle.file.specs.declared.File.{File}
use Rattle.file.specs.Sizes.{closed_file}
use Rattle.pool.specs.Free.{file_count, held_by, is_held, is_free, Lowest}
use Rattle.state_sound.proofs.Shares.{apart_holds}
use Rattle.state.specs.declared.State.{State}
use Rattle.state.specs.Places.{file_at, channel_at}
use Rattle.state.specs.Stores.{with_file}
use Rattle.state_sound.specs.Requests.{requested, is_none}
use Rattle.state_sound.specs.Soundness.{sound}
use Rattle.state_sound.proofs.ChannelFacts.{none_idle}
use Rattle.state_sound.proofs.Facts.{SoundFacts, sound_facts, facts_sound}
use Rattle.state_sound.proofs.Kept.{close_kept as close_facts, place_of}
use Rattle.call_open.specs.Close.{close_rows, close_on}
use Rattle.pack_open.specs.Close.{close_off, close_change, close_by}
use Rattle.pack_open.specs.Open.{open_by}
use Rattle.state.proofs.Answered.{not_so, state_refused, state_accepted}
use Rattle.file.proofs.Changed.{file_accepted}
use Rattle.pack_open.proofs.Frames.{OnlyFile, store_frame}
use Rattle.pack_open.proofs.OpenTheorems.{low_of, open_lowest}

module _ (s : State) (file : ℕ) where
  -- the rows of this close
  abbrev pub rows : Rows
  rows = close_rows (close_off s file) (file_at s file) (channel_at s (file_at s file).channel)

  -- refused with a number exactly if its row applies and none with a lower number does
  pub close_exactly : ((close_by s file).refusal ≡ lowest rows) × Exactly rows
  unfolding close_by close_on close_rows
  close_exactly = (refl, exactly rows refl)

  pub close_refused : (close_by s file).refusal ≢ 0 → (close_by s file).state ≡ s
  unfolding close_by
  close_refused h = state_refused (close_change s file).refusal s (with_file s file (close_change s file).file) h

  -- every other file, and every channel, is as it was
  pub close_frame : OnlyFile s file (close_by s file).state
  unfolding close_by
  close_frame = store_frame (close_change s file).refusal s file (close_change s file).file

module _ (s : State) (file : ℕ) (yes₀ : (close_by s file).refusal ≡ 0) where
  none : NoneApplies (rows s file)
  none = (close_exactly s file).1.none (sym (close_exactly s file).0 ∙ yes₀)

  pub close_good : sound s ≡ true
  unfolding close_rows
  close_good = not_so (sound s) (or_right (leb file_count file) _ (none 1 _ here))

  was_open : (file_at s file).opened ≡ true
  unfolding close_rows
  was_open = not_so (file_at s file).opened (none 5 _ (later here))

  quiet : is_none (requested (turn_at (channel_at s (file_at s file).channel) (file_at s file).unit)) ≡ true
  unfolding close_rows has_request
  quiet =
      none_idle (turn_at (channel_at s (file_at s file).channel) (file_at s file).unit)
      ∙ not_so (is_idle (turn_at (channel_at s (file_at s file).channel) (file_at s file).unit)) (none 8 _ (later (later here)))

  pub close_state : (close_by s file).state ≡ with_file s file closed_file
  unfolding close_by close_on
  close_state =
      state_accepted (close_change s file).refusal s (with_file s file (close_change s file).file) yes₀
      ∙ ap (with_file s file) (file_accepted (close_change s file).refusal (file_at s file) closed_file yes₀)

  pub close_file : file_at (close_by s file).state file ≡ closed_file
  unfolding with_file
  close_file = ap (λ (t : State). file_at t file) close_state ∙ get_or-set_same s.files file closed_file closed_file (place_of s file was_open)

  pub close_sound : sound (close_by s file).state ≡ true
  close_sound = ap sound close_state ∙ facts_sound (with_file s file closed_file) (close_facts s file (sound_facts s close_good) was_open quiet)

  -- "Closing gives all back": a buffer that the file held is free afterwards
  pub close_frees : (b : ℕ) → held_by b (file_at s file) ≡ true → is_free (close_by s file).state.files b ≡ true
  close_frees b h =
      by_test (λ t. is_held (close_by s file).state.files b ≡ t → not t ≡ true) (is_held (close_by s file).state.files b)
      (λ t q. held (any_at (held_by b) closed_file (close_by s file).state.files q)) (λ t q. refl) refl
    where
      nobody : (j : ℕ) → Dec (j ≡ file) → held_by b (file_at (close_by s file).state j) ≡ false
      nobody j (yes e) = ap (λ (k : ℕ). held_by b (file_at (close_by s file).state k)) e ∙ ap (held_by b) close_file
      nobody j (no ne) =
          ap (held_by b) ((close_frame s file).files j ne)
          ∙ apart_holds b (file_at s file) (file_at s j) ((sound_facts s close_good).apart file j (λ e. ne (sym e))) h

      held : Somewhere (held_by b) (close_by s file).state.files closed_file → not true ≡ true
      held p = true_not_false p.passes (nobody p.place (ℕ_discrete p.place file))

  -- a buffer given back is the next one taken, if none below it is free
  pub close_next : (b next channel unit flags size rlen : ℕ) → held_by b (file_at s file) ≡ true
      → ((j : ℕ) → j < b → is_free (close_by s file).state.files j ≡ false)
      → (open_by (close_by s file).state next channel unit flags size rlen).refusal ≡ 0 → low_of (close_by s file).state ≡ b
  close_next b next channel unit flags size rlen h lower yes₁ = compare (dec_lt (low_of t) b) (dec_lt b (low_of t))
    where
      t : State
      t = (close_by s file).state

      taken : Lowest t.m t.files 0 (low_of t)
      taken = open_lowest t next channel unit flags size rlen yes₁

      compare : Dec (low_of t < b) → Dec (b < low_of t) → low_of t ≡ b
      compare (yes l) k = true_not_false taken.free (lower (low_of t) l)
      compare (no l) (yes k) = true_not_false (close_frees b h) (taken.lower b (omega arith) k)
      compare (no l) (no k) = omega (arith, l, k)

-- a sound state stays sound
pub close_kept : (s : State) (file : ℕ) → sound s ≡ true → sound (close_by s file).state ≡ true
close_kept s file h = go (ℕ_discrete (close_by s file).refusal 0)
  where
    go : Dec ((close_by s file).refusal ≡ 0) → sound (close_by s file).state ≡ true
    go (yes e) = close_sound s file e
    go (no ne) = ap sound (close_refused s file ne) ∙ h
