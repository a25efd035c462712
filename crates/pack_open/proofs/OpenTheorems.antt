-- Open: exactly when it is refused, which buffers it takes, what it leaves alone, and that a sound state stays sound. Assumes nothing.
-- A state has sixteen files: `whole` says so of the list that stands for them.
use mathlib.Core.Path.{◌≡◌, refl, sym, ap, subst, ◌∙◌}
use mathlib.Core.Logic.{◌≢◌}
use mathlib.Core.Bool.{Bool, true, false, not, cond, ◌&&◌, ◌||◌}
use mathlib.Core.List.{List}
use Prim.Native.Nat.{ℕ, ◌+◌, ◌≤◌, ◌<◌}
use native.Mathlib.Decide.{ℕ_discrete}
use native.Mathlib.Omega.{arith}
use lib.Dec.{leb, ltb, eqb}
use lib.ListN.{length, get_or, set}
use lib.Seq.{get_or-set_same}
use borrow.Author.Tests.{leb-false, ltb-false, eq-eqb, not-true}
use Rattle.area.specs.Refusals.{Rows, lowest, Exactly, NoneApplies, here, later}
use Rattle.area.proofs.Walks.{by_test, true_not_false, and_both, or_left, or_right, or_first, or_second, none_at}
use Rattle.area.proofs.Marks.{cond_true}
use Rattle.area.proofs.Exactly.{exactly}
use Rattle.channel.specs.Units.{unit_count, declared_at}
use Rattle.file.specs.declared.File.{File}
use Rattle.file.specs.declared.Wish.{Wish}
use Rattle.file.specs.Sizes.{sizes_fit, buffers_for, opened_file, closed_file}
use Rattle.pool.specs.Free.{file_count, held_by, is_held, is_free, free_count, lowest_number, free_of, Lowest}
use Rattle.pool.specs.Serving.{serves, is_bound}
use Rattle.state_sound.proofs.Changes.{opened_sound}
use Rattle.state_sound.proofs.Replaced.{unbound}
use Rattle.state.specs.declared.State.{State}
use Rattle.state.specs.Places.{channel_count, file_at, channel_at}
use Rattle.state.specs.Stores.{with_file}
use Rattle.state_sound.specs.Soundness.{sound}
use Rattle.state_sound.proofs.Everywhere.{by_place}
use Rattle.state_sound.proofs.Facts.{sound_facts, facts_sound}
use Rattle.state_sound.proofs.Kept.{open_kept as open-facts}
use Rattle.call_open.specs.Open.{is_set, wish_of, open_rows, open_on, all_flags}
use Rattle.pack_open.specs.Open.{open_off, open_change, open_by}
use Rattle.state.proofs.Answered.{not_so, state_refused, state_accepted}
use Rattle.file.proofs.Changed.{file_accepted}
use Rattle.pack_open.proofs.Frames.{OnlyFile, store_frame}
use Rattle.pool.proofs.Lowest.{first_free_lem, second_free}

module _ (s : State) (file channel unit flags size rlen : ℕ) where
  -- the rows of this open
  abbrev pub rows : Rows
  rows =
      open_rows (open_off s file channel unit flags) (is_bound s.files channel unit) (file_at s file) (channel_at s channel)
      (free_of s.m s.files) s.w (wish_of channel unit flags size rlen)

  -- refused with a number exactly if its row applies and none with a lower number does
  pub open_exactly : ((open_by s file channel unit flags size rlen).refusal ≡ lowest rows) × Exactly rows
  unfolding open_by open_on open_rows
  open_exactly = (refl, exactly rows refl)

  pub open_refused : (open_by s file channel unit flags size rlen).refusal ≢ 0 → (open_by s file channel unit flags size rlen).state ≡ s
  unfolding open_by
  open_refused h = state_refused (open_change s file channel unit flags size rlen).refusal s (with_file s file (open_change s file channel unit flags size rlen).file) h

  -- every other file, and every channel, is as it was
  pub open_frame : OnlyFile s file (open_by s file channel unit flags size rlen).state
  unfolding open_by
  open_frame = store_frame (open_change s file channel unit flags size rlen).refusal s file (open_change s file channel unit flags size rlen).file

-- what an accepted open has found
pub record Accepted (s : State) (file channel unit flags size rlen : ℕ) : Type 0 where
  pub good : sound s ≡ true
  pub number : file < file_count
  pub known : declared_at (channel_at s channel) unit ≡ true
  pub shut : (file_at s file).opened ≡ false
  pub unbound : is_bound s.files channel unit ≡ false
  pub free : buffers_for (is_set flags 2) ≤ free_count s.m s.files
  pub sizes : sizes_fit s.w (is_set flags 4) (is_set flags 8) size rlen ≡ true

-- the lowest two free buffers of a state
abbrev pub low_of : State → ℕ
low_of s = lowest_number s.m s.files 0

abbrev pub high_of : State → ℕ
high_of s = lowest_number s.m s.files (low_of s + 1)

module _ (s : State) (file channel unit flags size rlen : ℕ) (yes₀ : (open_by s file channel unit flags size rlen).refusal ≡ 0) where
  none : NoneApplies (rows s file channel unit flags size rlen)
  none = (open_exactly s file channel unit flags size rlen).1.none (sym (open_exactly s file channel unit flags size rlen).0 ∙ yes₀)

  pub open_accepted : Accepted s file channel unit flags size rlen
  unfolding open_rows free_of
  open_accepted =
      let off = none 1 _ here in
      let off₁ = or_right (leb file_count file) _ off in
      let off₂ = or_right (leb channel_count channel) _ off₁ in
      let off₃ = or_right (leb unit_count unit) _ off₂ in
      let bound = none 4 _ (later (later here)) in
      record {
        good = not_so (sound s) (or_right (ltb all_flags flags) _ off₃);
        number = leb-false file_count file (or_left (leb file_count file) _ off);
        known = not_so (declared_at (channel_at s channel) unit) (none 3 _ (later here));
        shut = or_left (file_at s file).opened _ bound;
        unbound = or_right (file_at s file).opened _ bound;
        free = ltb-false (free_count s.m s.files) (buffers_for (is_set flags 2)) (none 7 _ (later (later (later here))));
        sizes = not_so (sizes_fit s.w (is_set flags 4) (is_set flags 8) size rlen) (none 13 _ (later (later (later (later here)))));
      }

  -- "The lowest-numbered free buffers are taken": the lowest of all, and for a double file the lowest above it
  pub open_lowest : Lowest s.m s.files 0 (low_of s)
  open_lowest = first_free_lem s.m s.files (one (is_set flags 2) open_accepted.free)
    where
      one : (d : Bool) → buffers_for d ≤ free_count s.m s.files → 1 ≤ free_count s.m s.files
      one true h = omega arith
      one false h = h

  pub open_next : is_set flags 2 ≡ true → Lowest s.m s.files (low_of s + 1) (high_of s)
  open_next d = second_free s.m s.files (subst (λ (b : Bool). buffers_for b ≤ free_count s.m s.files) d open_accepted.free)

  -- the file as it is opened
  abbrev pub made : File
  made = opened_file (wish_of channel unit flags size rlen) (low_of s) (high_of s)

  pub open_state : (open_by s file channel unit flags size rlen).state ≡ with_file s file made
  unfolding open_by open_on free_of
  open_state =
      state_accepted (open_change s file channel unit flags size rlen).refusal s (with_file s file (open_change s file channel unit flags size rlen).file) yes₀
      ∙ ap (with_file s file) (file_accepted (open_change s file channel unit flags size rlen).refusal (file_at s file) made yes₀)

  module _ (whole : length s.files ≡ file_count) where
    place : file < length s.files
    place = let l = open_accepted.number in omega (arith, l)

    pub open_file : file_at (open_by s file channel unit flags size rlen).state file ≡ made
    unfolding with_file
    open_file = ap (λ (t : State). file_at t file) open_state ∙ get_or-set_same s.files file made closed_file place

    no_server : (j : ℕ) → serves channel unit (file_at s j) ≡ false
    no_server j =
        by_place s.files closed_file (λ f. serves channel unit f ≡ false) j
        (λ l. unbound s.files channel unit j open_accepted.unbound (omega (arith, l, whole))) refl

    pub open_sound_lem : sound (open_by s file channel unit flags size rlen).state ≡ true
    unfolding opened_file
    open_sound_lem =
        ap sound open_state
        ∙ facts_sound (with_file s file made)
        (open-facts s file made (sound_facts s open_accepted.good) place open_accepted.shut refl
        (opened_sound s.m s.w (wish_of channel unit flags size rlen) (low_of s) (high_of s) open_accepted.sizes open_lowest.below (λ d. (omega (arith, (open_next d).from), (open_next d).below)))
        refl open_accepted.known
        (record {
          low = open_lowest.free;
          high = λ d. ap (is_free s.files) (cond_true (high_of s) 0 d) ∙ (open_next d).free;
          unit = no_server;
        }))

    -- no other file holds a buffer that was free
    free_elsewhere : (b : ℕ) → is_free s.files b ≡ true → (j : ℕ) → j ≢ file → held_by b (file_at (open_by s file channel unit flags size rlen).state j) ≡ false
    free_elsewhere b f j ne =
        ap (held_by b) ((open_frame s file channel unit flags size rlen).files j ne)
        ∙ by_place s.files closed_file (λ g. held_by b g ≡ false) j (none_at (held_by b) closed_file s.files (not-true (is_held s.files b) f) j) refl

    -- the buffers taken were free, and this file alone holds them now
    pub open_holds_low : (held_by (low_of s) (file_at (open_by s file channel unit flags size rlen).state file) ≡ true)
        × ((j : ℕ) → j ≢ file → held_by (low_of s) (file_at (open_by s file channel unit flags size rlen).state j) ≡ false)
    unfolding opened_file
    open_holds_low =
        (ap (held_by (low_of s)) open_file ∙ or_first (eqb (low_of s) (low_of s)) _ (eq-eqb (low_of s) (low_of s) refl), free_elsewhere (low_of s) open_lowest.free)

    pub open_holds_high : is_set flags 2 ≡ true → (held_by (high_of s) (file_at (open_by s file channel unit flags size rlen).state file) ≡ true)
        × ((j : ℕ) → j ≢ file → held_by (high_of s) (file_at (open_by s file channel unit flags size rlen).state j) ≡ false)
    unfolding opened_file
    open_holds_high d =
        (ap (held_by (high_of s)) open_file ∙ or_second (eqb (low_of s) (high_of s)) _ (second (is_set flags 2) d), free_elsewhere (high_of s) (open_next d).free)
      where
        second : (b : Bool) → b ≡ true → (b && eqb (cond b (high_of s) 0) (high_of s)) ≡ true
        second true e = eq-eqb (high_of s) (high_of s) refl
        second false e = true_not_false e refl

-- a sound state stays sound
pub open_kept : (s : State) (file channel unit flags size rlen : ℕ) → length s.files ≡ file_count → sound s ≡ true
    → sound (open_by s file channel unit flags size rlen).state ≡ true
open_kept s file channel unit flags size rlen whole h = go (ℕ_discrete (open_by s file channel unit flags size rlen).refusal 0)
  where
    go : Dec ((open_by s file channel unit flags size rlen).refusal ≡ 0) → sound (open_by s file channel unit flags size rlen).state ≡ true
    go (yes e) = open_sound_lem s file channel unit flags size rlen e whole
    go (no ne) = ap sound (open_refused s file channel unit flags size rlen ne) ∙ h
