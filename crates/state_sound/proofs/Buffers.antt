-- In a sound state every buffer is free or held by exactly one open file, the mask says which, and the free ones and those that files hold are
-- all m. Assumes nothing.
use mathlib.Core.Path.{◌≡◌, ap, ◌∙◌}
use mathlib.Core.Bool.{true, cond, ◌&&◌}
use Prim.Native.Nat.{ℕ, ◌+◌, ◌≤◌}
use native.Mathlib.Omega.{arith}
use borrow.Author.Tests.{leb-true, eqb-true}
use lib.Dec.{leb, eqb}
use Rattle.area.proofs.Walks.{and_left, and_right, or_either}
use Rattle.pool.specs.Free.{buffer_limit, pool_fits, pool_sound, is_free, free_count, free_of, holders, all_holding}
use Rattle.pool.specs.Masks.{free_mask, free_in}
use Rattle.pool.proofs.FreeMasks.{mask_says}
use Rattle.state_sound.specs.Files.{files_sound}
use Rattle.state_sound.proofs.Shares.{one_holder, all_counted}
use Rattle.state.specs.declared.State.{State}
use Rattle.state_sound.specs.Soundness.{sound}
use Rattle.state_sound.specs.Judged.{judged_state}
use Rattle.state_sound.proofs.Facts.{sound_facts, facts_judged}

-- a sound pool has at most 32 buffers
pub few_buffers : (m w : ℕ) → pool_sound m w ≡ true → m ≤ buffer_limit
few_buffers m w h =
    or_either (pool_fits m w) (eqb m 0 && eqb w 0) h
    (λ e. leb-true m buffer_limit (and_right (leb 1 m) _ (and_left (leb 1 m && leb m buffer_limit) _ e)))
    (λ e. let z : m ≡ 0 = eqb-true m 0 (and_left (eqb m 0) _ e) in omega arith)

module _ (s : State) (h : sound s ≡ true) where
  -- the files' part of the soundness, as the pool judges it
  pub files_sound_lem : files_sound s.m s.w s.files ≡ true
  unfolding judged_state
  files_sound_lem = and_left (files_sound s.m s.w s.files) _ (and_right (pool_sound s.m s.w) _ (facts_judged s (sound_facts s h)))

  -- how many open files hold buffer b: none if it is free, else exactly one
  pub held_once : (b : ℕ) → holders s.files b ≡ cond (is_free s.files b) 0 1
  held_once b = one_holder s.m s.w s.files b files_sound_lem

  -- and the mask says so: its lowest bits are the lowest free buffers, its ones are how many are free
  pub mask_right_lem : s.free ≡ free_mask s.m s.files
  mask_right_lem = (sound_facts s h).free

  pub mask_finds : free_in s.free ≡ free_of s.m s.files
  mask_finds = ap free_in mask_right_lem ∙ mask_says s.m s.files (few_buffers s.m s.w (sound_facts s h).pool)

  pub free_and_held : free_count s.m s.files + all_holding s.files ≡ s.m
  free_and_held = all_counted s.m s.w s.files files_sound_lem
