-- Fresh start: exactly when it is refused, and that an accepted one leads from a sound state to a sound state that depends on its arguments
-- alone. Assumes nothing.
use mathlib.Core.Path.{◌≡◌, refl, ap, ◌∙◌}
use mathlib.Core.Logic.{◌≢◌}
use mathlib.Core.Bool.{true, false, not, ◌&&◌, ◌||◌}
use mathlib.Core.List.{[], ◌∷◌}
use Prim.Native.Nat.{ℕ, ◌*◌}
use lib.Dec.{leb, ltb}
use borrow.Author.Tests.{leb-true}
use Rattle.area.specs.Refusals.{lowest, Exactly, here}
use Rattle.area.proofs.Walks.{and_left, or_left, or_right, or_first}
use Rattle.area.proofs.Exactly.{exactly}
use Rattle.pool.specs.Free.{file_count, buffer_limit, pool_fits}
use Rattle.state.specs.declared.State.{State}
use Rattle.state_sound.specs.Soundness.{sound}
use Rattle.state_sound.proofs.Wholes.{fresh_sound}
use Rattle.pack_start.specs.declared.Masks.{Masks}
use Rattle.pack_start.specs.Fresh.{are_masks, fresh_rows, fresh_refusal, fresh_state, fresh_by}
use Rattle.state.proofs.Answered.{not_so, state_refused, state_accepted}

module _ (s : State) (n m w : ℕ) (k : Masks) where
  -- refused with a number exactly if its row applies and none with a lower number does
  pub fresh_exactly : ((fresh_by s n m w k).refusal ≡ lowest (fresh_rows (not (sound s)) m w k n)) × Exactly (fresh_rows (not (sound s)) m w k n)
  unfolding fresh_by fresh_rows
  fresh_exactly = (refl, exactly (fresh_rows (not (sound s)) m w k n) refl)

  pub fresh_refused : (fresh_by s n m w k).refusal ≢ 0 → (fresh_by s n m w k).state ≡ s
  unfolding fresh_by
  fresh_refused h = state_refused (fresh_refusal (not (sound s)) m w k n) s (fresh_state m w k) h

  -- nothing of the state passed is left
  pub fresh_accepted : (fresh_by s n m w k).refusal ≡ 0 → (fresh_by s n m w k).state ≡ fresh_state m w k
  unfolding fresh_by
  fresh_accepted h = state_accepted (fresh_refusal (not (sound s)) m w k n) s (fresh_state m w k) h

  -- row 1 does not apply
  free : (fresh_by s n m w k).refusal ≡ 0 → (not (sound s) || (not (pool_fits m w) || (not (are_masks k) || ltb n (m * w)))) ≡ false
  unfolding fresh_by fresh_rows
  free h = (exactly (fresh_rows (not (sound s)) m w k n) refl).none h 1 _ here

  -- "a state passed back is unsound": an accepted one was passed a sound state
  pub fresh_judged : (fresh_by s n m w k).refusal ≡ 0 → sound s ≡ true
  fresh_judged h = not_so (sound s) (or_left (not (sound s)) _ (free h))

  fits : (fresh_by s n m w k).refusal ≡ 0 → pool_fits m w ≡ true
  fits h = not_so (pool_fits m w) (or_left (not (pool_fits m w)) _ (or_right (not (sound s)) _ (free h)))

  pub fresh_kept : (fresh_by s n m w k).refusal ≡ 0 → sound (fresh_by s n m w k).state ≡ true
  unfolding fresh_state
  fresh_kept h =
      ap sound (fresh_accepted h)
      ∙ fresh_sound m w (k.a ∷ k.b ∷ k.c ∷ k.d ∷ k.e ∷ []) file_count (or_first (pool_fits m w) _ (fits h))
      (leb-true 1 m (and_left (leb 1 m) _ (and_left (leb 1 m && leb m buffer_limit) _ (fits h))))
