-- Fresh start (document 01, "Sizes"). Assumes nothing.
use Rattle.std.specs.Prelude.{ℕ, ◌*◌, ◌^◌, Bool, false, not, ◌&&◌, ◌||◌, [], ◌∷◌, ltb, replicate}
use Rattle.area.specs.Refusals.{Rows, lowest}
use Rattle.channel.specs.Units.{unit_count, fresh_of}
use Rattle.file.specs.Sizes.{closed_file}
use Rattle.pool.specs.Free.{file_count, pool_fits}
use Rattle.pool.specs.Masks.{all_free}
use Rattle.routines.specs.Posts.{no_routines}
use Rattle.state.specs.declared.State.{State}
use Rattle.state.specs.declared.Called.{Called}
use Rattle.pack_start.specs.declared.Masks.{Masks}
use Rattle.state.specs.Answers.{called}
use Rattle.state_sound.specs.Soundness.{sound}

-- ---- its refusals

-- "Units 0 to 9 on each" and "bit u for unit u": a mask has no bit above the last unit's
abbrev pub is_mask : ℕ → Bool
is_mask mask = ltb mask (2 ^ unit_count)

abbrev pub are_masks : Masks → Bool
are_masks k = is_mask k.a && (is_mask k.b && (is_mask k.c && (is_mask k.d && is_mask k.e)))

-- "An area under m×W is refused 1.": the m and W that are asked for
-- `wrong` is what row 1 says of the state
unfoldable pub fresh_rows : Bool → ℕ → ℕ → Masks → ℕ → Rows
fresh_rows wrong m w k n =
    -- "an argument is outside its range, the area is short, a state passed back is unsound": m from 1 to 32, W from 1 to 1,024, masks of units
    (1, wrong || (not (pool_fits m w) || (not (are_masks k) || ltb n (m * w)))) ∷ []

abbrev pub fresh_refusal : Bool → ℕ → ℕ → Masks → ℕ → ℕ
fresh_refusal wrong m w k n = lowest (fresh_rows wrong m w k n)

-- ---- its effect

-- "A fresh start closes everything, drops all requests, thaws and resets the scans."; no routine waits or was interrupted, and the main program runs
-- (document 02, M-110)
unfoldable pub fresh_state : ℕ → ℕ → Masks → State
fresh_state m w k = record {
  m = m;
  w = w;
  frozen = false;
  channels = fresh_of k.a ∷ fresh_of k.b ∷ fresh_of k.c ∷ fresh_of k.d ∷ fresh_of k.e ∷ [];
  files = replicate file_count closed_file;
  free = all_free m;
  routines = no_routines;
}

-- of a state, an area of n words, and what the start asks for
unfoldable pub fresh_by : State → ℕ → ℕ → ℕ → Masks → Called
fresh_by s n m w k = called (fresh_refusal (not (sound s)) m w k n) s (fresh_state m w k)
