-- Replacements past the last change nothing; a file inside takes or gives back its buffers. Assumes nothing.
use mathlib.Core.Path.{◌≡◌, refl, sym, ap, ◌∙◌}
use mathlib.Core.List.{List}
use Prim.Native.Nat.{ℕ, ◌≤◌, ◌<◌}
use lib.ListN.{length, get_or, set}
use lib.Seq.{set_out, get_or-set_same}
use Rattle.channel.specs.declared.Channel.{Channel}
use Rattle.file.specs.declared.File.{File}
use Rattle.file.specs.Sizes.{closed_file}
use Rattle.pool.specs.Masks.{free_after}
use Rattle.pool.proofs.FreeMasks.{after_same}
use Rattle.state.specs.declared.State.{State}
use Rattle.state.specs.Places.{file_at}
use Rattle.state.specs.Stores.{with_file, with_channel}

pub with_file_beyond : (s : State) (i : ℕ) (f : File) → length s.files ≤ i → with_file s i f ≡ s
unfolding with_file
with_file_beyond s i f h =
    ap (λ (fs : List File). record { m = s.m; w = s.w; frozen = s.frozen; channels = s.channels; files = fs; free = free_after s.free (file_at s i) (get_or fs i closed_file); routines = s.routines }) (set_out s.files i f h)
    ∙ sym (ap (λ (k : ℕ). record { m = s.m; w = s.w; frozen = s.frozen; channels = s.channels; files = s.files; free = k; routines = s.routines }) (after_same s.free (file_at s i) (file_at s i) refl))

-- a file that stands at its place: the free buffers follow it
pub with_file_inside : (s : State) (i : ℕ) (f : File) (k : ℕ) → i < length s.files → k ≡ free_after s.free (file_at s i) f
    → record { m = s.m; w = s.w; frozen = s.frozen; channels = s.channels; files = set s.files i f; free = k; routines = s.routines } ≡ with_file s i f
unfolding with_file
with_file_inside s i f k l e =
    ap (λ (n : ℕ). record { m = s.m; w = s.w; frozen = s.frozen; channels = s.channels; files = set s.files i f; free = n; routines = s.routines })
    (e ∙ ap (free_after s.free (file_at s i)) (sym (get_or-set_same s.files i f closed_file l)))

pub with_channel_beyond : (s : State) (c : ℕ) (x : Channel) → length s.channels ≤ c → with_channel s c x ≡ s
unfolding with_channel
with_channel_beyond s c x h = ap (λ (cs : List Channel). record { m = s.m; w = s.w; frozen = s.frozen; channels = cs; files = s.files; free = s.free; routines = s.routines }) (set_out s.channels c x h)
