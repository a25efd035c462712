-- Laws of lookups in a state. Assumes nothing.
use mathlib.Core.Path.{◌≡◌, refl}
use mathlib.Core.List.{List, [], ◌∷◌}
use Prim.Native.Nat.{ℕ, zero, suc, ◌≤◌, ◌<◌}
use native.Mathlib.Nat.{le_of_suc-le-suc, not-suc-le-zero}
use lib.ListN.{length, get_or, get_or-eq_default}
use Rattle.channel.specs.declared.Channel.{Channel}
use Rattle.file.specs.declared.File.{File}
use Rattle.file.specs.Sizes.{closed_file}
use Rattle.state.specs.Places.{no_channel, channel_in}

-- what stands past the end does not matter before it
pub any_default : {A : Type 0} (xs : List A) (i : ℕ) (d e : A) → i < length xs → get_or xs i d ≡ get_or xs i e
any_default [] i d e h = absurd (not-suc-le-zero h)
any_default (x ∷ xs) zero d e h = refl
any_default (x ∷ xs) (suc i) d e h = any_default xs i d e (le_of_suc-le-suc h)

pub file_beyond : (fs : List File) (i : ℕ) → length fs ≤ i → get_or fs i closed_file ≡ closed_file
file_beyond fs i h = get_or-eq_default fs closed_file h

pub channel_beyond : (cs : List Channel) (c : ℕ) → length cs ≤ c → channel_in cs c ≡ no_channel
channel_beyond cs c h = get_or-eq_default cs no_channel h
