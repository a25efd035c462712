-- What a call that stores one file leaves alone: every other file, every channel, the pool, the freeze and the routines. Assumes nothing.
use mathlib.Core.Path.{◌≡◌, refl}
use mathlib.Core.Logic.{◌≢◌}
use mathlib.Core.Bool.{Bool, true, false, cond}
use mathlib.Core.List.{List}
use Prim.Native.Nat.{ℕ}
use lib.Dec.{eqb}
use lib.Seq.{get_or-set_other}
use Rattle.channel.specs.declared.Channel.{Channel}
use Rattle.file.specs.declared.File.{File}
use Rattle.file.specs.Sizes.{closed_file}
use Rattle.state.specs.declared.State.{State}
use Rattle.state.specs.Places.{file_at}
use Rattle.state.specs.Stores.{with_file}
use Rattle.state.specs.Answers.{called}

-- t is s, but for the file of number i
pub record OnlyFile (s : State) (i : ℕ) (t : State) : Type 0 where
  pub files : (j : ℕ) → j ≢ i → file_at t j ≡ file_at s j
  pub channels : t.channels ≡ s.channels
  pub m : t.m ≡ s.m
  pub w : t.w ≡ s.w
  pub frozen : t.frozen ≡ s.frozen
  pub routines : t.routines ≡ s.routines

stored : (s : State) (i : ℕ) (f : File) → OnlyFile s i (with_file s i f)
unfolding with_file
stored s i f = record { files = λ j ne. get_or-set_other s.files i j f closed_file ne; channels = refl; m = refl; w = refl; frozen = refl; routines = refl }

pub store_frame : (n : ℕ) (s : State) (i : ℕ) (f : File) → OnlyFile s i (called n s (with_file s i f)).state
store_frame n s i f = go (eqb n 0)
  where
    go : (b : Bool) → OnlyFile s i (cond b (with_file s i f) s)
    go true = stored s i f
    go false = record { files = λ j ne. refl; channels = refl; m = refl; w = refl; frozen = refl; routines = refl }
