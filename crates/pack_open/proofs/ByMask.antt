-- An open that reads the free mask finds what the files say: in a sound state the mask is right, and in any other the open is refused.
-- Assumes nothing.
use mathlib.Core.Path.{◌≡◌, refl, ap, ◌∙◌}
use mathlib.Core.Bool.{Bool, true, false, not, ◌||◌}
use Prim.Native.Nat.{ℕ}
use lib.Dec.{leb, ltb}
use Rattle.area.specs.Refusals.{lowest}
use Rattle.area.proofs.Walks.{by_test, true_not_false, or_second}
use Rattle.channel.specs.declared.Channel.{Channel}
use Rattle.channel.specs.Units.{unit_count}
use Rattle.file.specs.declared.File.{File}
use Rattle.file.specs.declared.FileChange.{FileChange}
use Rattle.file.specs.declared.Wish.{Wish}
use Rattle.pool.specs.declared.FreeBuffers.{FreeBuffers}
use Rattle.pool.specs.Free.{file_count, free_of}
use Rattle.pool.specs.Masks.{free_in}
use Rattle.pool.specs.Serving.{is_bound}
use Rattle.state.specs.declared.State.{State}
use Rattle.state.specs.Places.{channel_count, file_at, channel_at}
use Rattle.state_sound.specs.Soundness.{sound}
use Rattle.state_sound.proofs.Buffers.{mask_finds}
use Rattle.call_open.specs.Open.{all_flags, wish_of, open_rows, open_on}
use Rattle.pack_open.specs.Open.{open_off, open_change}

-- where row 1 applies it does not matter what is free
refused_alike : (c1 bound : Bool) (f : File) (c : Channel) (x y : FreeBuffers) (w : ℕ) (q : Wish) → c1 ≡ true → open_on c1 bound f c x w q ≡ open_on c1 bound f c y w q
unfolding open_on open_rows lowest
refused_alike true bound f c x y w q e = refl
refused_alike false bound f c x y w q e = true_not_false e refl

pub by_mask : (s : State) (file channel unit flags : ℕ) (bound : Bool) (f : File) (c : Channel) (w : ℕ) (q : Wish)
    → open_on (open_off s file channel unit flags) bound f c (free_in s.free) w q ≡ open_on (open_off s file channel unit flags) bound f c (free_of s.m s.files) w q
by_mask s file channel unit flags bound f c w q =
    by_test (λ t. sound s ≡ t → open_on off bound f c (free_in s.free) w q ≡ open_on off bound f c (free_of s.m s.files) w q) (sound s)
    (λ t h. ap (λ (x : FreeBuffers). open_on off bound f c x w q) (mask_finds s h))
    (λ t h. refused_alike off bound f c (free_in s.free) (free_of s.m s.files) w q (wrong h))
    refl
  where
    off : Bool
    off = open_off s file channel unit flags

    wrong : sound s ≡ false → open_off s file channel unit flags ≡ true
    wrong h =
        or_second (leb file_count file) _ (or_second (leb channel_count channel) _ (or_second (leb unit_count unit) _ (or_second (ltb all_flags flags) _ (ap not h))))

-- what an open's code makes of the mask comes to its definition
pub open_as : (s : State) (file channel unit flags size rlen : ℕ) (x : FileChange) (c1 bound : Bool) (f : File) (c : Channel) (free : FreeBuffers) (q : Wish)
    → x ≡ open_on c1 bound f c free s.w q → c1 ≡ open_off s file channel unit flags → bound ≡ is_bound s.files channel unit → f ≡ file_at s file
    → c ≡ channel_at s channel → free ≡ free_in s.free → q ≡ wish_of channel unit flags size rlen → x ≡ open_change s file channel unit flags size rlen
open_as s file channel unit flags size rlen x c1 bound f c free q e e₁ e₂ e₃ e₄ e₅ e₆ =
    let read : x ≡ open_on (open_off s file channel unit flags) (is_bound s.files channel unit) (file_at s file) (channel_at s channel) (free_in s.free) s.w (wish_of channel unit flags size rlen) =
    e ∙ rw (e₁, e₂, e₃, e₄, e₅, e₆) in
    read ∙ by_mask s file channel unit flags (is_bound s.files channel unit) (file_at s file) (channel_at s channel) s.w (wish_of channel unit flags size rlen)
