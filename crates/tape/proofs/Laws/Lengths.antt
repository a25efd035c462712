-- Laws of the lengths in an image. Assumes nothing.
use mathlib.Core.Path.{◌≡◌, ap, ◌∙◌}
use mathlib.Core.List.{List}
use Prim.Native.Nat.{ℕ, ◌+◌}
use native.Mathlib.Omega.{arith}
use lib.ListN.{get_or, drop}
use lib.Seq.{get_or-drop}
use Rattle.tape.specs.Lengths.{length_at}

byte_from : (xs : List ℕ) (k i j : ℕ) → k + i ≡ j → get_or (drop k xs) i 0 ≡ get_or xs j 0
byte_from xs k i j e = get_or-drop k xs i 0 ∙ ap (λ (m : ℕ). get_or xs m 0) e

-- the length at a place is the first one of what stands from there on
pub length_from : (xs : List ℕ) (k : ℕ) → length_at (drop k xs) 0 ≡ length_at xs k
length_from xs k =
    rw (byte_from xs k 0 k (omega arith), byte_from xs k 1 (k + 1) (omega arith), byte_from xs k 2 (k + 2) (omega arith), byte_from xs k 3 (k + 3) (omega arith))
