-- Sets of numbers as bits: a mask has bit b set exactly if b is in the set. Assumes nothing.
use Rattle.std.specs.Prelude.{Bool, ℕ, zero, suc, ◌+◌, ◌*◌, ◌/◌, ◌%◌, ◌^◌, eqb}
use Rattle.area.specs.Lists.{one_if}

-- whether bit b of a mask is set
abbrev pub bit_at : ℕ → ℕ → Bool
bit_at mask b = eqb (mask / 2 ^ b % 2) 1

-- the mask of n numbers from u on, u at the lowest bit: those that pass the test are set
unfoldable pub mask_along : (ℕ → Bool) → ℕ → ℕ → ℕ
mask_along test zero u = 0
mask_along test (suc n) u = mask_along test n (suc u) * 2 + one_if (test u)

-- the mask of the numbers below n that pass the test
abbrev pub mask_of : (ℕ → Bool) → ℕ → ℕ
mask_of test n = mask_along test n 0
