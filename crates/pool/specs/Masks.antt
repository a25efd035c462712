-- The free buffers as bits (document 02, M-104): "Keep the free ones as one bit each and find the lowest, and the count of free ones, from the
-- bits." Assumes nothing.
use Rattle.std.specs.Prelude.{ℕ, suc, ◌+◌, ◌-◌, not, cond, ◌&&◌, ◌||◌, List, ltb, unwrap_or}
use Rattle.area.specs.Lists.{first_along, count_along}
use Rattle.area.specs.Masks.{bit_at, mask_of}
use Rattle.file.specs.declared.File.{File}
use Rattle.pool.specs.declared.FreeBuffers.{FreeBuffers}
use Rattle.pool.specs.Free.{buffer_limit, held_by, is_free}

-- the mask of the free buffers: bit b is set exactly if b is one of the m buffers and no open file holds it
abbrev pub free_mask : ℕ → List File → ℕ
free_mask m fs = mask_of (λ b. ltb b m && is_free fs b) buffer_limit

-- all m buffers
abbrev pub all_free : ℕ → ℕ
all_free m = mask_of (λ b. ltb b m) buffer_limit

-- ---- what a mask says

-- the lowest number from k on whose bit is set, past the last if none is
abbrev pub lowest_set : ℕ → ℕ → ℕ
lowest_set mask k = unwrap_or (first_along suc (bit_at mask) (buffer_limit - k) k) buffer_limit

-- how many bits are set, the lowest, and the lowest above that
unfoldable pub free_in : ℕ → FreeBuffers
free_in mask = record { count = count_along suc (bit_at mask) buffer_limit 0; low = lowest_set mask 0; high = lowest_set mask (lowest_set mask 0 + 1) }

-- ---- what a file does to it

-- without the buffers that f holds, and with them
abbrev pub taken_by : File → ℕ → ℕ
taken_by f mask = mask_of (λ b. bit_at mask b && not (held_by b f)) buffer_limit

abbrev pub given_back : File → ℕ → ℕ
given_back f mask = mask_of (λ b. bit_at mask b || held_by b f) buffer_limit

-- after the file f has become g: one that was opened has taken its buffers, one that was closed has given them back
unfoldable pub free_after : ℕ → File → File → ℕ
free_after mask f g = cond f.opened (cond g.opened mask (given_back f mask)) (cond g.opened (taken_by g mask) mask)
