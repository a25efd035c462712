-- Which buffers of a pool are free (document 01, "Sizes"): held by no open file. Assumes nothing.
use Rattle.std.specs.Prelude.{ℕ, suc, ◌+◌, ◌-◌, ◌≤◌, ◌<◌, ◌≡◌, Bool, true, false, not, cond, ◌&&◌, ◌||◌, List, [], ◌∷◌, leb, eqb, Option, unwrap_or}
use Rattle.area.specs.Lists.{any_of, count_of, first_along, count_along}
use Rattle.file.specs.declared.File.{File}
use Rattle.file.specs.Sizes.{buffers_for}
use Rattle.pool.specs.declared.FreeBuffers.{FreeBuffers}

-- "Files 0 to 15."
abbrev pub file_count : ℕ
file_count = 16

-- "A pool has m buffers of W words, m from 1 to 32, W from 1 to 1,024."
abbrev pub buffer_limit : ℕ
buffer_limit = 32

abbrev pub word_limit : ℕ
word_limit = 1024

abbrev pub pool_fits : ℕ → ℕ → Bool
pool_fits m w = (leb 1 m && leb m buffer_limit) && (leb 1 w && leb w word_limit)

-- "Before the first fresh start: no buffers (m and W are 0)": that pool is sound too
abbrev pub pool_sound : ℕ → ℕ → Bool
pool_sound m w = pool_fits m w || (eqb m 0 && eqb w 0)

-- an open file holds its low buffer, and its high one if it is double
abbrev pub held_by : ℕ → File → Bool
held_by b f = f.opened && (eqb f.low.number b || (f.double && eqb f.high.number b))

abbrev pub is_held : List File → ℕ → Bool
is_held fs b = any_of (held_by b) fs

-- free: held by no open file
abbrev pub is_free : List File → ℕ → Bool
is_free fs b = not (is_held fs b)

-- "The lowest-numbered free buffers are taken": the lowest of the buffers k up to m that is free
unfoldable pub lowest_free : ℕ → List File → ℕ → Option ℕ
lowest_free m fs k = first_along suc (is_free fs) (m - k) k

-- said plainly: b is the lowest free one of the buffers k up to m
pub record Lowest (m : ℕ) (fs : List File) (k b : ℕ) : Type 0 where
  pub from : k ≤ b
  pub below : b < m
  pub free : is_free fs b ≡ true
  pub lower : (j : ℕ) → k ≤ j → j < b → is_free fs j ≡ false

-- how many buffers of the pool are free
unfoldable pub free_count : ℕ → List File → ℕ
free_count m fs = count_along suc (is_free fs) m 0

-- the number of the lowest free one of the buffers k up to m, past the last if none is
abbrev pub lowest_number : ℕ → List File → ℕ → ℕ
lowest_number m fs k = unwrap_or (lowest_free m fs k) buffer_limit

-- how many are free, and "the lowest-numbered free buffers": the lowest, and the lowest above that
unfoldable pub free_of : ℕ → List File → FreeBuffers
free_of m fs = record { count = free_count m fs; low = lowest_number m fs 0; high = lowest_number m fs (lowest_number m fs 0 + 1) }

-- how many open files hold buffer b
abbrev pub holders : List File → ℕ → ℕ
holders fs b = count_of (held_by b) fs

-- how many buffers a file holds: its one or two, if it is open
abbrev pub holding : File → ℕ
holding f = cond f.opened (buffers_for f.double) 0

-- how many the files hold
unfoldable pub all_holding : List File → ℕ
all_holding [] = 0
all_holding (f ∷ fs) = holding f + all_holding fs
