-- Open (document 01, "Files and buffers"). Assumes nothing.
use Rattle.std.specs.Prelude.{ℕ, ◌/◌, ◌%◌, Bool, not, ◌||◌, [], ◌∷◌, ltb, eqb}
use Rattle.area.specs.Refusals.{Rows, lowest}
use Rattle.channel.specs.declared.Channel.{Channel}
use Rattle.channel.specs.Units.{declared_at}
use Rattle.file.specs.declared.File.{File}
use Rattle.file.specs.declared.Wish.{Wish}
use Rattle.file.specs.Sizes.{sizes_fit, buffers_for, opened_file}
use Rattle.pool.specs.declared.FreeBuffers.{FreeBuffers}
use Rattle.file.specs.declared.FileChange.{FileChange}
use Rattle.file.specs.Changes.{file_change}

-- "flag 1 output, 2 double, 4 sequence, 8 check"
abbrev pub is_set : ℕ → ℕ → Bool
is_set flags flag = eqb (flags / flag % 2) 1

-- all four flags together: the highest number that flags make
abbrev pub all_flags : ℕ
all_flags = 15

-- "Open gives file, channel, unit, direction, single or double, sequence yes/no, check sum yes/no, block size B and record length r."
abbrev pub wish_of : ℕ → ℕ → ℕ → ℕ → ℕ → Wish
wish_of channel unit flags size rlen = record {
  channel = channel;
  unit = unit;
  output = eqb (flags % 2) 1;
  double = is_set flags 2;
  sequence = is_set flags 4;
  check = is_set flags 8;
  size = size;
  rlen = rlen;
}

-- ---- its refusals

-- of whether row 1 applies and whether the unit is bound, the file of that number, the channel, the free buffers, W, and what is asked for
unfoldable pub open_rows : Bool → Bool → File → Channel → FreeBuffers → ℕ → Wish → Rows
open_rows c1 bound f c free w q =
    -- "an argument is outside its range", "a state passed back is unsound"
    (1, c1)
    -- "open: unit not declared"
    ∷ (3, not (declared_at c q.unit))
    -- "open: file number open already, or unit already bound"
    ∷ (4, f.opened || bound)
    -- "open: fewer free buffers than the one or two asked for"
    ∷ (7, ltb free.count (buffers_for q.double))
    -- "Size 13 unless r is 1 to B and B + e is at most W."
    ∷ (13, not (sizes_fit w q.sequence q.check q.size q.rlen))
    ∷ []

abbrev pub open_refusal : Bool → Bool → File → Channel → FreeBuffers → ℕ → Wish → ℕ
open_refusal c1 bound f c free w q = lowest (open_rows c1 bound f c free w q)

-- ---- its effect

-- "The lowest-numbered free buffers are taken; they start empty."
unfoldable pub open_on : Bool → Bool → File → Channel → FreeBuffers → ℕ → Wish → FileChange
open_on c1 bound f c free w q = file_change (open_refusal c1 bound f c free w q) f (opened_file q free.low free.high)
