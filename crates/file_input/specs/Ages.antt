-- The full blocks of a file in a line, the oldest first, and its part-filled one: words in which theorems speak of a file. Assumes nothing.
use Rattle.std.specs.Prelude.{ℕ, Bool, true, false, List, [], ◌∷◌, ◌++◌}
use Rattle.file.specs.declared.Arrival.{Arrival}
use Rattle.file.specs.declared.Slot.{Slot}
use Rattle.file.specs.declared.Slot.TheVariants.{Empty, Taken, Part, Full}
use Rattle.file.specs.declared.Side.{Side}
use Rattle.file.specs.declared.File.{File}
use Rattle.file.specs.Sides.{buffer_at}

-- a block: the number of its buffer, its data words, the place of get in it, and how it arrived, the errors not told yet
pub record Block : Type 0 where
  pub number : ℕ
  pub words : ℕ
  pub place : ℕ
  pub arrival : Arrival

-- the full block in a buffer, if there is one
abbrev pub full_in : ℕ → Slot → List Block
full_in b Empty = []
full_in b Taken = []
full_in b (Part n) = []
full_in b (Full n at a) = record { number = b; words = n; place = at; arrival = a } ∷ []

abbrev pub full_at : File → Side → List Block
full_at f k = full_in (buffer_at f k).number (buffer_at f k).slot

-- of two blocks the one in the high buffer is the older if they are turned
abbrev pub in_order : {A : Type 0} → Bool → List A → List A → List A
in_order false low high = low ++ high
in_order true low high = high ++ low

-- the full blocks, the oldest first
unfoldable pub line : File → List Block
line f = in_order f.turned (full_in f.low.number f.low.slot) (full_in f.high.number f.high.slot)
