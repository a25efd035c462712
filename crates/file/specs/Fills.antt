-- The file with something else in one of its buffers. Assumes nothing.
use Rattle.std.specs.Prelude.{ℕ, Bool, false}
use Rattle.file.specs.declared.Arrival.{Arrival}
use Rattle.file.specs.declared.Slot.{Slot}
use Rattle.file.specs.declared.Slot.TheVariants.{Empty, Full}
use Rattle.file.specs.declared.Side.{Side}
use Rattle.file.specs.declared.Side.TheVariants.{Low, High, Neither}
use Rattle.file.specs.declared.File.{File}
use Rattle.file.specs.Slots.{is_full}
use Rattle.file.specs.Sides.{oldest}
use Rattle.word.specs.CheckWords.{next_number}

-- the file with x in buffer k, the order of its full blocks and its next block number; as it is if k is none
abbrev pub with_slot : File → Side → Slot → Bool → ℕ → File
with_slot f Low x turned block = record {
  opened = f.opened;
  channel = f.channel;
  unit = f.unit;
  output = f.output;
  double = f.double;
  sequence = f.sequence;
  check = f.check;
  size = f.size;
  rlen = f.rlen;
  low = record { number = f.low.number; slot = x };
  high = f.high;
  turned = turned;
  block = block;
  marked = f.marked;
}
with_slot f High x turned block = record {
  opened = f.opened;
  channel = f.channel;
  unit = f.unit;
  output = f.output;
  double = f.double;
  sequence = f.sequence;
  check = f.check;
  size = f.size;
  rlen = f.rlen;
  low = f.low;
  high = record { number = f.high.number; slot = x };
  turned = turned;
  block = block;
  marked = f.marked;
}
with_slot f Neither x turned block = f

-- a block that becomes full in the low buffer is younger than one in the high buffer
abbrev pub turned_by : File → Side → Bool
turned_by f Low = is_full f.high.slot
turned_by f High = false
turned_by f Neither = false

-- a block of n data words, that arrived so, is full in buffer k, the youngest; "block numbers .. go up by one for every block sealed or delivered"
unfoldable pub filled_at : File → Side → ℕ → Arrival → File
filled_at f k n arrival = with_slot f k (Full n 0 arrival) (turned_by f k) (next_number f.block)

-- buffer k is empty
unfoldable pub emptied_at : File → Side → File
emptied_at f k = with_slot f k Empty false f.block

-- "Skip drops the oldest full block, used up or not."; a write that is done with its block does the same
unfoldable pub without_oldest : File → File
without_oldest f = emptied_at f (oldest f)
