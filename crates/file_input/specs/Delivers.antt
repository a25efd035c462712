-- Input (document 01, "Files and buffers"): what a read takes, and what its end does to the file. Assumes nothing.
use Rattle.std.specs.Prelude.{ℕ, ◌+◌, Bool, true, false, ◌&&◌, leb}
use Rattle.file.specs.declared.Slot.TheVariants.{Taken}
use Rattle.file.specs.declared.Arrival.{Arrival}
use Rattle.file.specs.declared.File.{File}
use Rattle.file.specs.Sides.{is_side, empty_side, taken_side, oldest}
use Rattle.file.specs.Fills.{with_slot, filled_at, emptied_at}
use Rattle.word.specs.CheckWords.{extra}

-- refusal 9, "ask read: no empty buffer"
abbrev pub has_empty : File → Bool
has_empty f = is_side (empty_side f)

-- "An accepted read takes the lowest empty buffer."
unfoldable pub took_buffer : File → File
took_buffer f = with_slot f (empty_side f) Taken false f.block

-- "A delivered block has 1 + e to B + e words, else 13."
abbrev pub block_fits : File → ℕ → Bool
block_fits f n = leb (1 + extra f.sequence f.check) n && leb n (f.size + extra f.sequence f.check)

-- "A good end makes it full."; "If such a report is permanent and carries words, the block is kept as full, counts as delivered" (document 02, M-101):
-- a block of n data words, that arrived so
unfoldable pub delivered : File → ℕ → Arrival → File
delivered f n arrival = filled_at f (taken_side f) n arrival

-- "A read that ends with a mark or a permanent error gives its buffer back as empty.": without words, since M-101
unfoldable pub gave_back : File → File
gave_back f = emptied_at f (taken_side f)

abbrev pub with_file_mark : File → File
with_file_mark f = record {
  opened = f.opened;
  channel = f.channel;
  unit = f.unit;
  output = f.output;
  double = f.double;
  sequence = f.sequence;
  check = f.check;
  size = f.size;
  rlen = f.rlen;
  low = f.low;
  high = f.high;
  turned = f.turned;
  block = f.block;
  marked = true;
}

-- a read that ends with a mark; refusal 10, "a file mark has been read since the open"
unfoldable pub met_mark : File → File
met_mark f = with_file_mark (gave_back f)

-- refusal 9, "Ask write, skip: no full buffer"
abbrev pub has_full : File → Bool
has_full f = is_side (oldest f)
