-- Open (document 01, "Files and buffers"). Assumes nothing.
use Rattle.std.specs.Prelude.{ℕ, ◌+◌, Bool, true, false, cond, ◌&&◌, leb}
use Rattle.file.specs.declared.Slot.TheVariants.{Empty}
use Rattle.file.specs.declared.Buffer.{Buffer}
use Rattle.file.specs.declared.File.{File}
use Rattle.file.specs.declared.Wish.{Wish}
use Rattle.file.specs.Sides.{no_buffer}
use Rattle.word.specs.CheckWords.{extra}

-- "Size 13 unless r is 1 to B and B + e is at most W."
abbrev pub sizes_fit : ℕ → Bool → Bool → ℕ → ℕ → Bool
sizes_fit w sequence check size rlen = leb 1 rlen && (leb rlen size && leb (size + extra sequence check) w)

-- "fewer free buffers than the one or two asked for": the one or two
abbrev pub buffers_for : Bool → ℕ
buffers_for double = cond double 2 1

abbrev pub empty_buffer : ℕ → Buffer
empty_buffer b = record { number = b; slot = Empty }

-- what a single file's second number would be has no meaning
abbrev pub second_number : Bool → ℕ → ℕ
second_number double high = cond double high 0

-- "The lowest-numbered free buffers are taken; they start empty." and "block numbers start at 1 at each open"
unfoldable pub opened_file : Wish → ℕ → ℕ → File
opened_file q low high = record {
  opened = true;
  channel = q.channel;
  unit = q.unit;
  output = q.output;
  double = q.double;
  sequence = q.sequence;
  check = q.check;
  size = q.size;
  rlen = q.rlen;
  low = empty_buffer low;
  high = empty_buffer (second_number q.double high);
  turned = false;
  block = 1;
  marked = false;
}

-- "Closing gives all back; unread input blocks are dropped."
abbrev pub closed_file : File
closed_file = record {
  opened = false;
  channel = 0;
  unit = 0;
  output = false;
  double = false;
  sequence = false;
  check = false;
  size = 0;
  rlen = 0;
  low = no_buffer;
  high = no_buffer;
  turned = false;
  block = 0;
  marked = false;
}
