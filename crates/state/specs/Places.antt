-- Where things stand in a state (document 01, "Sizes"): lookups for any number. Assumes nothing.
use Rattle.std.specs.Prelude.{ℕ, ◌*◌, Bool, false, List, ltb, get_or, replicate}
use Rattle.channel.specs.declared.Channel.{Channel}
pub use Rattle.channel.specs.Units.{channel_count}
use Rattle.channel.specs.Units.{fresh_of}
use Rattle.file.specs.declared.File.{File}
use Rattle.file.specs.Sizes.{closed_file}
use Rattle.pool.specs.Free.{file_count}
use Rattle.routines.specs.Posts.{no_routines}
use Rattle.state.specs.declared.State.{State}

-- a channel without declared units: what stands past the last channel
abbrev pub no_channel : Channel
no_channel = fresh_of 0

-- "Before the first fresh start: no buffers (m and W are 0), no units"; "the main program runs" (document 02, M-110)
unfoldable pub before_start : State
before_start = record {
  m = 0;
  w = 0;
  frozen = false;
  channels = replicate channel_count no_channel;
  files = replicate file_count closed_file;
  free = 0;
  routines = no_routines;
}

-- the file and the channel of a number; past the last a closed file, and a channel without units
abbrev pub file_at : State → ℕ → File
file_at s i = get_or s.files i closed_file

abbrev pub channel_in : List Channel → ℕ → Channel
channel_in cs c = get_or cs c no_channel

abbrev pub channel_at : State → ℕ → Channel
channel_at s c = channel_in s.channels c

-- "An area under m×W is refused 1."
abbrev pub area_short : State → ℕ → Bool
area_short s n = ltb n (s.m * s.w)
