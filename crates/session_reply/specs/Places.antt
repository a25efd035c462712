-- What a frame concerns, and where that stands in a state. Assumes nothing.
use Rattle.std.specs.Prelude.{ℕ, Bool, true, false, cond, List, ltb}
use Rattle.session_frame.specs.declared.Frame.{Frame}
use Rattle.session_frame.specs.declared.Frame.TheVariants.{Malformed, Fresh, Open, Close, Ask, Report, Get, Put, Seal, Skip, Freeze, Thaw, Return, Running}
use Rattle.session_reply.specs.declared.Group.{Group}
use Rattle.session_reply.specs.declared.Group.TheVariants.{Record, Request, Binding, Whole, Routine}
use Rattle.channel.specs.declared.Channel.{Channel}
use Rattle.file.specs.declared.File.{File}
use Rattle.file.specs.Sizes.{closed_file}
use Rattle.pool.specs.Free.{file_count}
use Rattle.pool.specs.Serving.{file_serving}
use Rattle.state.specs.Places.{channel_count, no_channel}

-- ---- the group of a frame: 1 a file, a channel and the post of a unit, 2 a file and what a channel says of its unit, 3 the whole state, 4 the routines,
-- 0 one file or none

abbrev pub group_of : Frame → ℕ
group_of (Ask q) = 1
group_of (Report q) = 1
group_of (Open q) = 2
group_of (Close file) = 2
group_of (Fresh q) = 3
group_of Freeze = 3
group_of Thaw = 3
group_of Return = 4
group_of Running = 4
group_of Malformed = 0
group_of (Get file) = 0
group_of (Put q) = 0
group_of (Seal file) = 0
group_of (Skip file) = 0

-- the number of a group
abbrev pub group_number : Group → ℕ
group_number Record = 0
group_number Request = 1
group_number Binding = 2
group_number Whole = 3
group_number Routine = 4

-- ---- numbers

-- the file that a frame names, past the last for none
abbrev pub named_file : Frame → ℕ
named_file (Open q) = q.file
named_file (Close file) = file
named_file (Ask q) = q.file
named_file (Get file) = file
named_file (Put q) = q.file
named_file (Seal file) = file
named_file (Skip file) = file
named_file (Report q) = file_count
named_file Malformed = file_count
named_file (Fresh q) = file_count
named_file Freeze = file_count
named_file Thaw = file_count
named_file Return = file_count
named_file Running = file_count

-- the file that a frame names, or that serves the unit of a report
abbrev pub file_number : Frame → List File → ℕ
file_number (Open q) files = q.file
file_number (Close file) files = file
file_number (Ask q) files = q.file
file_number (Report q) files = file_serving files q.channel q.unit
file_number (Get file) files = file
file_number (Put q) files = q.file
file_number (Seal file) files = file
file_number (Skip file) files = file
file_number Malformed files = file_count
file_number (Fresh q) files = file_count
file_number Freeze files = file_count
file_number Thaw files = file_count
file_number Return files = file_count
file_number Running files = file_count

-- the frame's own channel, or that of its file
abbrev pub channel_number : Frame → ℕ → ℕ
channel_number (Open q) own = q.channel
channel_number (Report q) own = q.channel
channel_number Malformed own = own
channel_number (Fresh q) own = own
channel_number (Close file) own = own
channel_number (Ask q) own = own
channel_number (Get file) own = own
channel_number (Put q) own = own
channel_number (Seal file) own = own
channel_number (Skip file) own = own
channel_number Freeze own = own
channel_number Thaw own = own
channel_number Return own = own
channel_number Running own = own

-- the frame's own unit, or that of its file
abbrev pub unit_number : Frame → ℕ → ℕ
unit_number (Open q) own = q.unit
unit_number (Report q) own = q.unit
unit_number Malformed own = own
unit_number (Fresh q) own = own
unit_number (Close file) own = own
unit_number (Ask q) own = own
unit_number (Get file) own = own
unit_number (Put q) own = own
unit_number (Seal file) own = own
unit_number (Skip file) own = own
unit_number Freeze own = own
unit_number Thaw own = own
unit_number Return own = own
unit_number Running own = own

-- which of the calls on the routines
abbrev pub is_return : Frame → Bool
is_return Return = true
is_return Running = false
is_return Malformed = false
is_return (Fresh q) = false
is_return (Open q) = false
is_return (Close file) = false
is_return (Ask q) = false
is_return (Report q) = false
is_return (Get file) = false
is_return (Put q) = false
is_return (Seal file) = false
is_return (Skip file) = false
is_return Freeze = false
is_return Thaw = false

-- ---- places: those of the numbers below n, place 0 for any other, where nothing is changed then

unfoldable pub place_of : ℕ → ℕ → ℕ
place_of i n = cond (ltb i n) i 0

-- the file i, where `old` stands at its place; and what stands there after it
unfoldable pub file_or : ℕ → File → File
file_or i old = cond (ltb i file_count) old closed_file

unfoldable pub file_kept : ℕ → File → File → File
file_kept i new old = cond (ltb i file_count) new old

unfoldable pub channel_or : ℕ → Channel → Channel
channel_or j was = cond (ltb j channel_count) was no_channel

unfoldable pub channel_kept : ℕ → Channel → Channel → Channel
channel_kept j new was = cond (ltb j channel_count) new was

-- the channel and the unit of a frame, where `old` stands at the place of its file i
unfoldable pub channel_for : Frame → ℕ → File → ℕ
channel_for frame i old = channel_number frame (file_or i old).channel

unfoldable pub unit_for : Frame → ℕ → File → ℕ
unit_for frame i old = unit_number frame (file_or i old).unit
