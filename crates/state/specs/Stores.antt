-- Replacements in a state (document 01, "Sizes"). Assumes nothing.
use Rattle.std.specs.Prelude.{ℕ, get_or, set}
use Rattle.channel.specs.declared.Channel.{Channel}
use Rattle.file.specs.declared.File.{File}
use Rattle.file.specs.Sizes.{closed_file}
use Rattle.pool.specs.Masks.{free_after}
use Rattle.routines.specs.declared.Routines.{Routines}
use Rattle.state.specs.declared.State.{State}
use Rattle.state.specs.Places.{file_at}

-- the state with another file in the place of a number; as it is past the last. The free buffers follow what stood there and what stands there.
unfoldable pub with_file : State → ℕ → File → State
with_file s i f =
    let fs = set s.files i f in
    record { m = s.m; w = s.w; frozen = s.frozen; channels = s.channels; files = fs; free = free_after s.free (file_at s i) (get_or fs i closed_file); routines = s.routines }

-- the state with another channel in the place of a number; as it is past the last
unfoldable pub with_channel : State → ℕ → Channel → State
with_channel s c x = record { m = s.m; w = s.w; frozen = s.frozen; channels = set s.channels c x; files = s.files; free = s.free; routines = s.routines }

-- the state with other routines
unfoldable pub with_routines : State → Routines → State
with_routines s r = record { m = s.m; w = s.w; frozen = s.frozen; channels = s.channels; files = s.files; free = s.free; routines = r }
