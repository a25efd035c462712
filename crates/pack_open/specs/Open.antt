-- Open on a whole state (document 01, "Files and buffers"): what row 1 says of it, and the state after the call. Assumes nothing.
use Rattle.std.specs.Prelude.{ℕ, Bool, not, ◌||◌, leb, ltb}
use Rattle.channel.specs.Units.{unit_count}
use Rattle.pool.specs.Free.{file_count, free_of}
use Rattle.pool.specs.Serving.{is_bound}
use Rattle.state.specs.declared.State.{State}
use Rattle.state.specs.Places.{channel_count, file_at, channel_at}
use Rattle.state.specs.Stores.{with_file}
use Rattle.state_sound.specs.Soundness.{sound}
use Rattle.state.specs.declared.Called.{Called}
use Rattle.file.specs.declared.FileChange.{FileChange}
use Rattle.state.specs.Answers.{called}
use Rattle.call_open.specs.Open.{all_flags, wish_of, open_on}

-- row 1: "Files 0 to 15", "Channels 0 to 4", "Units 0 to 9", four flags, a sound state
abbrev pub open_off : State → ℕ → ℕ → ℕ → ℕ → Bool
open_off s file channel unit flags =
    leb file_count file || (leb channel_count channel || (leb unit_count unit || (ltb all_flags flags || not (sound s))))

-- what the open of a state comes to for the file of that number
abbrev pub open_change : State → ℕ → ℕ → ℕ → ℕ → ℕ → ℕ → FileChange
open_change s file channel unit flags size rlen =
    open_on (open_off s file channel unit flags) (is_bound s.files channel unit) (file_at s file) (channel_at s channel)
    (free_of s.m s.files) s.w (wish_of channel unit flags size rlen)

unfoldable pub open_by : State → ℕ → ℕ → ℕ → ℕ → ℕ → ℕ → Called
open_by s file channel unit flags size rlen =
    let x = open_change s file channel unit flags size rlen in
    called x.refusal s (with_file s file x.file)
