-- Close on a whole state (document 01, "Files and buffers"): what row 1 says of it, and the state after the call. Assumes nothing.
use Rattle.std.specs.Prelude.{ℕ, Bool, not, ◌||◌, leb}
use Rattle.pool.specs.Free.{file_count}
use Rattle.state.specs.declared.State.{State}
use Rattle.state.specs.Places.{file_at, channel_at}
use Rattle.state.specs.Stores.{with_file}
use Rattle.state_sound.specs.Soundness.{sound}
use Rattle.state.specs.declared.Called.{Called}
use Rattle.file.specs.declared.FileChange.{FileChange}
use Rattle.state.specs.Answers.{called}
use Rattle.call_open.specs.Close.{close_on}

-- row 1: "Files 0 to 15", a sound state
abbrev pub close_off : State → ℕ → Bool
close_off s file = leb file_count file || not (sound s)

-- what the close of a state comes to for the file of that number
abbrev pub close_change : State → ℕ → FileChange
close_change s file = close_on (close_off s file) (file_at s file) (channel_at s (file_at s file).channel)

unfoldable pub close_by : State → ℕ → Called
close_by s file = let x = close_change s file in called x.refusal s (with_file s file x.file)
