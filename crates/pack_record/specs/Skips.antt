-- Skip on a whole state (document 01, "Refusal numbers", and "Files and buffers", Input). Assumes nothing.
use Rattle.std.specs.Prelude.{ℕ, Bool, not, ◌||◌, leb}
use Rattle.state.specs.declared.State.{State}
use Rattle.pool.specs.Free.{file_count}
use Rattle.state.specs.Places.{file_at}
use Rattle.state.specs.Stores.{with_file}
use Rattle.state_sound.specs.Soundness.{sound}
use Rattle.state.specs.Answers.{called}
use Rattle.file.specs.declared.FileChange.{FileChange}
use Rattle.state.specs.declared.Called.{Called}
use Rattle.call_record.specs.Skip.{skip_on}

-- 1: "an argument is outside its range, .. a state passed back is unsound"; skip takes no area
abbrev pub skip_misused : State → ℕ → Bool
skip_misused s file = leb file_count file || not (sound s)

-- what changes: the file of that number
abbrev pub skip_change : State → ℕ → FileChange
skip_change s file = skip_on (skip_misused s file) (file_at s file)

unfoldable pub skip_by : State → ℕ → Called
skip_by s file =
    let c = skip_change s file in
    called c.refusal s (with_file s file c.file)
