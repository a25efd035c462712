-- Put on a whole state (document 01, "Refusal numbers", and "Files and buffers", Output). Assumes nothing.
use Rattle.std.specs.Prelude.{ℕ, List, length}
use Rattle.state.specs.declared.State.{State}
use Rattle.state.specs.Places.{file_at}
use Rattle.state.specs.Stores.{with_file}
use Rattle.pack_record.specs.Misused.{misused}
use Rattle.state.specs.Answers.{called}
use Rattle.file.specs.declared.FileChange.{FileChange}
use Rattle.state.specs.declared.Called.{Called}
use Rattle.call_record.specs.Put.{put_on, put_on_area}

-- what changes: the file of that number
abbrev pub put_change : State → List ℕ → ℕ → List ℕ → FileChange
put_change s area file words = put_on (misused s (length area) file) (file_at s file) s.w area words

unfoldable pub put_by : State → List ℕ → ℕ → List ℕ → Called
put_by s area file words =
    let c = put_change s area file words in
    called c.refusal s (with_file s file c.file)

unfoldable pub put_by_area : State → List ℕ → ℕ → List ℕ → List ℕ
put_by_area s area file words = put_on_area (misused s (length area) file) (file_at s file) s.w area words
