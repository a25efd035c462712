-- Close (document 01, "Files and buffers"). Assumes nothing.
use Rattle.std.specs.Prelude.{ℕ, Bool, not, [], ◌∷◌}
use Rattle.area.specs.Refusals.{Rows, lowest}
use Rattle.channel.specs.declared.Channel.{Channel}
use Rattle.channel.specs.Units.{has_request}
use Rattle.file.specs.declared.File.{File}
use Rattle.file.specs.Sizes.{closed_file}
use Rattle.file_output.specs.Sends.{has_unsent}
use Rattle.file.specs.declared.FileChange.{FileChange}
use Rattle.file.specs.Changes.{file_change}

-- ---- its refusals

-- of whether row 1 applies, the file of that number, and the channel of its unit. A file that is not open has no unit; row 5 comes before
-- the rows that ask for one.
unfoldable pub close_rows : Bool → File → Channel → Rows
close_rows c1 f c =
    -- "an argument is outside its range", "a state passed back is unsound"
    (1, c1)
    -- "file not open"
    ∷ (5, not f.opened)
    -- "ask, close: the file's unit has an unanswered request"
    ∷ (8, has_request c f.unit)
    -- "close, ask mark: an output buffer is part-filled or full"
    ∷ (15, has_unsent f)
    ∷ []

abbrev pub close_refusal : Bool → File → Channel → ℕ
close_refusal c1 f c = lowest (close_rows c1 f c)

-- ---- its effect

-- "Closing gives all back; unread input blocks are dropped."
unfoldable pub close_on : Bool → File → Channel → FileChange
close_on c1 f c = file_change (close_refusal c1 f c) f closed_file
