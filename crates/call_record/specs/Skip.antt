-- Skip (document 01, "Refusal numbers", and "Files and buffers", Input). Assumes nothing.
use Rattle.std.specs.Prelude.{ℕ, Bool, not, [], ◌∷◌}
use Rattle.area.specs.Refusals.{Rows, lowest}
use Rattle.file.specs.declared.File.{File}
use Rattle.file.specs.Fills.{without_oldest}
use Rattle.file_input.specs.Delivers.{has_full}
use Rattle.file.specs.Changes.{file_change}
use Rattle.file.specs.declared.FileChange.{FileChange}

-- 5: "file not open"; 6: "wrong direction: read, get, skip on an output file"; 9: "Ask write, skip: no full buffer"
unfoldable pub skip_rows : Bool → File → Rows
skip_rows wrong f = (1, wrong) ∷ (5, not f.opened) ∷ (6, f.output) ∷ (9, not (has_full f)) ∷ []

unfoldable pub skip_refusal : Bool → File → ℕ
skip_refusal wrong f = lowest (skip_rows wrong f)

-- ---- the effect: "Skip drops the oldest full block, used up or not."

unfoldable pub skip_on : Bool → File → FileChange
skip_on wrong f = file_change (skip_refusal wrong f) f (without_oldest f)
