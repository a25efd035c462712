-- Seal (document 01, "Refusal numbers", and "Files and buffers", Output). Assumes nothing.
use Rattle.std.specs.Prelude.{ℕ, Bool, not, cond, ◌&&◌, List, [], ◌∷◌, eqb}
use Rattle.area.specs.Refusals.{Rows, lowest}
use Rattle.file.specs.declared.File.{File}
use Rattle.file_output.specs.Parts.{has_part, sealed_file}
use Rattle.file.specs.Changes.{file_change}
use Rattle.file.specs.declared.FileChange.{FileChange}
use Rattle.call_record.specs.Blocks.{held_right, sealed_area}

-- ---- the refusal

-- a seal that is taken and sums the block's words: check sums are chosen
abbrev pub seal_sums : File → Bool
seal_sums f = f.opened && (f.output && (has_part f && f.check))

-- 2: "a buffer word that the call sums .., is 2^36 or more"; 5: "file not open"; 6: "wrong direction: .. write, mark, put, seal on an input file";
-- 9: "Seal: no part-filled buffer"
unfoldable pub seal_rows : Bool → File → ℕ → List ℕ → Rows
seal_rows wrong f w area =
    (1, wrong) ∷
    (2, seal_sums f && not (held_right w f area)) ∷
    (5, not f.opened) ∷
    (6, not f.output) ∷
    (9, not (has_part f)) ∷
    []

unfoldable pub seal_refusal : Bool → File → ℕ → List ℕ → ℕ
seal_refusal wrong f w area = lowest (seal_rows wrong f w area)

-- ---- the effect: "it gets its check word and is full. Seal does this early."

-- on one file: "A refusal returns the number alone and changes nothing."
unfoldable pub seal_on : Bool → File → ℕ → List ℕ → FileChange
seal_on wrong f w area = file_change (seal_refusal wrong f w area) f (sealed_file f)

unfoldable pub seal_on_area : Bool → File → ℕ → List ℕ → List ℕ
seal_on_area wrong f w area = cond (eqb (seal_refusal wrong f w area) 0) (sealed_area w f area) area
