-- Put (document 01, "Refusal numbers", and "Files and buffers", Output). Assumes nothing.
use Rattle.std.specs.Prelude.{ℕ, Bool, not, cond, ◌&&◌, ◌||◌, List, [], ◌∷◌, eqb, length}
use Rattle.area.specs.Lists.{all_of}
use Rattle.area.specs.Parts.{is_word, pasted_in}
use Rattle.area.specs.Refusals.{Rows, lowest}
use Rattle.file.specs.declared.File.{File}
use Rattle.file_output.specs.Puts.{has_room, put_start, added, after_put}
use Rattle.file_output.specs.Parts.{is_complete}
use Rattle.file.specs.Changes.{file_change}
use Rattle.file.specs.declared.FileChange.{FileChange}
use Rattle.call_record.specs.Blocks.{held_right, sealed_area}

-- ---- the refusal

-- a put of n words that is taken: the file is an open output file, there is room, and the words are exactly r
abbrev pub is_put_taken : File → ℕ → Bool
is_put_taken f n = f.opened && (f.output && (has_room f && eqb n f.rlen))

-- it sums the block's words: it seals the block, and "That folded sum fills the first 18 bits if check sums are chosen"
abbrev pub sums : File → ℕ → Bool
sums f n = is_put_taken f n && (is_complete (added f) && f.check)

-- 2: "a given word, or a buffer word that the call sums .., is 2^36 or more"; 5: "file not open"; 6: "wrong direction: .. write, mark, put, seal on
-- an input file"; 9: "Put: no part-filled or empty buffer"; 13: "a size does not fit: .. put" ("exactly r words (else 13)")
unfoldable pub put_rows : Bool → File → ℕ → List ℕ → List ℕ → Rows
put_rows wrong f w area words =
    (1, wrong) ∷
    (2, not (all_of is_word words) || (sums f (length words) && not (held_right w f area))) ∷
    (5, not f.opened) ∷
    (6, not f.output) ∷
    (9, not (has_room f)) ∷
    (13, not (eqb (length words) f.rlen)) ∷
    []

unfoldable pub put_refusal : Bool → File → ℕ → List ℕ → List ℕ → ℕ
put_refusal wrong f w area words = lowest (put_rows wrong f w area words)

-- ---- the effect, first the words, then the seal

-- "adds them to the part-filled buffer, or to the lowest empty one"
unfoldable pub filled_area : ℕ → File → List ℕ → List ℕ → List ℕ
filled_area w f words area = pasted_in (put_start w f) words area

-- "If less than r then remains of B, the block is sealed at once: it gets its check word and is full."
unfoldable pub put_area : ℕ → File → List ℕ → List ℕ → List ℕ
put_area w f words area = cond (is_complete (added f)) (sealed_area w (added f) (filled_area w f words area)) (filled_area w f words area)

-- on one file: "A refusal returns the number alone and changes nothing."
unfoldable pub put_on : Bool → File → ℕ → List ℕ → List ℕ → FileChange
put_on wrong f w area words = file_change (put_refusal wrong f w area words) f (after_put f)

unfoldable pub put_on_area : Bool → File → ℕ → List ℕ → List ℕ → List ℕ
put_on_area wrong f w area words = cond (eqb (put_refusal wrong f w area words) 0) (put_area w f words area) area
