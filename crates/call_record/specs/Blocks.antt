-- What put and seal share: the words that a part-filled buffer holds, and a block sealed where it lies. Assumes nothing.
use Rattle.std.specs.Prelude.{ℕ, Bool, List}
use Rattle.area.specs.Lists.{all_of}
use Rattle.area.specs.Parts.{is_word, part_of, paste}
use Rattle.block.specs.Blocks.{sealed_block}
use Rattle.file.specs.declared.File.{File}
use Rattle.file_output.specs.Parts.{part_start, part_length}

-- the words that the part-filled buffer holds are all below 2^36
abbrev pub held_right : ℕ → File → List ℕ → Bool
held_right w f area = all_of is_word (part_of (part_start w f) (part_length f) area)

-- a block of n data words sealed in the buffer of w words that begins at word `at`: "A block lies from the first word of its buffer, check word last."
unfoldable pub sealed_in : ℕ → ℕ → ℕ → Bool → Bool → ℕ → List ℕ → List ℕ
sealed_in at w n sequence check number area = paste at (sealed_block (part_of at w area) n sequence check number) area

-- the part-filled block of a file, sealed where it lies
unfoldable pub sealed_area : ℕ → File → List ℕ → List ℕ
sealed_area w f area = sealed_in (part_start w f) w (part_length f) f.sequence f.check f.block area
