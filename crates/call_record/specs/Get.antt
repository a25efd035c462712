-- Get (document 01, "Refusal numbers", and "Files and buffers", Input). Assumes nothing.
use Rattle.std.specs.Prelude.{ℕ, Bool, not, cond, ◌&&◌, List, [], ◌∷◌, eqb}
use Rattle.area.specs.Lists.{all_of}
use Rattle.area.specs.Parts.{is_word}
use Rattle.area.specs.Refusals.{Rows, lowest}
use Rattle.file.specs.declared.File.{File}
use Rattle.file_input.specs.declared.Got.{Got}
use Rattle.file_input.specs.declared.Got.TheVariants.{Record}
use Rattle.file_input.specs.Gets.{get_from}
use Rattle.file_input.specs.Histories.{shown}
use Rattle.call_record.specs.declared.GetChange.{GetChange}

-- ---- the refusal

-- a file out of which get hands words
abbrev pub gives_out : File → Bool
gives_out f = f.opened && not f.output

-- The rows of get, for the answer g that it would give. 2: "a buffer word that the call .. hands out, is 2^36 or more": a word of the record or
-- leftover; 5: "file not open"; 6: "wrong direction: read, get, skip on an output file".
unfoldable pub get_rows : Bool → File → Got → List ℕ → Rows
get_rows wrong f g area =
    (1, wrong) ∷
    (2, gives_out f && not (all_of is_word (shown area g))) ∷
    (5, not f.opened) ∷
    (6, f.output) ∷
    []

unfoldable pub get_refusal : Bool → File → Got → List ℕ → ℕ
get_refusal wrong f g area = lowest (get_rows wrong f g area)

-- ---- the effect

-- the answer of a refusal: all zero, no words
abbrev pub no_answer : Got
no_answer = Record 0 0

-- on one file: "A refusal returns the number alone and changes nothing."
unfoldable pub get_on : Bool → File → ℕ → List ℕ → GetChange
get_on wrong f w area =
    let refusal = get_refusal wrong f (get_from w f).got area in
    record {
      refusal = refusal;
      got = cond (eqb refusal 0) (get_from w f).got no_answer;
      file = cond (eqb refusal 0) (get_from w f).file f;
    }
