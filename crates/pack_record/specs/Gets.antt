-- Get on a whole state (document 01, "Refusal numbers", and "Files and buffers", Input). Assumes nothing.
use Rattle.std.specs.Prelude.{ℕ, cond, List, eqb, length}
use Rattle.file_input.specs.Histories.{shown}
use Rattle.state.specs.declared.State.{State}
use Rattle.state.specs.Places.{file_at}
use Rattle.state.specs.Stores.{with_file}
use Rattle.pack_record.specs.Misused.{misused}
use Rattle.call_record.specs.declared.GetChange.{GetChange}
use Rattle.pack_record.specs.declared.Getting.{Getting}
use Rattle.call_record.specs.Get.{get_on}

-- what changes: the file of that number
abbrev pub get_change : State → List ℕ → ℕ → GetChange
get_change s area file = get_on (misused s (length area) file) (file_at s file) s.w area

unfoldable pub get_by : State → List ℕ → ℕ → Getting
get_by s area file =
    let c = get_change s area file in
    record { refusal = c.refusal; got = c.got; state = cond (eqb c.refusal 0) (with_file s file c.file) s }

-- "the next r words, as a part of the area": the words that the answer shows
unfoldable pub get_words : State → List ℕ → ℕ → List ℕ
get_words s area file = shown area (get_by s area file).got
