-- An answer in two pieces, the bytes ahead of its words and the words. Assumes nothing.
use Rattle.std.specs.Prelude.{Bool, true, false, cond, List, [], ◌∷◌, ◌++◌, ℕ, take, replicate}
use Rattle.word.specs.declared.Checked.{Checked}
use Rattle.routines.specs.declared.Program.{Program}
use Rattle.session_frame.specs.Fields.{found_bytes, program_bytes}
use Rattle.session_frame.specs.declared.Answer.{Answer}
use Rattle.session_frame.specs.declared.Answer.TheVariants.{Refused, Done, Asked, Reported, Delivered, Got, GotError, Returned, Runs}
use Rattle.session_frame.specs.declared.Lead.{Lead}

-- at most four bytes, the third of them zero
abbrev pub brief_lead : ℕ → ℕ → ℕ → ℕ → Bool → Lead
brief_lead count first second fourth worded =
    record { count = count; bytes = first ∷ second ∷ 0 ∷ fourth ∷ replicate 12 0; worded = worded }

-- with what was found, and one byte more
abbrev pub full_lead : ℕ → ℕ → Checked → ℕ → Lead
full_lead count second found last =
    record { count = count; bytes = 0 ∷ second ∷ found.error ∷ (found_bytes found ++ (last ∷ [])); worded = false }

-- with what runs: of a return, and alone
abbrev pub returned_lead : Bool → Program → Lead
returned_lead entered program = record { count = 5; bytes = 0 ∷ cond entered 1 0 ∷ (program_bytes program ++ replicate 11 0); worded = false }

abbrev pub runs_lead : Program → Lead
runs_lead program = record { count = 4; bytes = 0 ∷ (program_bytes program ++ replicate 12 0); worded = false }

abbrev pub lead_of : Answer → Lead
lead_of (Refused n) = brief_lead 1 n 0 0 false
lead_of Done = brief_lead 1 0 0 0 false
lead_of (Asked working) = brief_lead 2 0 working 0 false
lead_of (Reported result working) = brief_lead 4 0 result working true
lead_of (Delivered result found working) = full_lead 16 result found working
lead_of (Got number) = brief_lead 2 0 number 0 true
lead_of (GotError number found) = full_lead 15 number found 0
lead_of (Returned entered program) = returned_lead entered program
lead_of (Runs program) = runs_lead program

-- the bytes that count
unfoldable pub lead_bytes : Lead → List ℕ
lead_bytes l = take l.count l.bytes

-- the words that are shown: all or none
abbrev pub shown_of : Bool → List ℕ → List ℕ
shown_of worded ws = cond worded ws []
