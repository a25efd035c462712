-- Return and what runs, on the routines alone (document 02, M-110): their rows of the refusal table and what changes. Assumes nothing.
use Rattle.std.specs.Prelude.{ℕ, Bool, false, cond, [], ◌∷◌, eqb}
use Rattle.area.specs.Refusals.{Rows, lowest}
use Rattle.routines.specs.declared.Routines.{Routines}
use Rattle.routines.specs.Ranks.{main_program}
use Rattle.routines.specs.Schedule.{none_runs}
use Rattle.routines.specs.Changes.{gave_back_in}
use Rattle.pack_routine.specs.declared.RoutineChange.{RoutineChange}

-- "A refusal returns the number alone and changes nothing."
abbrev pub refused_change : ℕ → Routines → RoutineChange
refused_change refusal r = record { refusal = refusal; entered = false; program = main_program; routines = r }

-- ---- return: "the routine that runs is gone"

-- its rows; `wrong` is what row 1 says of the state
unfoldable pub return_rows : Bool → Routines → Rows
return_rows wrong r =
    -- "1 for an unsound state comes first"
    (1, wrong) ∷
    -- "Returns are the operator's, refused 18 with none running."
    (18, none_runs r.programs) ∷
    []

abbrev pub return_refusal : Bool → Routines → ℕ
return_refusal wrong r = lowest (return_rows wrong r)

-- "On a return, the highest waiting routine is entered if it is above the program last pushed, otherwise that program resumes."; "In a freeze a return
-- resumes."; return "adds 01 if a waiting routine was entered or 00 if the pushed program resumed, then channel, unit and number of what runs now"
unfoldable pub return_on : Bool → Bool → Routines → RoutineChange
return_on wrong frozen r =
    let refusal = return_refusal wrong r in
    let back = gave_back_in r frozen in
    cond (eqb refusal 0)
    (record { refusal = 0; entered = back.entered; program = back.routines.programs.running; routines = back.routines })
    (refused_change refusal r)

-- ---- what runs: "refused only for an unsound state, and changes nothing"

unfoldable pub running_rows : Bool → Rows
running_rows wrong = (1, wrong) ∷ []

abbrev pub running_refusal : Bool → ℕ
running_refusal wrong = lowest (running_rows wrong)

unfoldable pub running_on : Bool → Routines → RoutineChange
running_on wrong r =
    let refusal = running_refusal wrong in
    cond (eqb refusal 0)
    (record { refusal = 0; entered = false; program = r.programs.running; routines = r })
    (refused_change refusal r)
