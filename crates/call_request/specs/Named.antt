-- What an ask and a report make of the routines (document 02, M-110): "An ask may name a routine and a priority 0 to 4, which becomes due when the request
-- is answered." Assumes nothing.
use Rattle.std.specs.Prelude.{ℕ, Bool, not, cond, ◌||◌, eqb}
use Rattle.routines.specs.declared.Naming.{Naming}
use Rattle.routines.specs.declared.Routines.{Routines}
use Rattle.routines.specs.Posts.{due_of}
use Rattle.routines.specs.Changes.{asked_in, answered_in}

-- after an accepted ask for unit u of channel c: its request names the routine, or none
abbrev pub asked_routines : Routines → ℕ → ℕ → Naming → Routines
asked_routines r c u naming = asked_in r c u (due_of naming)

-- "results are 00 repeated, .."; "the report's result is 07 in place of 00" (document 02, M-106): every other result answers the request
abbrev pub answers_request : ℕ → Bool
answers_request result = not (eqb result 0 || eqb result 7)

-- after a report of unit u of channel c with that result: what the answered request names becomes due, and the scheduler looks
unfoldable pub reported_routines : Routines → Bool → ℕ → ℕ → ℕ → Routines
reported_routines r frozen c u result = cond (answers_request result) (answered_in r frozen c u) r
