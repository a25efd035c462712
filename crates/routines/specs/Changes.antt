-- What the calls of a pack do to its routines (document 02, M-110). Assumes nothing.
use Rattle.std.specs.Prelude.{ℕ, Bool, cond}
use Rattle.routines.specs.declared.Due.{Due}
use Rattle.routines.specs.declared.Scheduled.{Scheduled}
use Rattle.routines.specs.declared.Routines.{Routines}
use Rattle.routines.specs.declared.Back.{Back}
use Rattle.routines.specs.Ranks.{nothing_due, is_due}
use Rattle.routines.specs.Waits.{highest}
use Rattle.routines.specs.Schedule.{look_of, given_back}
use Rattle.routines.specs.Posts.{post_at, waits_of, with_programs, with_post}

-- "An ask may name a routine": the request of the unit names it
unfoldable pub asked_in : Routines → ℕ → ℕ → Due → Routines
asked_in r c u d = with_post r c u (record { named = d; due = (post_at r c u).due })

-- "which becomes due when the request is answered": then no request names it
unfoldable pub made_due_in : Routines → ℕ → ℕ → Routines
made_due_in r c u = with_post r c u (record { named = nothing_due; due = (post_at r c u).named })

-- what is entered waits no longer
unfoldable pub cleared_in : Routines → ℕ → ℕ → Routines
cleared_in r c u = with_post r c u (record { named = (post_at r c u).named; due = nothing_due })

-- what the scheduler did
unfoldable pub scheduled_in : Routines → Scheduled → Routines
scheduled_in r s = cond s.entered (cleared_in (with_programs r s.programs) s.programs.running.channel s.programs.running.unit) (with_programs r s.programs)

-- a look
unfoldable pub looked_in : Routines → Bool → Routines
looked_in r frozen = scheduled_in r (look_of r.programs frozen (highest (waits_of r)))

-- a report that answers the request of a unit, and the look after it: where the request names no routine, there is nothing to look for
unfoldable pub answered_in : Routines → Bool → ℕ → ℕ → Routines
answered_in r frozen c u = cond (is_due (post_at r c u).named) (looked_in (made_due_in r c u) frozen) r

-- a return of the routine that runs
unfoldable pub gave_back_in : Routines → Bool → Back
gave_back_in r frozen =
    let s = given_back r.programs frozen (highest (waits_of r)) in
    record { entered = s.entered; routines = scheduled_in r s }
