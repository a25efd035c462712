-- Special routines as a machine: what is frozen, what runs and was interrupted, and what waits at each unit; and what the calls of a pack do to it
-- (document 02, M-110). Assumes nothing.
use Rattle.std.specs.Prelude.{◌≡◌, Bool, true, false, not, cond, ◌&&◌, List, [], ◌∷◌, map, ℕ, length}
use Rattle.routines.specs.declared.Due.{Due}
use Rattle.routines.specs.declared.Program.{Program}
use Rattle.routines.specs.declared.Programs.{Programs}
use Rattle.routines.specs.declared.Scheduled.{Scheduled}
use Rattle.routines.specs.Ranks.{depth, nothing_due, main_alone}
use Rattle.routines.specs.Waits.{Waits, is_unit, due_at, waits_at, with_due, highest}
use Rattle.routines.specs.Schedule.{look_of, given_back, none_runs}
use Rattle.routines.specs.Right.{due_right, programs_right, is_settled}

pub record Machine : Type 0 where
  pub frozen : Bool
  pub programs : Programs
  pub waits : Waits

-- a report that answers the request of a unit, and what that request names; a freeze, a thaw, a return, a fresh start. All other calls do nothing here.
pub data Event : Type 0 where
  answer : ℕ → ℕ → Due → Event
  freeze thaw return fresh : Event

-- ---- what a call does before the scheduler is at work

-- "A unit whose routine waits refuses a new ask with 8": it has no request that could be answered
unfoldable pub answers : Machine → ℕ → ℕ → Due → Bool
answers m c u d = is_unit m.waits c u && (not (waits_at m.waits c u) && due_right d)

-- "A fresh start drops waiting routines and the list; the main program runs."
unfoldable pub nothing_waits : Waits → Waits
nothing_waits w = map (map (λ (d : Due). nothing_due)) w

-- "An ask may name a routine and a priority 0 to 4, which becomes due when the request is answered."
abbrev pub made_due : Machine → ℕ → ℕ → Due → Machine
made_due m c u d = record { frozen = m.frozen; programs = m.programs; waits = with_due m.waits c u d }

abbrev pub with_freeze : Machine → Bool → Machine
with_freeze m frozen = record { frozen = frozen; programs = m.programs; waits = m.waits }

abbrev pub begun_afresh : Machine → Machine
begun_afresh m = record { frozen = false; programs = main_alone; waits = nothing_waits m.waits }

unfoldable pub prepared : Machine → Event → Machine
prepared m (answer c u d) = cond (answers m c u d) (made_due m c u d) m
prepared m freeze = with_freeze m true
prepared m thaw = with_freeze m false
prepared m return = m
prepared m fresh = begun_afresh m

-- ---- the scheduler

-- "Looks are made after a report that answers a request .., after a thaw's starts, and at no other time"; "Refused 18 exactly if the main program runs"
pub data Act : Type 0 where
  looks returns rests : Act

unfoldable pub act_of : Machine → Event → Act
act_of m (answer c u d) = cond (answers m c u d) looks rests
act_of m freeze = rests
act_of m thaw = looks
act_of m return = cond (none_runs m.programs) rests returns
act_of m fresh = rests

abbrev pub scheduled : Act → Machine → Scheduled
scheduled looks m = look_of m.programs m.frozen (highest m.waits)
scheduled returns m = given_back m.programs m.frozen (highest m.waits)
scheduled rests m = record { entered = false; programs = m.programs }

-- "Entering clears it from the unit"
unfoldable pub cleared : Scheduled → Waits → Waits
cleared r w = cond r.entered (with_due w r.programs.running.channel r.programs.running.unit nothing_due) w

unfoldable pub after : Scheduled → Machine → Machine
after r m = record { frozen = m.frozen; programs = r.programs; waits = cleared r m.waits }

-- one call
unfoldable pub step : Machine → Event → Machine
step m e = after (scheduled (act_of m e) (prepared m e)) (prepared m e)

-- ---- when it is sound

pub record Sound (m : Machine) : Type 0 where
  -- the list has its four places; priorities rise strictly from its bottom to what runs, the main program at the bottom exactly if a routine runs
  pub places : length m.programs.pushed ≡ depth
  pub programs : programs_right m.programs ≡ true
  -- levels in range
  pub dues : (c u : ℕ) → due_right (due_at m.waits c u) ≡ true
  -- "if not frozen, no waiting routine is above what runs unless the list is full"
  pub settled : is_settled m.programs m.frozen (highest m.waits) ≡ true
