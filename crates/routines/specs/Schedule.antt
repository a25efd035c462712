-- The program scheduler (the manual, "Program Priorities"; document 02, M-110): a look and a return. `best` is the highest waiting routine.
-- Assumes nothing.
use Rattle.std.specs.Prelude.{ℕ, ◌+◌, ◌-◌, Bool, true, false, not, cond, ◌&&◌, ltb, get_or, set}
use Rattle.routines.specs.declared.Program.{Program}
use Rattle.routines.specs.declared.Programs.{Programs}
use Rattle.routines.specs.declared.Scheduled.{Scheduled}
use Rattle.routines.specs.Ranks.{depth, main_program, is_main}

-- "a due routine of higher priority than the one in progress is entered"; "With a full list, depth four here, nothing is interrupted; while frozen
-- nothing enters"
unfoldable pub enters : Programs → Bool → Program → Bool
enters p frozen best = not frozen && (ltb p.running.rank best.rank && ltb p.count depth)

-- "and the interrupted one goes on a push-down list"
unfoldable pub interrupted_by : Programs → Program → Programs
interrupted_by p best = record { running = best; pushed = set p.pushed p.count p.running; count = p.count + 1 }

unfoldable pub look_of : Programs → Bool → Program → Scheduled
look_of p frozen best =
    cond (enters p frozen best)
    (record { entered = true; programs = interrupted_by p best })
    (record { entered = false; programs = p })

-- "the program last pushed"
abbrev pub last_pushed : Programs → Program
last_pushed p = get_or p.pushed (p.count - 1) main_program

-- "On a return, the highest waiting routine is entered if it is above the program last pushed"; "while frozen nothing enters"
unfoldable pub enters_on_return : Programs → Bool → Program → Bool
enters_on_return p frozen best = not frozen && ltb (last_pushed p).rank best.rank

-- the list stays
abbrev pub replaced_by : Programs → Program → Programs
replaced_by p best = record { running = best; pushed = p.pushed; count = p.count }

-- "otherwise that program resumes": it leaves the list
unfoldable pub resumed_of : Programs → Programs
resumed_of p = record { running = last_pushed p; pushed = set p.pushed (p.count - 1) main_program; count = p.count - 1 }

unfoldable pub given_back : Programs → Bool → Program → Scheduled
given_back p frozen best =
    cond (enters_on_return p frozen best)
    (record { entered = true; programs = replaced_by p best })
    (record { entered = false; programs = resumed_of p })

-- "refused 18 with none running"
abbrev pub none_runs : Programs → Bool
none_runs p = is_main p.running
