-- A worked example, from a fresh start of five channels of ten units: a routine is interrupted by a higher one, the list fills, a full list keeps a 4 out, a freeze
-- holds routines back, a thaw enters the first of them, and programs resume in the reverse order. Assumes nothing.
use Rattle.std.specs.Prelude.{Bool, true, false, List, [], ◌∷◌, map, ℕ, replicate}
use Rattle.routines.specs.declared.Due.{Due}
use Rattle.routines.specs.declared.Program.{Program}
use Rattle.routines.specs.Ranks.{nothing_due, rank_of, main_alone, list_of}
use Rattle.routines.specs.Waits.{highest}
use Rattle.routines_theorems.specs.Machine.{Machine, Event, answer, freeze, thaw, return, fresh, step}

-- after a fresh start
unfoldable pub begun : Machine
begun = record { frozen = false; programs = main_alone; waits = replicate 5 (replicate 10 nothing_due) }

-- a request that names the routine of that number, with its priority
abbrev pub naming : ℕ → ℕ → Due
naming priority routine = record { rank = rank_of priority; routine = routine }

-- what is seen after a call: the number of the routine that runs, those of the push-down list, the last one pushed first, and that of the highest which waits.
-- The main program, and none, is 0.
pub record Seen : Type 0 where
  pub runs : ℕ
  pub list : List ℕ
  pub waits : ℕ

abbrev pub seen : ℕ → List ℕ → ℕ → Seen
seen runs list waits = record { runs = runs; list = list; waits = waits }

abbrev pub seen_of : Machine → Seen
seen_of m = seen m.programs.running.routine (map (λ (p : Program). p.routine) (list_of m.programs)) (highest m.waits).routine

-- a call, and what is seen after it
pub record Line : Type 0 where
  pub call : Event
  pub shows : Seen

abbrev pub line : Event → ℕ → List ℕ → ℕ → Line
line e runs list waits = record { call = e; shows = seen runs list waits }

-- Routine 10 has priority 0, 11 has 1, and so on to 14, which has 4; 24 and 34 have 4 too.
unfoldable pub worked : List Line
worked =
    -- a routine interrupts the main program, and a higher one that routine
    line (answer 0 0 (naming 0 10)) 10 (0 ∷ []) 0
    ∷ line (answer 0 1 (naming 1 11)) 11 (10 ∷ 0 ∷ []) 0
    -- one that is not higher waits
    ∷ line (answer 4 9 (naming 1 21)) 11 (10 ∷ 0 ∷ []) 21
    -- the list fills: main, 0, 1, 2 below a running 3
    ∷ line (answer 1 0 (naming 2 12)) 12 (11 ∷ 10 ∷ 0 ∷ []) 21
    ∷ line (answer 1 1 (naming 3 13)) 13 (12 ∷ 11 ∷ 10 ∷ 0 ∷ []) 21
    -- a full list keeps a 4 out
    ∷ line (answer 2 0 (naming 4 14)) 13 (12 ∷ 11 ∷ 10 ∷ 0 ∷ []) 14
    -- on a return it is above the program last pushed: it is entered, and the list stays
    ∷ line return 14 (12 ∷ 11 ∷ 10 ∷ 0 ∷ []) 21
    -- on the next return that program resumes
    ∷ line return 12 (11 ∷ 10 ∷ 0 ∷ []) 21
    -- a freeze holds two routines back
    ∷ line freeze 12 (11 ∷ 10 ∷ 0 ∷ []) 21
    ∷ line (answer 3 1 (naming 4 24)) 12 (11 ∷ 10 ∷ 0 ∷ []) 24
    ∷ line (answer 2 7 (naming 4 34)) 12 (11 ∷ 10 ∷ 0 ∷ []) 34
    -- a thaw enters the one of the lower channel
    ∷ line thaw 34 (12 ∷ 11 ∷ 10 ∷ 0 ∷ []) 24
    ∷ line return 24 (12 ∷ 11 ∷ 10 ∷ 0 ∷ []) 21
    -- programs resume in the reverse order; what is as high as the program last pushed waits
    ∷ line return 12 (11 ∷ 10 ∷ 0 ∷ []) 21
    ∷ line return 11 (10 ∷ 0 ∷ []) 21
    -- 21 is above 10, which was interrupted first
    ∷ line return 21 (10 ∷ 0 ∷ []) 0
    ∷ line return 10 (0 ∷ []) 0
    ∷ line return 0 [] 0
    -- with none running a return does nothing
    ∷ line return 0 [] 0
    ∷ []

-- what is seen after each of the calls
unfoldable pub shown : Machine → List Event → List Seen
shown m [] = []
shown m (e ∷ h) = seen_of (step m e) ∷ shown (step m e) h
