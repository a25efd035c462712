-- Worked examples of special routines (document 02, M-110), played by the pack's own calls. `nested`: a routine is interrupted by a higher one, the list fills, and a full
-- list keeps a 4 out. `waited`: one that is not higher waits, its unit refuses an ask with 8, a return enters it and the next one resumes. `held`: a freeze holds a routine
-- back, a thaw enters it, and programs resume in the reverse order. Assumes nothing.
use Rattle.std.specs.Prelude.{ℕ, true, false, List, [], ◌∷◌, replicate, None}
use Rattle.channel_outcomes.specs.Rules.{good, no_length}
use Rattle.routines.specs.declared.Program.{Program}
use Rattle.routines.specs.Ranks.{rank_of, main_program}
use Rattle.pack.specs.Calls.{Call, fresh, opening, ask, report, freeze, thaw, return, running, working, reported, returned, runs}
use Rattle.demands.specs.Witness.{told, Step, so, done}

-- the file of a number is opened on the unit of the same number of channel 0, to write, with B = r = 1
abbrev pub opens : ℕ → Step
opens file = so (opening file 0 file 1 1 1) done

-- a mark on it that names the routine of a number, with a priority
abbrev pub names : ℕ → ℕ → ℕ → Call
names file routine level = ask file 2 0 (record { given = true; routine = routine; level = level })

abbrev pub asks : ℕ → ℕ → ℕ → Step
asks file routine level = so (names file routine level) (told 0 (working file) [])

-- and its answer
abbrev pub answered : ℕ → Step
answered unit = so (report 0 unit good no_length []) (told 0 (reported 1 None 255) [])

-- the routine of a unit, with its number and priority
abbrev pub routine : ℕ → ℕ → ℕ → Program
routine unit number level = record { rank = rank_of level; channel = 0; unit = unit; routine = number }

-- what runs, when it is asked for
abbrev pub now : Program → Step
now p = so running (told 0 (runs p) [])

-- a return enters a waiting routine, or resumes
abbrev pub enters : Program → Step
enters p = so return (told 0 (returned true p) [])

abbrev pub back : Program → Step
back p = so return (told 0 (returned false p) [])

-- refused: none runs
abbrev pub nobody : Step
nobody = so return (told 18 (returned false main_program) [])

-- a fresh start that declares units 0 and 1 of channel 0, with a buffer of one word for each file
abbrev pub begins : Step
begins = so (fresh 2 1 (record { a = 3; b = 0; c = 0; d = 0; e = 0 })) done

unfoldable pub nested : List Step
nested =
    begins ∷ opens 0 ∷ opens 1
    -- a routine interrupts the main program, and higher ones that: main, 0, 1, 2 below a running 3; a unit takes asks again while its routine runs
    ∷ asks 0 10 0 ∷ answered 0
    ∷ asks 1 11 1 ∷ answered 1
    ∷ asks 0 12 2 ∷ answered 0
    ∷ asks 1 13 3 ∷ answered 1
    -- the full list keeps a 4 out
    ∷ asks 0 14 4 ∷ answered 0 ∷ now (routine 1 13 3)
    ∷ []

unfoldable pub waited : List Step
waited =
    begins ∷ opens 0 ∷ opens 1
    ∷ asks 0 10 3 ∷ answered 0
    -- one that is not higher waits; its unit refuses an ask
    ∷ asks 1 11 2 ∷ answered 1 ∷ now (routine 0 10 3)
    ∷ so (names 1 12 2) (told 8 (working 0) [])
    -- on a return it is above the program last pushed, and is entered; on the next one that program resumes
    ∷ enters (routine 1 11 2) ∷ back main_program
    ∷ []

unfoldable pub held : List Step
held =
    begins ∷ opens 0 ∷ opens 1 ∷ now main_program ∷ nobody
    -- "a priority 0 to 4"
    ∷ so (names 0 10 5) (told 1 (working 0) [])
    ∷ asks 0 10 1 ∷ answered 0
    ∷ asks 1 11 2 ∷ answered 1
    -- a freeze holds a routine back, and a thaw enters it
    ∷ asks 0 12 3 ∷ so freeze done ∷ answered 0 ∷ now (routine 1 11 2)
    ∷ so thaw done ∷ now (routine 0 12 3)
    -- programs resume in the reverse order
    ∷ back (routine 1 11 2) ∷ back (routine 0 10 1) ∷ back main_program ∷ nobody
    ∷ []

-- a lent area of two words
abbrev pub two_words : List ℕ
two_words = replicate 2 0
