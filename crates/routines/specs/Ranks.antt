-- Programs, and the routines that are due (document 02, M-110; the manual, "Special Routines" and "Program Scheduler"). Assumes nothing.
use Rattle.std.specs.Prelude.{ℕ, zero, suc, ◌+◌, Bool, cond, ◌&&◌, ◌||◌, List, [], ◌∷◌, ltb, leb, eqb, get_or, replicate}
use Rattle.routines.specs.declared.Due.{Due}
use Rattle.routines.specs.declared.Program.{Program}
use Rattle.routines.specs.declared.Programs.{Programs}

-- "depth four here"
abbrev pub depth : ℕ
depth = 4

-- "a priority 0 to 4", "4 is highest"
abbrev pub highest_priority : ℕ
highest_priority = 4

-- A rank is one above the priority of a routine. "The main program has no priority", and is below 0: its rank is 0.
abbrev pub rank_of : ℕ → ℕ
rank_of priority = priority + 1

abbrev pub top_rank : ℕ
top_rank = rank_of highest_priority

-- ---- programs

abbrev pub main_program : Program
main_program = record { rank = 0; channel = 0; unit = 0; routine = 0 }

abbrev pub is_main : Program → Bool
is_main p = eqb p.rank 0

-- ---- what is due

abbrev pub nothing_due : Due
nothing_due = record { rank = 0; routine = 0 }

abbrev pub is_due : Due → Bool
is_due d = ltb 0 d.rank

-- "An ask may name a routine and a priority 0 to 4": what it names, if it does
unfoldable pub due_named : Bool → ℕ → ℕ → Due
due_named named priority routine = cond (named && leb priority highest_priority) (record { rank = rank_of priority; routine = routine }) nothing_due

-- the routine that waits at a unit of a channel, as a program
abbrev pub waiting_at : ℕ → ℕ → Due → Program
waiting_at c u d = record { rank = d.rank; channel = c; unit = u; routine = d.routine }

-- "4 is highest; ties go to the lowest channel, then unit.": a comes before b
abbrev pub precedes : Program → Program → Bool
precedes a b = ltb b.rank a.rank || (eqb a.rank b.rank && (ltb a.channel b.channel || (eqb a.channel b.channel && ltb a.unit b.unit)))

abbrev pub higher : Program → Program → Program
higher a b = cond (precedes b a) b a

-- ---- what runs, and what was interrupted

-- the first n programs of a list, the last of them first
unfoldable pub under : List Program → ℕ → List Program
under xs zero = []
under xs (suc n) = get_or xs n main_program ∷ under xs n

-- the push-down list: the program last pushed first
abbrev pub list_of : Programs → List Program
list_of p = under p.pushed p.count

-- "the main program runs", and nothing was interrupted
unfoldable pub main_alone : Programs
main_alone = record { running = main_program; pushed = replicate depth main_program; count = 0 }
