-- "Special routines by priority" (document 02, M-110; the manual, "Special Routines" and "Program Scheduler") over histories: what runs after each accepted call, by
-- a roster that is noted from the calls and their answers alone. Assumes nothing.
use Rattle.std.specs.Prelude.{◌≡◌, Bool, true, false, cond, ◌&&◌, List, [], ◌∷◌, ◌++◌, ℕ, ◌+◌, ◌≤◌, ◌<◌, eqb, length}
use Rattle.std.proofs.Math.Option.{Option, none, some}
use Rattle.area.specs.Lists.{one_if}
use Rattle.routines.specs.declared.Due.{Due}
use Rattle.routines.specs.declared.Naming.{Naming}
use Rattle.routines.specs.declared.Program.{Program}
use Rattle.routines.specs.Ranks.{rank_of, main_program, is_main, nothing_due, is_due, waiting_at}
use Rattle.routines.specs.Right.{descends}
use Rattle.routines_theorems.specs.History.{is_program, Turn, interrupted, resumed, dropped}
use Rattle.state.specs.declared.State.{State}
use Rattle.state.specs.Places.{file_at}
use Rattle.pack_start.specs.declared.Masks.{Masks}
use Rattle.pack.specs.Calls.{Call, fresh, opening, close, ask, report, get, put, seal, skip, freeze, thaw, return, running, Added, nothing, working, reported, got, returned, runs, Answer, answer_of}
use Rattle.pack.specs.Histories.{Lent, answer_to, is_accepted, is_answer, of_report, count}
use Rattle.demands.specs.Entries.{First, KeptOut}

-- ---- what the answers tell

-- the program that an answer tells
abbrev pub told_program : Added → Program
told_program nothing = main_program
told_program (working u) = main_program
told_program (reported result delivery u) = main_program
told_program (got g) = main_program
told_program (returned entered p) = p
told_program (runs p) = p

-- what runs in a state: what the pack answers if it is asked there
abbrev pub runs_in : State → Program
runs_in s = told_program (answer_of s [] running).added

-- return "adds 01 if a waiting routine was entered"
abbrev pub told_entry : Added → Option Program
told_entry nothing = none
told_entry (working u) = none
told_entry (reported result delivery u) = none
told_entry (got g) = none
told_entry (returned entered p) = cond entered (some p) none
told_entry (runs p) = none

-- another program runs than before: it was entered
abbrev pub another : Program → Program → Option Program
another before now = cond (is_program now before) none (some now)

-- the routine that an accepted call enters, in the state s: reports and thaws tell nothing of it, but what runs afterwards does
abbrev pub entered_by : State → Call → Answer → Option Program
entered_by s (fresh m w masks) a = none
entered_by s (opening file channel unit flags size rlen) a = none
entered_by s (close file) a = none
entered_by s (ask file op priority naming) a = none
entered_by s (report channel unit outcome len words) a = another (runs_in s) (runs_in a.state)
entered_by s (get file) a = none
entered_by s (put file words) a = none
entered_by s (seal file) a = none
entered_by s (skip file) a = none
entered_by s freeze a = none
entered_by s thaw a = another (runs_in s) (runs_in a.state)
entered_by s return a = told_entry a.added
entered_by s running a = none

-- ---- the roster

-- Of each unit of a channel: the routine that its request without an answer names, and the one that was made due there and has not been entered; the programs that
-- were interrupted and have not resumed, the last one first; and whether the pack is frozen
pub record Roster : Type 0 where
  pub names : ℕ → ℕ → Due
  pub waits : ℕ → ℕ → Due
  pub list : List Program
  pub frozen : Bool

-- as a fresh start leaves it: "A fresh start drops waiting routines and the list"
abbrev pub blank_roster : Roster
blank_roster = record { names = λ c u. nothing_due; waits = λ c u. nothing_due; list = []; frozen = false }

-- d at unit u of channel c
abbrev pub at_unit : ℕ → ℕ → Due → (ℕ → ℕ → Due) → ℕ → ℕ → Due
at_unit c u d f k v = cond (eqb k c && eqb v u) d (f k v)

-- "An ask may name a routine and a priority 0 to 4": what an accepted one names
abbrev pub named_by : Naming → Due
named_by n = cond n.given (record { rank = rank_of n.level; routine = n.routine }) nothing_due

abbrev pub with_name : ℕ → ℕ → Due → Roster → Roster
with_name c u d r = record { names = at_unit c u d r.names; waits = r.waits; list = r.list; frozen = r.frozen }

-- "which becomes due when the request is answered"
abbrev pub with_due : ℕ → ℕ → Roster → Roster
with_due c u r = record { names = at_unit c u nothing_due r.names; waits = at_unit c u (r.names c u) r.waits; list = r.list; frozen = r.frozen }

abbrev pub with_freeze : Bool → Roster → Roster
with_freeze frozen r = record { names = r.names; waits = r.waits; list = r.list; frozen = frozen }

-- "A due routine is entered once.": it waits no longer. "the interrupted one goes on a push-down list": `before` ran, and a look enters p
abbrev pub with_look : Program → Option Program → Roster → Roster
with_look before none r = r
with_look before (some p) r = record { names = r.names; waits = at_unit p.channel p.unit nothing_due r.waits; list = before ∷ r.list; frozen = r.frozen }

-- "otherwise that program resumes": it leaves the list
abbrev pub past_first : List Program → List Program
past_first [] = []
past_first (x ∷ xs) = xs

-- a return enters p, or none
abbrev pub with_return : Option Program → Roster → Roster
with_return none r = record { names = r.names; waits = r.waits; list = past_first r.list; frozen = r.frozen }
with_return (some p) r = record { names = r.names; waits = at_unit p.channel p.unit nothing_due r.waits; list = r.list; frozen = r.frozen }

-- a report answers a request that names a routine: this alone makes one due
abbrev pub makes_due : Roster → ℕ → ℕ → Answer → Bool
makes_due r c u a = is_answer a.added && is_due (r.names c u)

-- the roster of an accepted call in the state s, before what it enters: what may be entered
abbrev pub readied : State → Call → Answer → Roster → Roster
readied s (fresh m w masks) a r = blank_roster
readied s (opening file channel unit flags size rlen) a r = r
readied s (close file) a r = r
readied s (ask file op priority naming) a r = with_name (file_at s file).channel (file_at s file).unit (named_by naming) r
readied s (report channel unit outcome len words) a r = cond (makes_due r channel unit a) (with_due channel unit r) r
readied s (get file) a r = r
readied s (put file words) a r = r
readied s (seal file) a r = r
readied s (skip file) a r = r
readied s freeze a r = with_freeze true r
readied s thaw a r = with_freeze false r
readied s return a r = r
readied s running a r = r

-- and with it
abbrev pub entries_by : State → Call → Answer → Roster → Roster
entries_by s (fresh m w masks) a r = r
entries_by s (opening file channel unit flags size rlen) a r = r
entries_by s (close file) a r = r
entries_by s (ask file op priority naming) a r = r
entries_by s (report channel unit outcome len words) a r = with_look (runs_in s) (entered_by s (report channel unit outcome len words) a) r
entries_by s (get file) a r = r
entries_by s (put file words) a r = r
entries_by s (seal file) a r = r
entries_by s (skip file) a r = r
entries_by s freeze a r = r
entries_by s thaw a r = with_look (runs_in s) (entered_by s thaw a) r
entries_by s return a r = with_return (entered_by s return a) r
entries_by s running a r = r

abbrev pub rostered : State → Call → Answer → Roster → Roster
rostered s call a r = entries_by s call a (readied s call a r)

-- a refused call enters no roster
abbrev pub rostered_at : State → Lent → Roster → Roster
rostered_at s x r = cond (is_accepted (answer_to s x)) (rostered s x.call (answer_to s x) r) r

unfoldable pub roster_after : State → Roster → List Lent → Roster
roster_after s r [] = r
roster_after s r (x ∷ h) = roster_after (answer_to s x).state (rostered_at s x r) h

-- ---- after every accepted call: s is the state before it, a its answer, r the roster before it and q the roster with it

-- "Looks are made after a report that answers a request .., after a thaw's starts, and at no other time"
abbrev pub is_look : Call → Bool
is_look (fresh m w masks) = false
is_look (opening file channel unit flags size rlen) = false
is_look (close file) = false
is_look (ask file op priority naming) = false
is_look (report channel unit outcome len words) = true
is_look (get file) = false
is_look (put file words) = false
is_look (seal file) = false
is_look (skip file) = false
is_look freeze = false
is_look thaw = true
is_look return = false
is_look running = false

-- the calls that may change what runs
pub data Moves (r : Roster) (a : Answer) : Call → Type 0 where
  answers : {channel unit outcome len : ℕ} {words : List ℕ} → makes_due r channel unit a ≡ true → Moves r a (report channel unit outcome len words)
  thaws : Moves r a thaw
  returns : Moves r a return
  afresh : {m w : ℕ} {masks : Masks} → Moves r a (fresh m w masks)

pub record Schedules (s : State) (call : Call) (a : Answer) (r q : Roster) : Type 0 where
  -- no other call changes what runs, and what a call enters runs after it
  pub still : (Moves r a call → ⊥) → runs_in a.state ≡ runs_in s
  pub runs : (p : Program) → entered_by s call a ≡ some p → runs_in a.state ≡ p
  -- "4 is highest; ties go to the lowest channel, then unit.": it waited at its own unit, and is the first of all that waited
  pub first : (p : Program) → entered_by s call a ≡ some p → First (readied s call a r).waits p
  -- "while frozen nothing enters"
  pub thawed : (p : Program) → entered_by s call a ≡ some p → q.frozen ≡ false
  -- "a due routine of higher priority than the one in progress is entered"; "With a full list, depth four here, nothing is interrupted"
  pub interrupts : is_look call ≡ true → (p : Program) → entered_by s call a ≡ some p → ((runs_in s).rank < p.rank) × (length r.list < 4)
  -- when nothing is frozen and the list is not full, what runs is at least as high as all that wait
  pub highest : q.frozen ≡ false → length q.list < 4 → (c u : ℕ) → (q.waits c u).rank ≤ (runs_in a.state).rank
  -- and a full list keeps out a 4 alone, above main, 0, 1, 2 below a running 3
  pub full : q.frozen ≡ false → (c u : ℕ) → (runs_in a.state).rank < (q.waits c u).rank → KeptOut (runs_in a.state) q.list (q.waits c u)
  -- priorities fall strictly from what runs down the list to the main program, which has none
  pub falls : descends (runs_in a.state) q.list ≡ true

-- ---- a return

-- refused: "refused 18 with none running", in every state that calls lead to
pub record Returns (s : State) (area : List ℕ) : Type 0 where
  pub number : (answer_of s area return).refusal ≡ cond (is_main (runs_in s)) 18 0
  -- "What runs" is never refused there, and changes nothing
  pub asked : answer_of s area running ≡ record { refusal = 0; added = runs (runs_in s); shows = []; state = s; area = area }

-- accepted, with the answer a: "On a return, the highest waiting routine is entered if it is above the program last pushed, otherwise that program resumes."
pub record GivesBack (a : Answer) (r q : Roster) : Type 0 where
  -- the answer tells what runs now
  pub tells : told_program a.added ≡ runs_in a.state
  -- it is above the program last pushed; the list stays
  pub enters : (p : Program) → told_entry a.added ≡ some p → (x : Program) (xs : List Program) → r.list ≡ x ∷ xs → x.rank < p.rank
  -- the program that was interrupted last, and has not resumed since, runs
  pub resumes : told_entry a.added ≡ none → r.list ≡ runs_in a.state ∷ q.list
  -- it resumes only if nothing that waits is above it, or in a freeze
  pub otherwise : told_entry a.added ≡ none → r.frozen ≡ false → (c u : ℕ) → (r.waits c u).rank ≤ (runs_in a.state).rank

-- ---- "programs resume in the reverse order of their interruption"

abbrev pub turn_of_look : Program → Option Program → List Turn
turn_of_look before none = []
turn_of_look before (some p) = interrupted before ∷ []

abbrev pub turn_of_return : Program → Option Program → List Turn
turn_of_return now none = resumed now ∷ []
turn_of_return now (some p) = []

-- what becomes of programs in an accepted call
abbrev pub turns_by : State → Call → Answer → List Turn
turns_by s (fresh m w masks) a = dropped ∷ []
turns_by s (opening file channel unit flags size rlen) a = []
turns_by s (close file) a = []
turns_by s (ask file op priority naming) a = []
turns_by s (report channel unit outcome len words) a = turn_of_look (runs_in s) (entered_by s (report channel unit outcome len words) a)
turns_by s (get file) a = []
turns_by s (put file words) a = []
turns_by s (seal file) a = []
turns_by s (skip file) a = []
turns_by s freeze a = []
turns_by s thaw a = turn_of_look (runs_in s) (entered_by s thaw a)
turns_by s return a = turn_of_return (runs_in a.state) (entered_by s return a)
turns_by s running a = []

abbrev pub turns_at : State → Lent → List Turn
turns_at s x = cond (is_accepted (answer_to s x)) (turns_by s x.call (answer_to s x)) []

unfoldable pub turns_after : State → List Lent → List Turn
turns_after s [] = []
turns_after s (x ∷ h) = turns_at s x ++ turns_after (answer_to s x).state h

-- ---- "A due routine is entered once."

-- how many accepted reports have made a routine due at unit u of channel c
abbrev pub makes_due_at : ℕ → ℕ → Roster → Call → Answer → Bool
makes_due_at c u r call a = of_report (λ channel unit. eqb c channel && (eqb u unit && makes_due r channel unit a)) call

unfoldable pub count_due : ℕ → ℕ → State → Roster → List Lent → ℕ
count_due c u s r [] = 0
count_due c u s r (x ∷ h) =
    one_if (is_accepted (answer_to s x) && makes_due_at c u r x.call (answer_to s x)) + count_due c u (answer_to s x).state (rostered_at s x r) h

-- how many accepted calls have entered the routine p
abbrev pub is_one : Program → Option Program → Bool
is_one p none = false
is_one p (some q) = is_program q p

abbrev pub enters_it : Program → State → Call → Answer → Bool
enters_it p s call a = is_one p (entered_by s call a)

-- Of a routine d that the call `made` makes due at unit u of channel c, in the state s and with the roster r before it; `later` are any calls after it, among which no
-- fresh start is accepted and no other routine is made due at the unit. Entries are counted from the call itself on: its own look may enter the routine.
pub record Once (c u : ℕ) (d : Due) (s : State) (r : Roster) (made : Lent) (later : List Lent) : Type 0 where
  -- it is entered at most once,
  pub at_most : count (enters_it (waiting_at c u d)) s (made ∷ later) ≤ 1
  -- exactly once if it no longer waits,
  pub exactly : is_due ((roster_after s r (made ∷ later)).waits c u) ≡ false → count (enters_it (waiting_at c u d)) s (made ∷ later) ≡ 1
  -- and not at all while it waits: then it is what waits there
  pub not_yet : is_due ((roster_after s r (made ∷ later)).waits c u) ≡ true → count (enters_it (waiting_at c u d)) s (made ∷ later) ≡ 0
  pub waiting : is_due ((roster_after s r (made ∷ later)).waits c u) ≡ true → (roster_after s r (made ∷ later)).waits c u ≡ d
