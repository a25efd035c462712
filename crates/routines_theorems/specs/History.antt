-- Histories of the machine, and what is promised of them. Assumes nothing.
use Rattle.std.specs.Prelude.{◌≡◌, Bool, true, false, not, cond, ◌&&◌, List, [], ◌∷◌, ◌++◌, map, ℕ, ◌+◌, ◌≤◌, ◌<◌, eqb, leb}
use Rattle.area.specs.Lists.{one_if}
use Rattle.routines.specs.declared.Due.{Due}
use Rattle.routines.specs.declared.Program.{Program}
use Rattle.routines.specs.declared.Programs.{Programs}
use Rattle.routines.specs.declared.Scheduled.{Scheduled}
use Rattle.routines.specs.Ranks.{depth, rank_of, main_program, is_due, waiting_at, list_of}
use Rattle.routines.specs.Order.{NotBefore}
use Rattle.routines.specs.Waits.{Waits, is_unit, due_at, waits_at}
use Rattle.routines_theorems.specs.Machine.{Machine, Event, answer, freeze, thaw, return, fresh, answers, prepared, Act, looks, returns, rests, act_of, scheduled, step, Sound}

-- where the calls lead
unfoldable pub run : Machine → List Event → Machine
run m [] = m
run m (e ∷ h) = run (step m e) h

-- what the scheduler did in a call
abbrev pub did : Machine → Event → Scheduled
did m e = scheduled (act_of m e) (prepared m e)

-- how many of the calls are of the kind that the test tells
unfoldable pub count : (Machine → Event → Bool) → Machine → List Event → ℕ
count kind m [] = 0
count kind m (e ∷ h) = one_if (kind m e) + count kind (step m e) h

-- ---- "made due once .. entered at most once, exactly once if it no longer waits and no fresh start came"

abbrev pub is_program : Program → Program → Bool
is_program p q = eqb p.rank q.rank && (eqb p.channel q.channel && (eqb p.unit q.unit && eqb p.routine q.routine))

-- the call makes a routine due at unit u of channel c
unfoldable pub makes_at : ℕ → ℕ → Machine → Event → Bool
makes_at c u m (answer k v d) = answers m k v d && (is_due d && (eqb k c && eqb v u))
makes_at c u m freeze = false
makes_at c u m thaw = false
makes_at c u m return = false
makes_at c u m fresh = false

-- the call enters the routine p
unfoldable pub enters_in : Program → Machine → Event → Bool
enters_in p m e = (did m e).entered && is_program (did m e).programs.running p

-- the call is a fresh start
abbrev pub starts_afresh : Machine → Event → Bool
starts_afresh m (answer k v d) = false
starts_afresh m freeze = false
starts_afresh m thaw = false
starts_afresh m return = false
starts_afresh m fresh = true

-- Of a routine d that a call made due at unit u of channel c: `m` is the machine before that call, `later` any calls after it, among which no fresh start is and none
-- that makes another routine due at the unit. Entries are counted from the call itself on: its own look may enter the routine.
pub record Once (c u : ℕ) (d : Due) (m : Machine) (later : List Event) : Type 0 where
  -- it is entered at most once,
  pub at_most : count (enters_in (waiting_at c u d)) m (answer c u d ∷ later) ≤ 1
  -- exactly once if it no longer waits,
  pub exactly : waits_at (run m (answer c u d ∷ later)).waits c u ≡ false → count (enters_in (waiting_at c u d)) m (answer c u d ∷ later) ≡ 1
  -- and not at all while it waits: then it is what waits there
  pub not_yet : waits_at (run m (answer c u d ∷ later)).waits c u ≡ true → count (enters_in (waiting_at c u d)) m (answer c u d ∷ later) ≡ 0
  pub still : waits_at (run m (answer c u d ∷ later)).waits c u ≡ true → due_at (run m (answer c u d ∷ later)).waits c u ≡ d

-- ---- "when nothing is frozen and the list is not full, what runs is at least as high as all that wait"

-- a full list
abbrev pub is_full : Machine → Bool
is_full m = leb depth m.programs.count

-- "The one full list that keeps a routine out is main, 0, 1, 2 below a running 3, with a 4 waiting": the priorities, by their ranks
pub record KeptOut (p : Programs) (d : Due) : Type 0 where
  pub runs : p.running.rank ≡ rank_of 3
  pub below : map (λ (x : Program). x.rank) (list_of p) ≡ rank_of 2 ∷ rank_of 1 ∷ rank_of 0 ∷ main_program.rank ∷ []
  pub waiting : d.rank ≡ rank_of 4

-- "4 is highest; ties go to the lowest channel, then unit": what a call entered was waiting at its own unit, and nothing that waited comes before it
pub record EnteredFirst (w : Waits) (p : Program) : Type 0 where
  pub waited : waiting_at p.channel p.unit (due_at w p.channel p.unit) ≡ p
  pub named : 0 < p.rank
  pub first : (c u : ℕ) → is_unit w c u ≡ true → NotBefore (waiting_at c u (due_at w c u)) p

-- ---- "programs resume in the reverse order of their interruption"

pub data Turn : Type 0 where
  interrupted : Program → Turn
  resumed : Program → Turn
  dropped : Turn

-- what becomes of programs in a call: a look that enters interrupts what ran; a return that enters none resumes what then runs; a fresh start drops the list
abbrev pub turns_by : Act → Programs → Scheduled → List Turn
turns_by looks p r = cond r.entered (interrupted p.running ∷ []) []
turns_by returns p r = cond r.entered [] (resumed r.programs.running ∷ [])
turns_by rests p r = []

unfoldable pub turns_in : Machine → Event → List Turn
turns_in m e = cond (starts_afresh m e) (dropped ∷ []) (turns_by (act_of m e) m.programs (did m e))

unfoldable pub turns : Machine → List Event → List Turn
turns m [] = []
turns m (e ∷ h) = turns_in m e ++ turns (step m e) h

-- each program that resumes is the last that was interrupted and has not resumed: `xs` are those at first, `ys` those at last, the last one first
pub data Reversed : List Program → List Turn → List Program → Type 0 where
  done : {xs : List Program} → Reversed xs [] xs
  interrupts : {xs ys : List Program} {p : Program} {ts : List Turn} → Reversed (p ∷ xs) ts ys → Reversed xs (interrupted p ∷ ts) ys
  resumes : {xs ys : List Program} {p : Program} {ts : List Turn} → Reversed xs ts ys → Reversed (p ∷ xs) (resumed p ∷ ts) ys
  drops : {xs ys : List Program} {ts : List Turn} → Reversed [] ts ys → Reversed xs (dropped ∷ ts) ys
