-- What waits: "Waiting routines stand with their units, at most one each" (the manual: "placing its address and priority in the unit control block").
-- For each channel, what is due at each of its units, however many there are. Assumes nothing.
use Rattle.std.specs.Prelude.{ℕ, ◌+◌, Bool, List, [], ◌∷◌, ltb, length, get_or, set}
use Rattle.routines.specs.declared.Due.{Due}
use Rattle.routines.specs.declared.Program.{Program}
use Rattle.routines.specs.Ranks.{main_program, nothing_due, is_due, waiting_at, higher}

abbrev pub Waits : Type 0
Waits = List (List Due)

-- the numbers are those of a unit
abbrev pub is_unit : Waits → ℕ → ℕ → Bool
is_unit w c u = ltb u (length (get_or w c []))

-- what is due at a unit; nothing at a number that is no unit's
abbrev pub due_at : Waits → ℕ → ℕ → Due
due_at w c u = get_or (get_or w c []) u nothing_due

-- "A unit whose routine waits"
abbrev pub waits_at : Waits → ℕ → ℕ → Bool
waits_at w c u = is_due (due_at w c u)

unfoldable pub with_due : Waits → ℕ → ℕ → Due → Waits
with_due w c u d = set w c (set (get_or w c []) u d)

-- ---- the highest waiting routine: the first of all that wait, the main program where none does

-- of the units of channel c from u on, and the best so far
unfoldable pub highest_on : ℕ → ℕ → List Due → Program → Program
highest_on c u [] best = best
highest_on c u (d ∷ ds) best = highest_on c (u + 1) ds (higher best (waiting_at c u d))

-- of the channels from c on, and the best so far
unfoldable pub highest_from : ℕ → Waits → Program → Program
highest_from c [] best = best
highest_from c (ds ∷ rest) best = highest_from (c + 1) rest (highest_on c 0 ds best)

unfoldable pub highest : Waits → Program
highest w = highest_from 0 w main_program
