-- Which waiting routine is entered, and which a full list keeps out (document 02, M-110), by the priorities alone. Assumes nothing.
use Rattle.std.specs.Prelude.{◌≡◌, List, [], ◌∷◌, map, ℕ, ◌<◌}
use Rattle.routines.specs.declared.Due.{Due}
use Rattle.routines.specs.declared.Program.{Program}
use Rattle.routines.specs.Ranks.{rank_of, main_program, waiting_at}
use Rattle.routines.specs.Order.{NotBefore}

-- "4 is highest; ties go to the lowest channel, then unit.": p waited at its own unit, and nothing that waited comes before it; w tells what waits at each unit
pub record First (w : ℕ → ℕ → Due) (p : Program) : Type 0 where
  pub waited : w p.channel p.unit ≡ record { rank = p.rank; routine = p.routine }
  pub named : 0 < p.rank
  pub first : (c u : ℕ) → 0 < (w c u).rank → NotBefore (waiting_at c u (w c u)) p

-- "With a full list, depth four here, nothing is interrupted": the one full list that keeps a routine out is main, 0, 1, 2 below a running 3, with a 4 waiting
pub record KeptOut (runs : Program) (list : List Program) (d : Due) : Type 0 where
  pub third : runs.rank ≡ rank_of 3
  pub below : map (λ (x : Program). x.rank) list ≡ rank_of 2 ∷ rank_of 1 ∷ rank_of 0 ∷ main_program.rank ∷ []
  pub waiting : d.rank ≡ rank_of 4
