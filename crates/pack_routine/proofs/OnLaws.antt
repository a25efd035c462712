-- Laws of return and what runs on the routines alone: refused, or done. Assumes nothing.
use mathlib.Core.Path.{◌≡◌}
use mathlib.Core.Bool.{Bool, false}
use Prim.Native.Nat.{ℕ}
use borrow.Author.Tests.{ne_eqb}
use Rattle.routines.specs.declared.Routines.{Routines}
use Rattle.routines.specs.Changes.{gave_back_in}
use Rattle.pack_routine.specs.declared.RoutineChange.{RoutineChange}
use Rattle.pack_routine.specs.Ons.{refused_change, return_refusal, return_on, running_refusal, running_on}

-- what an accepted return answers, and what an accepted question after what runs
abbrev pub back_change : Bool → Routines → RoutineChange
back_change frozen r =
    let back = gave_back_in r frozen in
    record { refusal = 0; entered = back.entered; program = back.routines.programs.running; routines = back.routines }

abbrev pub run_change : Routines → RoutineChange
run_change r = record { refusal = 0; entered = false; program = r.programs.running; routines = r }

module _ (wrong frozen : Bool) (r : Routines) (no : ℕ) (found : no ≡ return_refusal wrong r) where
  pub return_off : (no ≡ 0 → ⊥) → return_on wrong frozen r ≡ refused_change no r
  unfolding return_on
  return_off h = rw (← found, ne_eqb no 0 h)

  pub return_done : no ≡ 0 → return_on wrong frozen r ≡ back_change frozen r
  unfolding return_on
  return_done h = rw (← found, h)

module _ (wrong : Bool) (r : Routines) (no : ℕ) (found : no ≡ running_refusal wrong) where
  pub running_off : (no ≡ 0 → ⊥) → running_on wrong r ≡ refused_change no r
  unfolding running_on
  running_off h = rw (← found, ne_eqb no 0 h)

  pub running_done : no ≡ 0 → running_on wrong r ≡ run_change r
  unfolding running_on
  running_done h = rw (← found, h)
