-- Programs resume in the reverse order of their interruption: what each call does to the push-down list. Assumes nothing.
use mathlib.Core.Path.{◌≡◌, refl, sym, ap, ◌∙◌}
use mathlib.Core.Bool.{Bool, true, false, cond}
use mathlib.Core.List.{List, [], ◌∷◌, ◌++◌}
use Prim.Native.Nat.{ℕ, ◌<◌}
use native.Mathlib.Omega.{arith}
use lib.ListN.{length}
use Rattle.routines.specs.declared.Program.{Program}
use Rattle.routines.specs.declared.Programs.{Programs}
use Rattle.routines.specs.declared.Scheduled.{Scheduled}
use Rattle.routines.specs.Ranks.{depth, under, list_of, main_alone}
use Rattle.routines.specs.Waits.{highest}
use Rattle.routines.specs.Schedule.{enters, interrupted_by, look_of, resumed_of, given_back, none_runs}
use Rattle.routines.specs.Right.{programs_right}
use Rattle.routines.proofs.Laws.Schedule.{by_look, enters_room, list_interrupted, by_back, list_resumed}
use Rattle.routines.proofs.Laws.Kept.{routine_over}
use Rattle.routines_theorems.specs.Machine.{Machine, Event, answer, freeze, thaw, return, fresh, answers, made_due, with_freeze, begun_afresh, prepared, Act, looks, returns, rests, act_of, scheduled, after, step, Sound}
use Rattle.routines_theorems.specs.History.{run, did, starts_afresh, Turn, interrupted, resumed, dropped, turns_by, turns_in, turns, Reversed, done, interrupts, resumes, drops}
use Rattle.routines_theorems.proofs.Laws.Steps.{Cases, by_cases, step_sound}

-- another list that is the same
same_list : {xs zs ys : List Program} {ts : List Turn} → xs ≡ zs → Reversed zs ts ys → Reversed xs ts ys
same_list {xs} {zs} {ys} {ts} e r = rw e r

module _ (p : Programs) (long : length p.pushed ≡ depth) (ys : List Program) (ts : List Turn) where
  abbrev Goes : Act → Scheduled → Type 0
  Goes a r = Reversed (list_of r.programs) ts ys → Reversed (list_of p) (turns_by a p r ++ ts) ys

  look_goes : (frozen : Bool) (best : Program) → Goes looks (look_of p frozen best)
  look_goes frozen best =
      by_look p frozen best (λ r. Goes looks r)
      (λ e. λ q. let room = enters_room p frozen best e in interrupts (same_list (sym (list_interrupted p best (omega (arith, long)))) q))
      (λ e. λ q. q)

  back_goes : programs_right p ≡ true → none_runs p ≡ false → (frozen : Bool) (best : Program) → Goes returns (given_back p frozen best)
  back_goes right n frozen best =
      by_back p frozen best (λ r. Goes returns r)
      (λ e. λ q. q)
      (λ e. λ q. same_list (list_resumed p (routine_over p right n)) (resumes q))

module _ (m : Machine) (s : Sound m) (ys : List Program) (ts : List Turn) where
  abbrev Turned : Event → Act → Machine → Type 0
  Turned e a n = Reversed (list_of (scheduled a n).programs) ts ys → Reversed (list_of m.programs) (cond (starts_afresh m e) (dropped ∷ []) (turns_by a m.programs (scheduled a n)) ++ ts) ys

  turned : Cases m Turned
  unfolding main_alone under
  turned = record {
    answered = λ c u d x. look_goes m.programs s.places ys ts m.frozen (highest (made_due m c u d).waits);
    unasked = λ c u d x. λ q. q;
    freezes = λ q. q;
    thaws = look_goes m.programs s.places ys ts false (highest m.waits);
    refused = λ n. λ q. q;
    given = λ n. back_goes m.programs s.places ys ts s.programs n m.frozen (highest m.waits);
    starts = λ q. drops q;
  }

  step_turns : (e : Event) → Reversed (list_of (step m e).programs) ts ys → Reversed (list_of m.programs) (turns_in m e ++ ts) ys
  unfolding step after turns_in
  step_turns e = by_cases turned e

pub reversed : (m : Machine) (h : List Event) → Sound m → Reversed (list_of m.programs) (turns m h) (list_of (run m h).programs)
unfolding turns run
reversed m [] s = done
reversed m (e ∷ h) s = step_turns m s (list_of (run (step m e) h).programs) (turns (step m e) h) e (reversed (step m e) h (step_sound m e s))
