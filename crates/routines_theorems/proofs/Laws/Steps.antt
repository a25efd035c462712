-- A sound machine stays sound: what a call does before the scheduler is at work leaves all but what may be left to enter, and the scheduler leaves nothing.
-- Assumes nothing.
use mathlib.Core.Path.{◌≡◌, refl, sym, ap, ◌∙◌}
use mathlib.Core.Bool.{Bool, true, false, not, cond, ◌&&◌, ◌||◌}
use mathlib.Core.List.{List, [], ◌∷◌, map}
use Prim.Native.Nat.{ℕ, zero, suc, ◌≤◌, ◌<◌}
use native.Mathlib.Nat.{le_refl}
use native.Mathlib.Omega.{arith}
use borrow.Author.Tests.{leb-true, le-leb, not-true}
use lib.Dec.{leb, ltb}
use lib.ListN.{length, get_or}
use Rattle.area.proofs.Walks.{by_test, and_left, and_right, or_second}
use Rattle.routines.specs.declared.Due.{Due}
use Rattle.routines.specs.declared.Program.{Program}
use Rattle.routines.specs.declared.Programs.{Programs}
use Rattle.routines.specs.declared.Scheduled.{Scheduled}
use Rattle.routines.specs.Ranks.{depth, top_rank, nothing_due, main_alone}
use Rattle.routines.specs.Waits.{Waits, is_unit, due_at, waits_at, with_due, highest}
use Rattle.routines.specs.Schedule.{look_of, given_back, none_runs}
use Rattle.routines.specs.Right.{due_right, programs_right, is_settled}
use Rattle.routines.proofs.Laws.Highest.{highest_keeps, with_each, cleared_lower}
use Rattle.routines.proofs.Laws.Kept.{look_right, back_right, look_settled, back_settled, look_long, back_long, main_right}
use Rattle.routines_theorems.specs.Machine.{Machine, Event, answer, freeze, thaw, return, fresh, answers, nothing_waits, made_due, with_freeze, begun_afresh, prepared, Act, looks, returns, rests, act_of, scheduled, cleared, after, step, Sound}
use Rattle.routines_theorems.specs.History.{run}

-- all of `Sound` but that nothing is left to enter
pub record Ready (m : Machine) : Type 0 where
  pub places : length m.programs.pushed ≡ depth
  pub programs : programs_right m.programs ≡ true
  pub dues : (c u : ℕ) → due_right (due_at m.waits c u) ≡ true

ready : {m : Machine} → Sound m → Ready m
ready s = record { places = s.places; programs = s.programs; dues = s.dues }

-- ---- before the scheduler

-- a call may answer: its three conditions
pub record Answers (m : Machine) (c u : ℕ) (d : Due) : Type 0 where
  pub unit : is_unit m.waits c u ≡ true
  pub free : waits_at m.waits c u ≡ false
  pub right : due_right d ≡ true
  pub may : answers m c u d ≡ true

pub may_answer : (m : Machine) (c u : ℕ) (d : Due) → answers m c u d ≡ true → Answers m c u d
unfolding answers
may_answer m c u d e =
    let a = and_right (is_unit m.waits c u) _ e in
    record {
      unit = and_left (is_unit m.waits c u) _ e;
      free = not-true _ (and_left (not (waits_at m.waits c u)) _ a);
      right = and_right (not (waits_at m.waits c u)) _ a;
      may = e;
    }

-- after a fresh start nothing waits
none_in : (ds : List Due) (u : ℕ) → get_or (map (λ (d : Due). nothing_due) ds) u nothing_due ≡ nothing_due
none_in [] u = refl
none_in (d ∷ ds) zero = refl
none_in (d ∷ ds) (suc u) = none_in ds u

pub none_waits : (w : Waits) (c u : ℕ) → due_at (nothing_waits w) c u ≡ nothing_due
unfolding nothing_waits
none_waits [] c u = refl
none_waits (ds ∷ w) zero u = none_in ds u
none_waits (ds ∷ w) (suc c) u = none_waits w c u

-- ---- the cases of a call: what the scheduler is to do, and what is there before it

pub record Cases (m : Machine) (P : Event → Act → Machine → Type 0) : Type 0 where
  pub answered : (c u : ℕ) (d : Due) → Answers m c u d → P (answer c u d) looks (made_due m c u d)
  pub unasked : (c u : ℕ) (d : Due) → answers m c u d ≡ false → P (answer c u d) rests m
  pub freezes : P freeze rests (with_freeze m true)
  pub thaws : P thaw looks (with_freeze m false)
  pub refused : none_runs m.programs ≡ true → P return rests m
  pub given : none_runs m.programs ≡ false → P return returns m
  pub starts : P fresh rests (begun_afresh m)

pub by_cases : {m : Machine} {P : Event → Act → Machine → Type 0} → Cases m P → (e : Event) → P e (act_of m e) (prepared m e)
unfolding act_of prepared
by_cases {m} {P} k (answer c u d) =
    by_test (λ t. P (answer c u d) (cond t looks rests) (cond t (made_due m c u d) m)) (answers m c u d) (λ e. k.answered c u d (may_answer m c u d e)) (λ e. k.unasked c u d e)
by_cases k freeze = k.freezes
by_cases k thaw = k.thaws
by_cases {m} {P} k return = by_test (λ t. P return (cond t rests returns) m) (none_runs m.programs) k.refused k.given
by_cases k fresh = k.starts

-- ---- the scheduler

high : (m : Machine) → Ready m → (highest m.waits).rank ≤ top_rank
high m r = highest_keeps (λ p. p.rank ≤ top_rank) m.waits (omega arith) (λ c u i j. leb-true _ _ (and_left (leb (due_at m.waits c u).rank top_rank) _ (r.dues c u)))

lower : (r : Scheduled) (w : Waits) → (highest (cleared r w)).rank ≤ (highest w).rank
unfolding cleared
lower r w =
    by_test (λ t. (highest (cond t (with_due w r.programs.running.channel r.programs.running.unit nothing_due) w)).rank ≤ (highest w).rank) r.entered
    (λ e. cleared_lower w _ _)
    (λ e. le_refl _)

cleared_dues : (r : Scheduled) (w : Waits) → ((c u : ℕ) → due_right (due_at w c u) ≡ true) → (c u : ℕ) → due_right (due_at (cleared r w) c u) ≡ true
unfolding cleared
cleared_dues r w all c u =
    by_test (λ t. due_right (due_at (cond t (with_due w r.programs.running.channel r.programs.running.unit nothing_due) w) c u) ≡ true) r.entered
    (λ e. with_each due_right w _ _ nothing_due all refl c u)
    (λ e. all c u)

looked_sound : (m : Machine) → Ready m → Sound (after (scheduled looks m) m)
unfolding after
looked_sound m r = record {
  places = look_long m.programs m.frozen (highest m.waits) ∙ r.places;
  programs = look_right m.programs r.programs m.frozen (highest m.waits) (high m r);
  dues = cleared_dues (scheduled looks m) m.waits r.dues;
  settled = look_settled m.programs m.frozen (highest m.waits) _ (lower (scheduled looks m) m.waits);
}

returned_sound : (m : Machine) → none_runs m.programs ≡ false → Ready m → Sound (after (scheduled returns m) m)
unfolding after
returned_sound m n r = record {
  places = back_long m.programs m.frozen (highest m.waits) ∙ r.places;
  programs = back_right m.programs r.programs n m.frozen (highest m.waits) (high m r);
  dues = cleared_dues (scheduled returns m) m.waits r.dues;
  settled = back_settled m.programs m.frozen (highest m.waits) _ (lower (scheduled returns m) m.waits);
}

-- ---- a call

-- where nothing is left to enter and the scheduler rests
rested_sound : (m : Machine) → Ready m → is_settled m.programs m.frozen (highest m.waits) ≡ true → Sound (after (scheduled rests m) m)
unfolding after cleared
rested_sound m r s = record { places = r.places; programs = r.programs; dues = r.dues; settled = s }

fresh_settled : (m : Machine) → is_settled main_alone false (highest (nothing_waits m.waits)) ≡ true
unfolding is_settled main_alone
fresh_settled m =
    or_second (leb depth 0) _
    (le-leb (highest (nothing_waits m.waits)).rank 0
    (highest_keeps (λ p. p.rank ≤ 0) (nothing_waits m.waits) (le_refl _) (λ c u i j. rw (none_waits m.waits c u) (le_refl _))))

fresh_ready : (m : Machine) → Ready (begun_afresh m)
unfolding main_alone
fresh_ready m = record { places = refl; programs = main_right; dues = λ c u. ap due_right (none_waits m.waits c u) }

sound_cases : (m : Machine) → Sound m → Cases m (λ e a n. Sound (after (scheduled a n) n))
unfolding is_settled
sound_cases m s = record {
  answered = λ c u d x. looked_sound (made_due m c u d) (record { places = s.places; programs = s.programs; dues = with_each due_right m.waits c u d s.dues x.right });
  unasked = λ c u d x. rested_sound m (ready s) s.settled;
  freezes = rested_sound (with_freeze m true) (record { places = s.places; programs = s.programs; dues = s.dues }) refl;
  thaws = looked_sound (with_freeze m false) (record { places = s.places; programs = s.programs; dues = s.dues });
  refused = λ n. rested_sound m (ready s) s.settled;
  given = λ n. returned_sound m n (ready s);
  starts = rested_sound (begun_afresh m) (fresh_ready m) (fresh_settled m);
}

pub step_sound : (m : Machine) (e : Event) → Sound m → Sound (step m e)
unfolding step
step_sound m e s = by_cases (sound_cases m s) e

pub run_sound : (m : Machine) (h : List Event) → Sound m → Sound (run m h)
unfolding run
run_sound m [] s = s
run_sound m (e ∷ h) s = run_sound (step m e) h (step_sound m e s)

-- the machine of a fresh start is sound
pub fresh_sound : (m : Machine) → Sound (begun_afresh m)
fresh_sound m = record { places = (fresh_ready m).places; programs = (fresh_ready m).programs; dues = (fresh_ready m).dues; settled = fresh_settled m }
