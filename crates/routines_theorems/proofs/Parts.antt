-- What the calls of a pack do to its routines is what the machine does: a report that answers a request which names a routine, a freeze, a thaw, a return, a fresh
-- start. Assumes nothing.
use mathlib.Core.Path.{◌≡◌, refl, sym, ap, ap₂, ◌∙◌}
use mathlib.Core.Bool.{Bool, true, false, not, cond}
use mathlib.Core.List.{List, [], ◌∷◌, map}
use Prim.Native.Nat.{ℕ, suc, ◌<◌}
use native.Mathlib.Omega.{arith}
use lib.ListN.{length, get_or, replicate}
use Rattle.area.proofs.Walks.{by_test, true_not_false, and_both}
use Rattle.channel.specs.Units.{unit_count, channel_count}
use Rattle.routines.specs.declared.Due.{Due}
use Rattle.routines.specs.declared.Programs.{Programs}
use Rattle.routines.specs.declared.Scheduled.{Scheduled}
use Rattle.routines.specs.declared.Post.{Post}
use Rattle.routines.specs.declared.Posts.{Posts}
use Rattle.routines.specs.declared.Routines.{Routines}
use Rattle.routines.specs.Ranks.{nothing_due, is_due, main_alone}
use Rattle.routines.specs.Waits.{Waits, is_unit, waits_at, with_due, highest}
use Rattle.routines.specs.Schedule.{look_of, given_back, none_runs}
use Rattle.routines.specs.Right.{due_right}
use Rattle.routines.specs.Posts.{empty_post, no_posts, no_routines, post_at, due_in, dues_in, waits_of, with_programs, with_post}
use Rattle.routines.specs.Changes.{made_due_in, cleared_in, scheduled_in, looked_in, answered_in, gave_back_in}
use Rattle.routines.proofs.Laws.Kept.{list_long}
use Rattle.routines.proofs.Laws.Table.{due_at_lem, waits_with, named_unit}
use Rattle.routines.proofs.Laws.Facts.{RoutinesReady, RoutinesFacts, scheduled_waits}
use Rattle.routines_theorems.specs.Machine.{Machine, answer, freeze, thaw, return, fresh, answers, nothing_waits, prepared, looks, returns, act_of, scheduled, cleared, after, step, Sound}
use Rattle.routines_theorems.specs.Parts.{machine_of}

-- ---- a look and a return are the machine's

programs_after : (r : Routines) (s : Scheduled) → (scheduled_in r s).programs ≡ s.programs
unfolding scheduled_in cleared_in with_post
programs_after r s =
    by_test (λ t. (cond t (cleared_in (with_programs r s.programs) s.programs.running.channel s.programs.running.unit) (with_programs r s.programs)).programs ≡ s.programs) s.entered (λ e. refl) (λ e. refl)

after_scheduled : (r : Routines) (frozen : Bool) (s : Scheduled) → machine_of frozen (scheduled_in r s) ≡ after s (machine_of frozen r)
unfolding after cleared
after_scheduled r frozen s = ap₂ (λ (p : Programs) (w : Waits). record { frozen = frozen; programs = p; waits = w }) (programs_after r s) (scheduled_waits r s)

pub part_looked : (r : Routines) (frozen : Bool) → machine_of frozen (looked_in r frozen) ≡ after (scheduled looks (machine_of frozen r)) (machine_of frozen r)
unfolding looked_in
part_looked r frozen = after_scheduled r frozen (look_of r.programs frozen (highest (waits_of r)))

pub part_returned : (r : Routines) (frozen : Bool) → machine_of frozen (gave_back_in r frozen).routines ≡ after (scheduled returns (machine_of frozen r)) (machine_of frozen r)
unfolding gave_back_in
part_returned r frozen = after_scheduled r frozen (given_back r.programs frozen (highest (waits_of r)))

-- ---- the calls, as events of the machine

module _ (r : Routines) (frozen : Bool) where
  pub freeze_step : machine_of true r ≡ step (machine_of frozen r) freeze
  unfolding step prepared act_of after cleared
  freeze_step = refl

  pub thaw_step : machine_of false (looked_in r false) ≡ step (machine_of frozen r) thaw
  unfolding step prepared act_of
  thaw_step = part_looked r false

  -- "refused 18 with none running"
  pub refused_step : none_runs r.programs ≡ true → machine_of frozen r ≡ step (machine_of frozen r) return
  unfolding step prepared act_of after cleared
  refused_step n = rw n

  pub return_step : none_runs r.programs ≡ false → machine_of frozen (gave_back_in r frozen).routines ≡ step (machine_of frozen r) return
  unfolding step prepared act_of
  return_step n = rw n (part_returned r frozen)

  module _ (c u : ℕ) where
    made_due_lem : waits_of (made_due_in r c u) ≡ with_due (waits_of r) c u (post_at r c u).named
    unfolding made_due_in
    made_due_lem = waits_with r c u (record { named = nothing_due; due = (post_at r c u).named })

    -- a report that answers a request which names a routine
    pub answer_step : is_due (post_at r c u).named ≡ true → answers (machine_of frozen r) c u (post_at r c u).named ≡ true
        → machine_of frozen (answered_in r frozen c u) ≡ step (machine_of frozen r) (answer c u (post_at r c u).named)
    unfolding answered_in step prepared act_of made_due_in with_post
    answer_step due may =
        let due_now : machine_of frozen (made_due_in r c u) ≡ record { frozen = frozen; programs = r.programs; waits = with_due (waits_of r) c u (post_at r c u).named } =
        ap (λ (w : Waits). record { frozen = frozen; programs = r.programs; waits = w }) made_due_lem in
        rw (due, may) (part_looked (made_due_in r c u) frozen ∙ ap (λ (m : Machine). after (scheduled looks m) m) due_now)

    -- one that answers a request which names none is nothing to the machine
    pub silent_step : is_due (post_at r c u).named ≡ false → answered_in r frozen c u ≡ r
    unfolding answered_in
    silent_step none = rw none

-- ---- of routines that are right

module _ (declared asked : ℕ → ℕ → Bool) (frozen : Bool) (r : Routines) (F : RoutinesFacts declared asked frozen r) where
  -- what a request names may be answered: "A unit whose routine waits refuses a new ask"
  pub named_answers : (c u : ℕ) → is_due (post_at r c u).named ≡ true → answers (machine_of frozen r) c u (post_at r c u).named ≡ true
  unfolding answers
  named_answers c u due =
      and_both (is_unit (waits_of r) c u) _ (named_unit r c u due)
      (and_both (not (waits_at (waits_of r) c u)) _ (ap not (free (waits_at (waits_of r) c u) refl)) (F.ready.posts c u).named)
    where
      free : (b : Bool) → waits_at (waits_of r) c u ≡ b → waits_at (waits_of r) c u ≡ false
      free false e = e
      free true e =
          let P = F.ready.posts c u in
          true_not_false (P.asks due) (P.quiet (ap is_due (sym (due_at_lem r c u)) ∙ e))

  pub part_sound : Sound (machine_of frozen r)
  part_sound = record {
    places = list_long r.programs F.ready.programs;
    programs = F.ready.programs;
    dues = λ c u. ap due_right (due_at_lem r c u) ∙ (F.ready.posts c u).due;
    settled = F.settled;
  }

-- ---- a fresh start

all_same : {A B : Type 0} (f : A → B) (b : B) (d : A) (xs : List A) → ((i : ℕ) → i < length xs → f (get_or xs i d) ≡ b) → map f xs ≡ replicate (length xs) b
all_same f b d [] each = refl
all_same f b d (x ∷ xs) each = ap₂ (λ (y : _) (ys : List _). y ∷ ys) (each 0 (omega arith)) (all_same f b d xs (λ i h. each (suc i) (omega arith)))

map_map : {A B C : Type 0} (f : A → B) (g : B → C) (xs : List A) → map g (map f xs) ≡ map (λ x. g (f x)) xs
map_map f g [] = refl
map_map f g (x ∷ xs) = ap (λ (ys : List _). g (f x) ∷ ys) (map_map f g xs)

pub fresh_step : (declared asked : ℕ → ℕ → Bool) (r : Routines) (frozen : Bool) → RoutinesReady declared asked r → machine_of false no_routines ≡ step (machine_of frozen r) fresh
unfolding step prepared act_of after cleared nothing_waits no_routines
fresh_step declared asked r frozen R = ap (λ (w : Waits). record { frozen = false; programs = main_alone; waits = w }) (sym empty)
  where
    none : Due → Due
    none d = nothing_due

    row : (p : Posts) → length p.units ≡ unit_count → map none (dues_in p) ≡ replicate unit_count nothing_due
    row p long = map_map due_in none p.units ∙ all_same (λ (x : Post). nothing_due) nothing_due empty_post p.units (λ i h. refl) ∙ ap (λ (n : ℕ). replicate n nothing_due) long

    empty : map (map none) (waits_of r) ≡ replicate channel_count (replicate unit_count nothing_due)
    empty =
        map_map dues_in (map none) r.posts
        ∙ all_same (λ (p : Posts). map none (dues_in p)) (replicate unit_count nothing_due) no_posts r.posts (λ c l. row (get_or r.posts c no_posts) (R.rows c l))
        ∙ ap (λ (n : ℕ). replicate n (replicate unit_count nothing_due)) R.table
