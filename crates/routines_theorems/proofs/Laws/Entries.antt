-- What becomes of the routine that waits at a unit: in each call it is entered and waits no longer, or it is left as it is. Assumes nothing.
use mathlib.Core.Path.{◌≡◌, refl, sym, ap, ◌∙◌}
use mathlib.Core.Bool.{Bool, true, false, not, cond, ◌&&◌}
use mathlib.Core.List.{List, [], ◌∷◌}
use Prim.Native.Nat.{ℕ, zero, suc, ◌+◌, ◌≤◌, ◌<◌}
use native.Mathlib.Omega.{arith}
use borrow.Author.Tests.{ltb-true, ltb-false, lt-ltb, eqb-true, eqb-false, eq-eqb, ne_eqb}
use lib.Dec.{ltb, leb, eqb}
use Rattle.area.specs.Lists.{one_if}
use Rattle.area.proofs.Walks.{by_test, and_left, and_right, and_both, or_either, true_not_false}
use Rattle.routines.specs.declared.Due.{Due}
use Rattle.routines.specs.declared.Program.{Program}
use Rattle.routines.specs.declared.Programs.{Programs}
use Rattle.routines.specs.declared.Scheduled.{Scheduled}
use Rattle.routines.specs.Ranks.{top_rank, nothing_due, is_due, waiting_at}
use Rattle.routines.specs.Waits.{Waits, is_unit, due_at, waits_at, with_due, highest}
use Rattle.routines.specs.Schedule.{interrupted_by, look_of, given_back, none_runs}
use Rattle.routines.specs.Right.{due_right}
use Rattle.routines.proofs.Laws.Highest.{highest_waits, with_other, with_same}
use Rattle.routines.proofs.Laws.Schedule.{by_look, enters_above, by_back, back_above}
use Rattle.routines_theorems.specs.Machine.{Machine, Event, answer, freeze, thaw, return, fresh, answers, made_due, with_freeze, begun_afresh, prepared, Act, looks, returns, rests, act_of, scheduled, cleared, after, step, Sound}
use Rattle.routines_theorems.specs.History.{run, did, count, is_program, makes_at, enters_in, starts_afresh}
use Rattle.routines_theorems.proofs.Laws.Steps.{Answers, may_answer, Cases, by_cases, step_sound}

-- ---- the scheduler enters what is highest, if it enters

pub entered_highest : (a : Act) (m : Machine) → (scheduled a m).entered ≡ true → ((scheduled a m).programs.running ≡ highest m.waits) × (0 < (highest m.waits).rank)
unfolding interrupted_by
entered_highest looks m =
    by_look m.programs m.frozen (highest m.waits) (λ r. r.entered ≡ true → (r.programs.running ≡ highest m.waits) × (0 < (highest m.waits).rank))
    (λ e. λ f. let l = enters_above m.programs m.frozen (highest m.waits) e in (refl, omega arith))
    (λ e. λ f. true_not_false f refl)
entered_highest returns m =
    by_back m.programs m.frozen (highest m.waits) (λ r. r.entered ≡ true → (r.programs.running ≡ highest m.waits) × (0 < (highest m.waits).rank))
    (λ e. λ f. let l = back_above m.programs m.frozen (highest m.waits) e in (refl, omega arith))
    (λ e. λ f. true_not_false f refl)
entered_highest rests m = λ f. true_not_false f refl

-- ---- the routine that waits at a unit is entered, or left

pub data Fate (c u : ℕ) (w : Waits) (r : Scheduled) : Type 0 where
  taken : r.entered ≡ true → r.programs.running ≡ waiting_at c u (due_at w c u) → 0 < (due_at w c u).rank → due_at (cleared r w) c u ≡ nothing_due → Fate c u w r
  left : ((p : Program) → p.channel ≡ c → p.unit ≡ u → (r.entered && is_program r.programs.running p) ≡ false) → due_at (cleared r w) c u ≡ due_at w c u → Fate c u w r

-- two programs of different units differ
differ_channel : (x p : Program) → (x.channel ≡ p.channel → ⊥) → is_program x p ≡ false
differ_channel x p f = rw (ne_eqb x.channel p.channel f) (go (eqb x.rank p.rank))
  where
    go : (b : Bool) → (b && false) ≡ false
    go true = refl
    go false = refl

differ_unit : (x p : Program) → (x.unit ≡ p.unit → ⊥) → is_program x p ≡ false
differ_unit x p f = rw (ne_eqb x.unit p.unit f) (go (eqb x.rank p.rank) (eqb x.channel p.channel))
  where
    go : (a b : Bool) → (a && (b && false)) ≡ false
    go true true = refl
    go true false = refl
    go false b = refl

module _ (c u : ℕ) (w : Waits) (r : Scheduled) (high : r.entered ≡ true → (r.programs.running ≡ highest w) × (0 < (highest w).rank)) where
  -- it is that of the unit
  here : r.entered ≡ true → r.programs.running.channel ≡ c → r.programs.running.unit ≡ u → Fate c u w r
  unfolding cleared
  here e k v =
      let own : waiting_at (highest w).channel (highest w).unit (due_at w (highest w).channel (highest w).unit) ≡ highest w = (highest_waits w (high e).1).1 in
      let at : is_unit w (highest w).channel (highest w).unit ≡ true = (highest_waits w (high e).1).0 in
      let hc : (highest w).channel ≡ c = sym (ap (λ (p : Program). p.channel) (high e).0) ∙ k in
      let hu : (highest w).unit ≡ u = sym (ap (λ (p : Program). p.unit) (high e).0) ∙ v in
      let mine : waiting_at c u (due_at w c u) ≡ highest w =
      ap (λ (x : ℕ). waiting_at x u (due_at w x u)) (sym hc) ∙ (ap (λ (x : ℕ). waiting_at (highest w).channel x (due_at w (highest w).channel x)) (sym hu) ∙ own) in
      let unit : is_unit w c u ≡ true = rw (hc, hu) at at in
      let rank : (due_at w c u).rank ≡ (highest w).rank = ap (λ (p : Program). p.rank) mine in
      let l = (high e).1 in
      taken e ((high e).0 ∙ sym mine) (omega arith) (rw (e, k, v) (with_same w c u nothing_due unit))

  -- it is that of another unit
  elsewhere : r.entered ≡ true → (r.programs.running.channel ≡ c → r.programs.running.unit ≡ u → ⊥) → Fate c u w r
  unfolding cleared
  elsewhere e f =
      left (λ p k v. rw e (other p k v (eqb r.programs.running.channel p.channel) refl))
      (rw e (with_other w r.programs.running.channel r.programs.running.unit nothing_due c u (λ x. λ y. f (sym x) (sym y))))
    where
      other : (p : Program) → p.channel ≡ c → p.unit ≡ u → (b : Bool) → eqb r.programs.running.channel p.channel ≡ b → is_program r.programs.running p ≡ false
      other p k v false q = differ_channel r.programs.running p (eqb-false _ _ q)
      other p k v true q = differ_unit r.programs.running p (λ y. f (eqb-true _ _ q ∙ k) (y ∙ v))

  nowhere : r.entered ≡ false → Fate c u w r
  unfolding cleared
  nowhere e = left (λ p k v. rw e) (rw e)

  one_fate : Fate c u w r
  one_fate = go r.entered refl (eqb r.programs.running.channel c) refl (eqb r.programs.running.unit u) refl
    where
      go : (t : Bool) → r.entered ≡ t → (a : Bool) → eqb r.programs.running.channel c ≡ a → (b : Bool) → eqb r.programs.running.unit u ≡ b → Fate c u w r
      go false e a p b q = nowhere e
      go true e false p b q = elsewhere e (λ x. λ y. eqb-false _ _ p x)
      go true e true p false q = elsewhere e (λ x. λ y. eqb-false _ _ q y)
      go true e true p true q = here e (eqb-true _ _ p) (eqb-true _ _ q)

pub fate : (c u : ℕ) (a : Act) (m : Machine) → Fate c u m.waits (scheduled a m)
fate c u a m = one_fate c u m.waits (scheduled a m) (entered_highest a m)

-- ---- what a call does to a unit before the scheduler

-- nothing is due where what is due is right and has no rank
pub none_due : (d : Due) → due_right d ≡ true → is_due d ≡ false → d ≡ nothing_due
none_due d right none =
    let l : d.rank ≤ 0 = ltb-false 0 d.rank none in
    let z : d.rank ≡ 0 = omega arith in
    let y : d.routine ≡ 0 = or_either (ltb 0 d.rank) _ (and_right (leb d.rank top_rank) _ right) (λ t. true_not_false t none) (λ t. eqb-true _ _ t) in
    ap (λ (x : ℕ). record { rank = x; routine = d.routine }) z ∙ ap (λ (x : ℕ). record { rank = 0; routine = x }) y

-- a call that makes nothing due at the unit, and is no fresh start, leaves what is due there
module _ (c u : ℕ) (m : Machine) (s : Sound m) where
  abbrev Leaves : Event → Act → Machine → Type 0
  Leaves e a n = makes_at c u m e ≡ false → starts_afresh m e ≡ false → due_at n.waits c u ≡ due_at m.waits c u

  leaves : Cases m Leaves
  unfolding makes_at
  leaves = record {
    answered = λ k v d x. λ f. λ g. go k v d x (eqb c k) refl (eqb u v) refl f;
    unasked = λ k v d x. λ f. λ g. refl;
    freezes = λ f. λ g. refl;
    thaws = λ f. λ g. refl;
    refused = λ n. λ f. λ g. refl;
    given = λ n. λ f. λ g. refl;
    starts = λ f. λ g. true_not_false refl g;
  }
    where
      unnamed : {k v : ℕ} {a : Bool} (b : Bool) → k ≡ c → v ≡ u → a ≡ true → (a && (b && (eqb k c && eqb v u))) ≡ false → b ≡ false
      unnamed false kc vu e f = refl
      unnamed {k} {v} true kc vu e f =
          let y : eqb k c ≡ true = eq-eqb k c kc in
          let z : eqb v u ≡ true = eq-eqb v u vu in
          true_not_false refl (rw (e, y, z) at f)

      go : (k v : ℕ) (d : Due) → Answers m k v d → (a : Bool) → eqb c k ≡ a → (b : Bool) → eqb u v ≡ b → makes_at c u m (answer k v d) ≡ false → due_at (with_due m.waits k v d) c u ≡ due_at m.waits c u
      go k v d x false p b q f = with_other m.waits k v d c u (λ y. λ z. eqb-false _ _ p y)
      go k v d x true p false q f = with_other m.waits k v d c u (λ y. λ z. eqb-false _ _ q z)
      go k v d x true p true q f =
          let ck : c ≡ k = eqb-true c k p in
          let uv : u ≡ v = eqb-true u v q in
          let none : is_due d ≡ false = unnamed (is_due d) (sym ck) (sym uv) x.may f in
          rw (ck, uv) (with_same m.waits k v d x.unit ∙ (none_due d x.right none ∙ sym (none_due (due_at m.waits k v) (s.dues k v) x.free)))

-- ---- a call, to the unit

pub step_waits : (m : Machine) (e : Event) → (step m e).waits ≡ cleared (did m e) (prepared m e).waits
unfolding step after
step_waits m e = refl

-- the program is that of the unit
same_program : (p : Program) → is_program p p ≡ true
same_program p = rw (eq-eqb p.rank p.rank refl, eq-eqb p.channel p.channel refl, eq-eqb p.unit p.unit refl, eq-eqb p.routine p.routine refl)

-- the routine that waits at a unit before the scheduler is at work: it is entered, or it waits on
pub data Passed (c u : ℕ) (d : Due) (m : Machine) (e : Event) : Type 0 where
  enters : enters_in (waiting_at c u d) m e ≡ true → is_due d ≡ true → due_at (step m e).waits c u ≡ nothing_due → Passed c u d m e
  stays : ((x : Due) → enters_in (waiting_at c u x) m e ≡ false) → due_at (step m e).waits c u ≡ d → Passed c u d m e

pub passed : (c u : ℕ) (d : Due) (m : Machine) (e : Event) → due_at (prepared m e).waits c u ≡ d → Passed c u d m e
unfolding enters_in
passed c u d m e w = go (fate c u (act_of m e) (prepared m e))
  where
    go : Fate c u (prepared m e).waits (did m e) → Passed c u d m e
    go (taken t runs high none) =
        enters
        (and_both (did m e).entered _ t (ap (λ (p : Program). is_program p (waiting_at c u d)) (runs ∙ ap (waiting_at c u) w) ∙ same_program (waiting_at c u d)))
        (lt-ltb 0 d.rank (rw w at high))
        (ap (λ (x : Waits). due_at x c u) (step_waits m e) ∙ none)
    go (left other same) = stays (λ x. other (waiting_at c u x) refl refl) (ap (λ (x : Waits). due_at x c u) (step_waits m e) ∙ (same ∙ w))

-- ---- later calls

-- a sum of two that is 0
none_first : (b : Bool) (n : ℕ) → one_if b + n ≡ 0 → b ≡ false
none_first false n e = refl
none_first true n e = absurd (omega arith)

none_rest : (b : Bool) (n : ℕ) → one_if b + n ≡ 0 → n ≡ 0
none_rest b n e = omega arith

not_due : is_due nothing_due ≡ false
not_due = refl

module _ (c u : ℕ) (d : Due) where
  -- nothing waits, and nothing is entered
  gone : (m : Machine) (h : List Event) → Sound m → due_at m.waits c u ≡ nothing_due → count starts_afresh m h ≡ 0 → count (makes_at c u) m h ≡ 0
      → (count (enters_in (waiting_at c u d)) m h ≡ 0) × (due_at (run m h).waits c u ≡ nothing_due)
  unfolding count run
  gone m [] s w f g = (refl, w)
  gone m (e ∷ h) s w f g =
      go (λ v. gone (step m e) h (step_sound m e s) v (none_rest (starts_afresh m e) _ f) (none_rest (makes_at c u m e) _ g))
      (passed c u nothing_due m e (by_cases (leaves c u m s) e (none_first (makes_at c u m e) _ g) (none_first (starts_afresh m e) _ f) ∙ w))
    where
      go : (due_at (step m e).waits c u ≡ nothing_due → (count (enters_in (waiting_at c u d)) (step m e) h ≡ 0) × (due_at (run (step m e) h).waits c u ≡ nothing_due)) → Passed c u nothing_due m e → (one_if (enters_in (waiting_at c u d) m e) + count (enters_in (waiting_at c u d)) (step m e) h ≡ 0) × (due_at (run (step m e) h).waits c u ≡ nothing_due)
      go rest (enters t due none) = true_not_false due not_due
      go rest (stays none v) = let z = rest v in (rw (none d) (omega arith), z.1)

  -- d waits: it is entered once, or waits still
  waiting_on : (m : Machine) (h : List Event) → Sound m → due_at m.waits c u ≡ d → is_due d ≡ true → count starts_afresh m h ≡ 0 → count (makes_at c u) m h ≡ 0
      → (count (enters_in (waiting_at c u d)) m h + one_if (waits_at (run m h).waits c u) ≡ 1) × (waits_at (run m h).waits c u ≡ true → due_at (run m h).waits c u ≡ d)
  unfolding count run
  waiting_on m [] s w due f g = (rw (w, due), λ t. w)
  waiting_on m (e ∷ h) s w due f g =
      go (λ v. waiting_on (step m e) h (step_sound m e s) v due (none_rest (starts_afresh m e) _ f) (none_rest (makes_at c u m e) _ g))
      (passed c u d m e (by_cases (leaves c u m s) e (none_first (makes_at c u m e) _ g) (none_first (starts_afresh m e) _ f) ∙ w))
    where
      go : (due_at (step m e).waits c u ≡ d → (count (enters_in (waiting_at c u d)) (step m e) h + one_if (waits_at (run (step m e) h).waits c u) ≡ 1) × (waits_at (run (step m e) h).waits c u ≡ true → due_at (run (step m e) h).waits c u ≡ d)) → Passed c u d m e → (one_if (enters_in (waiting_at c u d) m e) + count (enters_in (waiting_at c u d)) (step m e) h + one_if (waits_at (run (step m e) h).waits c u) ≡ 1) × (waits_at (run (step m e) h).waits c u ≡ true → due_at (run (step m e) h).waits c u ≡ d)
      go rest (enters t y none) =
          let z = gone (step m e) h (step_sound m e s) none (none_rest (starts_afresh m e) _ f) (none_rest (makes_at c u m e) _ g) in
          let no : waits_at (run (step m e) h).waits c u ≡ false = ap is_due z.1 in
          (rw (t, no, z.0) refl, λ q. true_not_false q no)
      go rest (stays none v) =
          let z = rest v in
          (rw (none d) (omega (arith, z.0)), z.1)

-- a routine made due: entered once from that call on, or waiting still
module _ (c u : ℕ) (d : Due) (m : Machine) (later : List Event) (s : Sound m) (may : answers m c u d ≡ true) (due : is_due d ≡ true) where
  made : due_at (prepared m (answer c u d)).waits c u ≡ d
  unfolding prepared
  made = rw may (with_same m.waits c u d (may_answer m c u d may).unit)

  pub once_in_all : count starts_afresh (step m (answer c u d)) later ≡ 0 → count (makes_at c u) (step m (answer c u d)) later ≡ 0
      → (count (enters_in (waiting_at c u d)) m (answer c u d ∷ later) + one_if (waits_at (run m (answer c u d ∷ later)).waits c u) ≡ 1)
      × (waits_at (run m (answer c u d ∷ later)).waits c u ≡ true → due_at (run m (answer c u d ∷ later)).waits c u ≡ d)
  unfolding count run
  once_in_all f g = go (passed c u d m (answer c u d) made)
    where
      go : Passed c u d m (answer c u d) → (one_if (enters_in (waiting_at c u d) m (answer c u d)) + count (enters_in (waiting_at c u d)) (step m (answer c u d)) later + one_if (waits_at (run (step m (answer c u d)) later).waits c u) ≡ 1) × (waits_at (run (step m (answer c u d)) later).waits c u ≡ true → due_at (run (step m (answer c u d)) later).waits c u ≡ d)
      go (enters t y none) =
          let z = gone c u d (step m (answer c u d)) later (step_sound m (answer c u d) s) none f g in
          let no : waits_at (run (step m (answer c u d)) later).waits c u ≡ false = ap is_due z.1 in
          (rw (t, no, z.0) refl, λ q. true_not_false q no)
      go (stays none v) =
          let z = waiting_on c u d (step m (answer c u d)) later (step_sound m (answer c u d) s) v due f g in
          (rw (none d) (omega (arith, z.0)), z.1)
