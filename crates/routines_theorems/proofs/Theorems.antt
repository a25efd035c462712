-- What is promised of special routines, over every history (document 02, M-110; the manual, "Special Routines" and "Program Scheduler"). Assumes nothing.
use mathlib.Core.Path.{◌≡◌, refl, sym, ap, ◌∙◌}
use mathlib.Core.Bool.{Bool, true, false, ◌&&◌, ◌||◌}
use mathlib.Core.List.{List, [], ◌∷◌, map}
use Prim.Native.Nat.{ℕ, ◌+◌, ◌≤◌, ◌<◌}
use native.Mathlib.Nat.{le_trans}
use native.Mathlib.Omega.{arith}
use borrow.Author.Tests.{ltb-true, leb-true, leb-false, eqb-true}
use lib.Dec.{ltb, leb, eqb}
use lib.ListN.{length, get_or}
use Rattle.area.specs.Lists.{one_if}
use Rattle.area.proofs.Walks.{and_left, and_right, or_either, or_right, true_not_false}
use Rattle.routines.specs.declared.Due.{Due}
use Rattle.routines.specs.declared.Program.{Program}
use Rattle.routines.specs.declared.Programs.{Programs}
use Rattle.routines.specs.Ranks.{depth, top_rank, rank_of, main_program, is_due, waiting_at, under, list_of}
use Rattle.routines.specs.Waits.{due_at, waits_at, highest}
use Rattle.routines.specs.Schedule.{look_of}
use Rattle.routines.specs.Right.{due_right, descends, programs_right, is_settled}
use Rattle.routines.proofs.Laws.Highest.{highest_rank, highest_first, highest_waits, with_same, with_other}
use Rattle.routines.proofs.Laws.Schedule.{look_stays}
use Rattle.routines.proofs.Laws.Own.{settled_stays, look_own}
use Rattle.routines.proofs.Laws.Kept.{clauses}
use Rattle.routines_theorems.specs.Machine.{Machine, Event, answer, answers, prepared, looks, act_of, scheduled, cleared, after, begun_afresh, step, Sound}
use Rattle.routines_theorems.specs.History.{run, did, count, makes_at, enters_in, starts_afresh, Once, is_full, KeptOut, EnteredFirst, turns, Reversed}
use Rattle.routines_theorems.specs.Example.{begun, worked, Line, shown, Seen}
use Rattle.routines_theorems.proofs.Laws.Steps.{may_answer, run_sound, fresh_sound}
use Rattle.routines_theorems.proofs.Laws.Entries.{entered_highest, once_in_all}
use Rattle.routines_theorems.proofs.Laws.Turns as Turns

-- the machine is sound from a fresh start on, whatever is called
pub sound_always : (m : Machine) (h : List Event) → Sound (run (begun_afresh m) h)
sound_always m h = run_sound (begun_afresh m) h (fresh_sound m)

-- "made due once .. entered at most once, exactly once if it no longer waits and no fresh start came"
pub entered_once : (c u : ℕ) (d : Due) (m : Machine) (later : List Event) → Sound m → answers m c u d ≡ true → is_due d ≡ true
    → count starts_afresh (step m (answer c u d)) later ≡ 0 → count (makes_at c u) (step m (answer c u d)) later ≡ 0
    → Once c u d m later
entered_once c u d m later s may due f g =
    let z = once_in_all c u d m later s may due f g in
    let one : count (enters_in (waiting_at c u d)) m (answer c u d ∷ later) + one_if (waits_at (run m (answer c u d ∷ later)).waits c u) ≡ 1 = z.0 in
    record {
      at_most = omega (arith, one);
      exactly = λ e. let none : one_if (waits_at (run m (answer c u d ∷ later)).waits c u) ≡ 0 = rw e in omega (arith, one, none);
      not_yet = λ e. let some : one_if (waits_at (run m (answer c u d ∷ later)).waits c u) ≡ 1 = rw e in omega (arith, one, some);
      still = z.1;
    }

-- "when nothing is frozen and the list is not full, what runs is at least as high as all that wait"
pub runs_highest : (m : Machine) → Sound m → m.frozen ≡ false → is_full m ≡ false → (c u : ℕ) → (due_at m.waits c u).rank ≤ m.programs.running.rank
unfolding is_settled
runs_highest m s f g c u =
    let low : leb (highest m.waits).rank m.programs.running.rank ≡ true = rw (f, g) at s.settled in
    le_trans (highest_rank m.waits c u) (leb-true _ _ low)

-- five ranks that fall strictly to 0, and one above them all that is in range, are 4, 3, 2, 1, 0 and 5
falling : (run a b c d w : ℕ) → (ltb a run && (ltb b a && (ltb c b && (ltb d c && eqb d 0)))) ≡ true → run < w → w ≤ top_rank
    → (run ≡ rank_of 3) × (a ≡ rank_of 2) × (b ≡ rank_of 1) × (c ≡ rank_of 0) × (d ≡ 0) × (w ≡ rank_of 4)
falling run a b c d w e above top =
    let e2 = and_right (ltb a run) _ e in
    let e3 = and_right (ltb b a) _ e2 in
    let e4 = and_right (ltb c b) _ e3 in
    let l1 : a < run = ltb-true a run (and_left (ltb a run) _ e) in
    let l2 : b < a = ltb-true b a (and_left (ltb b a) _ e2) in
    let l3 : c < b = ltb-true c b (and_left (ltb c b) _ e3) in
    let l4 : d < c = ltb-true d c (and_left (ltb d c) _ e4) in
    let l5 : d ≡ 0 = eqb-true d 0 (and_right (ltb d c) _ e4) in
    (omega arith, omega arith, omega arith, omega arith, l5, omega arith)

-- "The one full list that keeps a routine out is main, 0, 1, 2 below a running 3, with a 4 waiting."
pub full_list : (m : Machine) → Sound m → m.frozen ≡ false → (c u : ℕ) → m.programs.running.rank < (due_at m.waits c u).rank → KeptOut m.programs (due_at m.waits c u)
unfolding is_settled descends under
full_list m s f c u above =
    or_either (leb depth m.programs.count) _ (rw f at s.settled) full (λ low. absurd (let h = highest_rank m.waits c u in let l = leb-true (highest m.waits).rank m.programs.running.rank low in omega arith))
  where
    full : leb depth m.programs.count ≡ true → KeptOut m.programs (due_at m.waits c u)
    full e =
        let few = (clauses m.programs s.programs).few in
        let l = leb-true depth m.programs.count e in
        let four : m.programs.count ≡ 4 = omega arith in
        let falls = (clauses m.programs s.programs).falls in
        let top : (due_at m.waits c u).rank ≤ top_rank = leb-true _ _ (and_left (leb (due_at m.waits c u).rank top_rank) _ (s.dues c u)) in
        let z = falling m.programs.running.rank (get_or m.programs.pushed 3 main_program).rank (get_or m.programs.pushed 2 main_program).rank (get_or m.programs.pushed 1 main_program).rank (get_or m.programs.pushed 0 main_program).rank (due_at m.waits c u).rank (rw four at falls) above top in
        record { runs = z.0; below = rw (four, z.1, z.2, z.3, z.4); waiting = z.5 }

-- "4 is highest; ties go to the lowest channel, then unit.", and what is entered was waiting at its unit
pub enters_first : (m : Machine) (e : Event) → (did m e).entered ≡ true → EnteredFirst (prepared m e).waits (did m e).programs.running
enters_first m e t =
    let runs = entered_highest (act_of m e) (prepared m e) t in
    rw runs.0
    (record {
      waited = (highest_waits (prepared m e).waits runs.1).1;
      named = runs.1;
      first = λ c u k. highest_first (prepared m e).waits c u k;
    })

-- "programs resume in the reverse order of their interruption"
pub resumed_in_reverse : (m : Machine) (h : List Event) → Sound m → Reversed (list_of m.programs) (turns m h) (list_of (run m h).programs)
resumed_in_reverse m h s = Turns.reversed m h s

-- a look enters at most one: a second look right after it changes nothing
pub look_once : (m : Machine) → Sound m → after (scheduled looks m) m ≡ m
unfolding after cleared
look_once m s = rw (look_stays m.programs m.frozen (highest m.waits) (settled_stays m.programs m.frozen (highest m.waits) s.settled))

-- "An ask may name a routine .., which becomes due when the request is answered": it stands at its unit when the look is made, and no other unit is touched
pub made_due_lem : (m : Machine) (c u : ℕ) (d : Due) → answers m c u d ≡ true → due_at (prepared m (answer c u d)).waits c u ≡ d
unfolding prepared
made_due_lem m c u d may = rw may (with_same m.waits c u d (may_answer m c u d may).unit)

pub others_stay : (m : Machine) (c u : ℕ) (d : Due) → answers m c u d ≡ true → (k v : ℕ) → (k ≡ c → v ≡ u → ⊥) → due_at (prepared m (answer c u d)).waits k v ≡ due_at m.waits k v
unfolding prepared
others_stay m c u d may k v f = rw may (with_other m.waits c u d k v f)

-- "a report's look can enter only the routine that this report made due": it need not look at what waits elsewhere
pub report_looks_at_its_own : (m : Machine) (c u : ℕ) (d : Due) → Sound m → answers m c u d ≡ true → did m (answer c u d) ≡ look_of m.programs m.frozen (waiting_at c u d)
unfolding prepared act_of
report_looks_at_its_own m c u d s may = rw may (look_own m.programs m.waits c u d (may_answer m c u d may).unit m.frozen s.settled)
