-- What runs and the push-down list stay as they may be through a look and a return, and after each nothing is left to enter. Assumes nothing.
use mathlib.Core.Path.{◌≡◌, refl, sym, ap, ◌∙◌}
use mathlib.Core.Bool.{Bool, true, false, not, ◌&&◌, ◌||◌}
use mathlib.Core.List.{List, [], ◌∷◌}
use Prim.Native.Nat.{ℕ, zero, suc, ◌+◌, ◌-◌, ◌≤◌, ◌<◌}
use native.Mathlib.Nat.{le_refl}
use native.Mathlib.Omega.{arith}
use borrow.Author.Tests.{ltb-false, leb-true, le-leb, lt-ltb, eqb-true, eq-eqb}
use lib.Dec.{ltb, leb, eqb}
use lib.ListN.{length, get_or, set, drop, length-set}
use lib.Seq.{get_or-set_same, lt-length-set, drop-cons, drop-set-lt}
use Rattle.area.specs.Lists.{all_of}
use Rattle.area.proofs.Walks.{and_left, and_right, and_both, or_first, or_second, true_not_false, all_at, all_step}
use Rattle.area.proofs.Marks.{all_set}
use Rattle.routines.specs.declared.Program.{Program}
use Rattle.routines.specs.declared.Programs.{Programs}
use Rattle.routines.specs.Ranks.{depth, top_rank, main_program, is_main, under, list_of, main_alone}
use Rattle.routines.specs.Schedule.{enters, interrupted_by, look_of, last_pushed, enters_on_return, replaced_by, resumed_of, given_back, none_runs}
use Rattle.routines.specs.Right.{program_right, descends, programs_right, is_settled, unit_known, units_known}
use Rattle.routines.proofs.Laws.Lists.{under_set, under_last}
use Rattle.routines.proofs.Laws.Schedule.{by_look, enters_above, enters_room, list_interrupted, by_back, back_above}

-- ---- the clauses, as facts

pub record Clauses (p : Programs) : Type 0 where
  pub long : length p.pushed ≡ depth
  pub few : p.count ≤ depth
  pub own : program_right p.running ≡ true
  pub all : all_of program_right p.pushed ≡ true
  pub none : all_of is_main (drop p.count p.pushed) ≡ true
  pub falls : descends p.running (list_of p) ≡ true

pub clauses : (p : Programs) → programs_right p ≡ true → Clauses p
unfolding programs_right
clauses p e =
    let h = and_right (eqb (length p.pushed) depth) _ e in
    let a = and_right (leb p.count depth) _ h in
    let b = and_right (program_right p.running) _ a in
    let d = and_right (all_of program_right p.pushed) _ b in
    record {
      long = eqb-true (length p.pushed) depth (and_left (eqb (length p.pushed) depth) _ e);
      few = leb-true p.count depth (and_left (leb p.count depth) _ h);
      own = and_left (program_right p.running) _ a;
      all = and_left (all_of program_right p.pushed) _ b;
      none = and_left (all_of is_main (drop p.count p.pushed)) _ d;
      falls = and_right (all_of is_main (drop p.count p.pushed)) _ d;
    }

pub from_clauses : (p : Programs) → Clauses p → programs_right p ≡ true
unfolding programs_right
from_clauses p c =
    and_both (eqb (length p.pushed) depth) _ (eq-eqb _ _ c.long)
    (and_both (leb p.count depth) _ (le-leb _ _ c.few)
    (and_both (program_right p.running) _ c.own
    (and_both (all_of program_right p.pushed) _ c.all
    (and_both (all_of is_main (drop p.count p.pushed)) _ c.none c.falls))))

-- ---- small steps

bottom : (x : Program) (xs : List Program) → descends x (under xs 0) ≡ true → is_main x ≡ true
unfolding descends under
bottom x xs e = e

falling : (x y : Program) (xs : List Program) → descends x (y ∷ xs) ≡ true → descends y xs ≡ true
unfolding descends
falling x y xs e = and_right (ltb y.rank x.rank) _ e

all_more : (xs : List Program) → all_of is_main xs ≡ true → all_of is_main (main_program ∷ xs) ≡ true
unfolding all_of
all_more xs e = e

-- a routine is right by its rank alone
ranked : (x : Program) → x.rank ≤ top_rank → 0 < x.rank → program_right x ≡ true
ranked x low high = and_both (leb x.rank top_rank) _ (le-leb _ _ low) (or_first (ltb 0 x.rank) _ (lt-ltb 0 x.rank high))

-- ---- a look

module _ (p : Programs) (right : programs_right p ≡ true) where
  pub list_long : length p.pushed ≡ depth
  list_long = (clauses p right).long

  -- a program that is entered above what runs
  interrupted_right : (best : Program) → best.rank ≤ top_rank → p.running.rank < best.rank → p.count < depth → programs_right (interrupted_by p best) ≡ true
  unfolding interrupted_by descends
  interrupted_right best b above room =
      let c = clauses p right in
      let in_list : p.count < length p.pushed = omega (arith, c.long) in
      let past : all_of is_main (drop (p.count + 1) p.pushed) ≡ true = and_right (is_main (get_or p.pushed p.count main_program)) _ (sym (all_step is_main p.pushed main_program p.count in_list) ∙ c.none) in
      let same : drop (p.count + 1) (set p.pushed p.count p.running) ≡ drop (p.count + 1) p.pushed = drop-set-lt (p.count + 1) p.pushed p.count p.running (omega arith) in
      from_clauses (interrupted_by p best)
      (record {
        long = length-set p.pushed p.count p.running ∙ c.long;
        few = omega arith;
        own = ranked best b (omega arith);
        all = all_set program_right p.pushed p.count p.running c.all c.own;
        none = ap (all_of is_main) same ∙ past;
        falls = ap (descends best) (list_interrupted p best in_list) ∙ and_both (ltb p.running.rank best.rank) _ (lt-ltb _ _ above) c.falls;
      })

  pub look_right : (frozen : Bool) (best : Program) → best.rank ≤ top_rank → programs_right (look_of p frozen best).programs ≡ true
  look_right frozen best b =
      by_look p frozen best (λ r. programs_right r.programs ≡ true)
      (λ e. interrupted_right best b (enters_above p frozen best e) (enters_room p frozen best e))
      (λ e. right)

  -- ---- a return

  -- where a routine runs, something was interrupted
  pub routine_over : none_runs p ≡ false → 0 < p.count
  routine_over n = over p.count refl
    where
      over : (k : ℕ) → p.count ≡ k → 0 < k
      over (suc k) e = omega arith
      over zero e = true_not_false (bottom p.running p.pushed (rw e at (clauses p right).falls)) n

  module _ (n : none_runs p ≡ false) where
    -- what is last pushed is below what runs, and all below it falls
    last_falls : descends (last_pushed p) (under p.pushed (p.count - 1)) ≡ true
    last_falls = falling p.running _ _ (rw (under_last p.pushed p.count (routine_over n)) at (clauses p right).falls)

    in_list : p.count - 1 < length p.pushed
    in_list = let c = clauses p right in let o = routine_over n in omega (arith, c.long)

    last_right : program_right (last_pushed p) ≡ true
    last_right = all_at program_right main_program p.pushed (clauses p right).all (p.count - 1) in_list

    replaced_right : (best : Program) → best.rank ≤ top_rank → (last_pushed p).rank < best.rank → programs_right (replaced_by p best) ≡ true
    unfolding descends
    replaced_right best b above =
        let c = clauses p right in
        from_clauses (replaced_by p best)
        (record {
          long = c.long;
          few = c.few;
          own = ranked best b (omega arith);
          all = c.all;
          none = c.none;
          falls = ap (descends best) (under_last p.pushed p.count (routine_over n)) ∙ and_both (ltb (last_pushed p).rank best.rank) _ (lt-ltb _ _ above) last_falls;
        })

    resumed_right : programs_right (resumed_of p) ≡ true
    unfolding resumed_of
    resumed_right =
        let c = clauses p right in
        let o = routine_over n in
        let at : suc (p.count - 1) ≡ p.count = omega arith in
        let cleared : get_or (set p.pushed (p.count - 1) main_program) (p.count - 1) main_program ≡ main_program = get_or-set_same p.pushed (p.count - 1) main_program main_program in_list in
        let rest : drop p.count (set p.pushed (p.count - 1) main_program) ≡ drop p.count p.pushed = drop-set-lt p.count p.pushed (p.count - 1) main_program (omega arith) in
        let past : drop (p.count - 1) (set p.pushed (p.count - 1) main_program) ≡ main_program ∷ drop p.count p.pushed =
        drop-cons (set p.pushed (p.count - 1) main_program) (p.count - 1) main_program (lt-length-set p.pushed (p.count - 1) main_program in_list) ∙ rw (cleared, at, rest) in
        from_clauses (resumed_of p)
        (record {
          long = length-set p.pushed (p.count - 1) main_program ∙ c.long;
          few = omega arith;
          own = last_right;
          all = all_set program_right p.pushed (p.count - 1) main_program c.all refl;
          none = ap (all_of is_main) past ∙ all_more _ c.none;
          falls = ap (descends (last_pushed p)) (under_set p.pushed (p.count - 1) main_program (p.count - 1) (le_refl _)) ∙ last_falls;
        })

    pub back_right : (frozen : Bool) (best : Program) → best.rank ≤ top_rank → programs_right (given_back p frozen best).programs ≡ true
    back_right frozen best b =
        by_back p frozen best (λ r. programs_right r.programs ≡ true)
        (λ e. replaced_right best b (back_above p frozen best e))
        (λ e. resumed_right)

-- ---- nothing is left to enter: `next` is what is highest afterwards, no higher than what was

module _ (p : Programs) (frozen : Bool) (best next : Program) (less : next.rank ≤ best.rank) where
  pub look_settled : is_settled (look_of p frozen best).programs frozen next ≡ true
  unfolding is_settled interrupted_by enters
  look_settled =
      by_look p frozen best (λ r. is_settled r.programs frozen next ≡ true)
      (λ e. or_second frozen _ (or_second (leb depth (p.count + 1)) _ (le-leb _ _ less)))
      (λ e. go frozen (ltb p.running.rank best.rank) (ltb p.count depth) refl refl e)
    where
      go : (a b c : Bool) → ltb p.running.rank best.rank ≡ b → ltb p.count depth ≡ c → (not a && (b && c)) ≡ false → (a || (leb depth p.count || leb next.rank p.running.rank)) ≡ true
      go true b c f g e = refl
      go false false c f g e = let l = ltb-false p.running.rank best.rank f in or_second (leb depth p.count) _ (le-leb next.rank p.running.rank (omega arith))
      go false true false f g e = or_first (leb depth p.count) _ (le-leb depth p.count (ltb-false p.count depth g))
      go false true true f g e = true_not_false refl e

  pub back_settled : is_settled (given_back p frozen best).programs frozen next ≡ true
  unfolding is_settled resumed_of enters_on_return
  back_settled =
      by_back p frozen best (λ r. is_settled r.programs frozen next ≡ true)
      (λ e. or_second frozen _ (or_second (leb depth p.count) _ (le-leb _ _ less)))
      (λ e. go frozen (ltb (last_pushed p).rank best.rank) refl e)
    where
      go : (a b : Bool) → ltb (last_pushed p).rank best.rank ≡ b → (not a && b) ≡ false → (a || (leb depth (p.count - 1) || leb next.rank (last_pushed p).rank)) ≡ true
      go true b f e = refl
      go false false f e = let l = ltb-false (last_pushed p).rank best.rank f in or_second (leb depth (p.count - 1)) _ (le-leb next.rank (last_pushed p).rank (omega arith))
      go false true f e = true_not_false refl e

-- ---- the units of routines stay known

known_at : (declared : ℕ → ℕ → Bool) (xs : List Program) (i : ℕ) → all_of (unit_known declared) xs ≡ true → unit_known declared (get_or xs i main_program) ≡ true
unfolding all_of
known_at declared [] i e = refl
known_at declared (x ∷ xs) zero e = and_left (unit_known declared x) _ e
known_at declared (x ∷ xs) (suc i) e = known_at declared xs i (and_right (unit_known declared x) _ e)

module _ (declared : ℕ → ℕ → Bool) (p : Programs) (frozen : Bool) (best : Program) (known : units_known declared p ≡ true) (own : unit_known declared best ≡ true) where
  running_known : unit_known declared p.running ≡ true
  unfolding units_known
  running_known = and_left (unit_known declared p.running) _ known

  pushed_known : all_of (unit_known declared) p.pushed ≡ true
  unfolding units_known
  pushed_known = and_right (unit_known declared p.running) _ known

  pub look_known : units_known declared (look_of p frozen best).programs ≡ true
  unfolding units_known interrupted_by
  look_known =
      by_look p frozen best (λ r. units_known declared r.programs ≡ true)
      (λ e. and_both (unit_known declared best) _ own (all_set (unit_known declared) p.pushed p.count p.running pushed_known running_known))
      (λ e. known)

  pub back_known : units_known declared (given_back p frozen best).programs ≡ true
  unfolding units_known resumed_of
  back_known =
      by_back p frozen best (λ r. units_known declared r.programs ≡ true)
      (λ e. and_both (unit_known declared best) _ own pushed_known)
      (λ e. and_both (unit_known declared (last_pushed p)) _ (known_at declared p.pushed (p.count - 1) pushed_known) (all_set (unit_known declared) p.pushed (p.count - 1) main_program pushed_known refl))

-- ---- the list keeps its length

pub look_long : (p : Programs) (frozen : Bool) (best : Program) → length (look_of p frozen best).programs.pushed ≡ length p.pushed
unfolding interrupted_by
look_long p frozen best =
    by_look p frozen best (λ r. length r.programs.pushed ≡ length p.pushed) (λ e. length-set p.pushed p.count p.running) (λ e. refl)

pub back_long : (p : Programs) (frozen : Bool) (best : Program) → length (given_back p frozen best).programs.pushed ≡ length p.pushed
unfolding resumed_of
back_long p frozen best =
    by_back p frozen best (λ r. length r.programs.pushed ≡ length p.pushed) (λ e. refl) (λ e. length-set p.pushed (p.count - 1) main_program)

-- ---- the main program alone

pub main_right : programs_right main_alone ≡ true
unfolding main_alone programs_right all_of descends under
main_right = refl

pub main_known : (declared : ℕ → ℕ → Bool) → units_known declared main_alone ≡ true
unfolding main_alone units_known all_of
main_known declared = refl
