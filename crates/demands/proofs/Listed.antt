-- The roster beside the routines: what a look and a return do to both, and what they enter. Assumes nothing.
use mathlib.Core.Path.{◌≡◌, refl, sym, ap, subst, ◌∙◌}
use mathlib.Core.Bool.{Bool, true, false, cond, ◌&&◌}
use mathlib.Core.Option.{Option, none, some}
use mathlib.Core.List.{List, [], ◌∷◌}
use Prim.Native.Nat.{ℕ, ◌-◌, ◌<◌}
use native.Mathlib.Omega.{arith}
use borrow.Author.Tests.{ltb-false, lt-ltb, le-leb, eq-eqb, ne_eqb}
use lib.Dec.{ltb, leb, eqb}
use lib.ListN.{length, get_or, replicate, length-map, get_or-replicate, get_or-eq_default}
use native.Mathlib.Decide.{dec_lt}
use Rattle.area.proofs.Walks.{and_both}
use Rattle.channel.specs.Units.{unit_count, channel_count}
use Rattle.routines.specs.declared.Due.{Due}
use Rattle.routines.specs.declared.Naming.{Naming}
use Rattle.routines.specs.declared.Program.{Program}
use Rattle.routines.specs.declared.Programs.{Programs}
use Rattle.routines.specs.declared.Post.{Post}
use Rattle.routines.specs.declared.Posts.{Posts}
use Rattle.routines.specs.declared.Routines.{Routines}
use Rattle.routines.specs.Ranks.{depth, highest_priority, rank_of, nothing_due, is_due, due_named, waiting_at, main_alone, under, list_of}
use Rattle.routines.specs.Order.{NotBefore}
use Rattle.routines.specs.Waits.{is_unit}
use Rattle.routines.specs.Schedule.{interrupted_by, last_pushed, replaced_by, resumed_of, none_runs}
use Rattle.routines.specs.Right.{programs_right}
use Rattle.routines.specs.Posts.{naming_wrong, due_of, empty_post, no_posts, due_in, no_routines, post_at, waits_of, with_programs, with_post}
use Rattle.routines.specs.Changes.{asked_in, made_due_in, cleared_in}
use Rattle.routines.proofs.Laws.Schedule.{list_interrupted, list_resumed}
use Rattle.routines.proofs.Laws.Lists.{under_last}
use Rattle.routines.proofs.Laws.Kept.{clauses, routine_over}
use Rattle.routines.proofs.Laws.Table.{dues_at, named_unit}
use Rattle.routines.proofs.Laws.Facts.{RoutinesReady}
use Rattle.routines_theorems.specs.History.{is_program}
use Rattle.demands.specs.Entries.{First}
use Rattle.demands.specs.Routines.{another, Roster, blank_roster, at_unit, named_by, with_name, with_due, with_look, past_first, with_return}
use Rattle.demands.proofs.Looks.{dues_of, Looked, stays, Back, resumes, asked_named, asked_due, made_named, made_due_lem, cleared_named, cleared_due, first_unit}
use Rattle.demands.proofs.Looks as looks

-- ---- programs

pub same_program : (p : Program) → is_program p p ≡ true
same_program p =
    and_both (eqb p.rank p.rank) _ (eq-eqb p.rank p.rank refl)
    (and_both (eqb p.channel p.channel) _ (eq-eqb p.channel p.channel refl)
    (and_both (eqb p.unit p.unit) _ (eq-eqb p.unit p.unit refl) (eq-eqb p.routine p.routine refl)))

-- the same program runs, so none was entered; one that is higher is another
pub none_entered : (p q : Program) → q ≡ p → another p q ≡ none
none_entered p q e = ap (another p) e ∙ rw (same_program p)

some_entered : (p q : Program) → p.rank < q.rank → another p q ≡ some q
some_entered p q l = rw (ne_eqb q.rank p.rank (λ e. omega (arith, e, l)))

pub some_own : (x y : Program) → ◌≡◌ {A = Option Program} (some x) (some y) → x ≡ y
some_own x y e = cc

pub none_some : (x : Program) → ◌≡◌ {A = Option Program} none (some x) → ⊥
none_some x e = absurd (let z : ◌≡◌ {A = ℕ} 0 1 = cc in omega arith)

-- ---- the roster beside the routines

pub record Lists (q : Roster) (R : Routines) : Type 0 where
  pub names : (c u : ℕ) → q.names c u ≡ (post_at R c u).named
  pub waits : (c u : ℕ) → q.waits c u ≡ (post_at R c u).due
  pub list : q.list ≡ list_of R.programs

-- nothing is named, waits or was interrupted
none_at : (c u : ℕ) → post_at no_routines c u ≡ empty_post
unfolding no_routines
none_at c u = line (dec_lt c channel_count)
  where
    row : Dec (u < unit_count) → get_or (replicate unit_count empty_post) u empty_post ≡ empty_post
    row (yes l) = get_or-replicate unit_count u empty_post empty_post l
    row (no h) = get_or-eq_default (replicate unit_count empty_post) empty_post {n = u} (omega (arith, h))

    line : Dec (c < channel_count) → post_at no_routines c u ≡ empty_post
    line (yes l) =
        ap (λ (p : Posts). get_or p.units u empty_post) (get_or-replicate channel_count c (record { units = replicate unit_count empty_post }) no_posts l) ∙ row (dec_lt u unit_count)
    line (no h) =
        ap (λ (p : Posts). get_or p.units u empty_post)
        (get_or-eq_default (replicate channel_count (record { units = replicate unit_count empty_post })) no_posts {n = c} (omega (arith, h)))

pub lists_none : Lists blank_roster no_routines
unfolding no_routines main_alone under
lists_none = record {
  names = λ c u. ap (λ (x : Post). x.named) (sym (none_at c u));
  waits = λ c u. ap (λ (x : Post). x.due) (sym (none_at c u));
  list = refl;
}

-- ---- units

-- the posts of a channel's units
pub unit_is : (declared asked : ℕ → ℕ → Bool) (R : Routines) → RoutinesReady declared asked R → (c u : ℕ) → c < channel_count → u < unit_count → is_unit (waits_of R) c u ≡ true
unit_is declared asked R ready c u l k =
    let line : c < length R.posts = omega (arith, ready.table, l) in
    let long : length (get_or (waits_of R) c []) ≡ unit_count = ap length (dues_at R c) ∙ length-map (get_or R.posts c no_posts).units due_in ∙ ready.rows c line in
    lt-ltb u (length (get_or (waits_of R) c [])) (omega (arith, long, k))

-- ---- an ask

-- an accepted one's priority is 0 to 4
named_as_lem : (n : Naming) → naming_wrong n ≡ false → named_by n ≡ due_of n
unfolding due_named
named_as_lem n e = go n.given e
  where
    go : (b : Bool) → (b && ltb highest_priority n.level) ≡ false
        → cond b (record { rank = rank_of n.level; routine = n.routine }) nothing_due
        ≡ cond (b && leb n.level highest_priority) (record { rank = rank_of n.level; routine = n.routine }) nothing_due
    go true q = let l : leb n.level highest_priority ≡ true = le-leb n.level highest_priority (ltb-false highest_priority n.level q) in rw l
    go false q = refl

pub ask_lists : (R : Routines) (q : Roster) (c u : ℕ) (n : Naming) → is_unit (waits_of R) c u ≡ true → naming_wrong n ≡ false → Lists q R
    → Lists (with_name c u (named_by n) q) (asked_in R c u (due_of n))
unfolding asked_in with_post
ask_lists R q c u n unit right L = record {
  names = λ k v.
      ap (λ (d : Due). cond (eqb k c && eqb v u) d (q.names k v)) (named_as_lem n right)
      ∙ ap (λ (d : Due). cond (eqb k c && eqb v u) (due_of n) d) (L.names k v)
      ∙ sym (asked_named R c u unit (due_of n) k v);
  waits = λ k v. L.waits k v ∙ sym (asked_due R c u unit (due_of n) k v);
  list = L.list;
}

-- ---- an answer makes due what its request names

pub due_lists : (R : Routines) (q : Roster) (c u : ℕ) → is_due (post_at R c u).named ≡ true → Lists q R → Lists (with_due c u q) (made_due_in R c u)
unfolding made_due_in with_post
due_lists R q c u named L =
    let unit = named_unit R c u named in
    record {
      names = λ k v. ap (λ (d : Due). cond (eqb k c && eqb v u) nothing_due d) (L.names k v) ∙ sym (made_named R c u unit k v);
      waits = λ k v.
          ap (λ (d : Due). cond (eqb k c && eqb v u) d (q.waits k v)) (L.names c u)
          ∙ ap (λ (d : Due). cond (eqb k c && eqb v u) (post_at R c u).named d) (L.waits k v)
          ∙ sym (made_due_lem R c u unit k v);
      list = L.list;
    }

-- what a return enters
abbrev pub back_entry : Bool → Routines → Option Program
back_entry entered T = cond entered (some T.programs.running) none

-- ---- a look

module _ (R : Routines) (frozen : Bool) (q : Roster) (L : Lists q R) where
  -- the same first, of the roster
  first_alike : (p : Program) → First (dues_of R) p → First q.waits p
  first_alike p F = record {
    waited = L.waits p.channel p.unit ∙ F.waited;
    named = F.named;
    first = λ c u k. subst (λ (d : Due). NotBefore (waiting_at c u d) p) (sym (L.waits c u)) (F.first c u (subst (λ (d : Due). 0 < d.rank) (L.waits c u) k));
  }

  -- what is entered waits no longer
  cleared_lists : (p : Program) (ps : Programs) → First (dues_of R) p → (xs : List Program) → xs ≡ list_of ps
      → Lists (record { names = q.names; waits = at_unit p.channel p.unit nothing_due q.waits; list = xs; frozen = q.frozen })
      (cleared_in (with_programs R ps) p.channel p.unit)
  unfolding cleared_in with_post
  cleared_lists p ps F xs e =
      let unit = first_unit R p F in
      record {
        names = λ c u. L.names c u ∙ sym (cleared_named (with_programs R ps) p.channel p.unit unit c u);
        waits = λ c u.
            ap (λ (d : Due). cond (eqb c p.channel && eqb u p.unit) nothing_due d) (L.waits c u)
            ∙ sym (cleared_due (with_programs R ps) p.channel p.unit unit c u);
        list = e;
      }

  pub look_lists : (T : Routines) → programs_right R.programs ≡ true → Looked R frozen T
      → Lists (with_look R.programs.running (another R.programs.running T.programs.running) q) T
  unfolding cleared_in with_post interrupted_by
  look_lists T right stays = rw (none_entered R.programs.running R.programs.running refl) L
  look_lists T right (looks.goes p f above room F) =
      rw (some_entered R.programs.running p above)
      (cleared_lists p (interrupted_by R.programs p) F (R.programs.running ∷ q.list)
      (ap (λ (xs : List Program). R.programs.running ∷ xs) L.list
      ∙ sym (list_interrupted R.programs p (omega (arith, (clauses R.programs right).long, room)))))

  -- what a look enters
  pub record LookEnters (T : Routines) (p : Program) : Type 0 where
    pub thawed : frozen ≡ false
    pub runs : T.programs.running ≡ p
    pub first : First q.waits p
    pub above : R.programs.running.rank < p.rank
    pub room : R.programs.count < depth

  pub look_enters : (T : Routines) (p : Program) → Looked R frozen T → another R.programs.running T.programs.running ≡ some p → LookEnters T p
  unfolding cleared_in with_post interrupted_by
  look_enters T p stays e = absurd (none_some p (sym (none_entered R.programs.running R.programs.running refl) ∙ e))
  look_enters T p (looks.goes x f above room F) e =
      let same : x ≡ p = some_own x p (sym (some_entered R.programs.running x above) ∙ e) in
      record {
        thawed = f;
        runs = same;
        first = subst (First q.waits) same (first_alike x F);
        above = subst (λ (y : Program). R.programs.running.rank < y.rank) same above;
        room = room;
      }

  -- ---- a return

  pub back_lists : (entered : Bool) (T : Routines) → programs_right R.programs ≡ true → none_runs R.programs ≡ false → Back R frozen entered T
      → Lists (with_return (back_entry entered T) q) T
  unfolding cleared_in with_post
  back_lists entered T right n resumes = record {
    names = L.names;
    waits = L.waits;
    list = ap past_first (L.list ∙ list_resumed R.programs (routine_over R.programs right n));
  }
  back_lists entered T right n (looks.goes p f above F) = cleared_lists p (replaced_by R.programs p) F q.list L.list

  -- what a return enters, and what resumes
  pub record BackEnters (T : Routines) (p : Program) : Type 0 where
    pub thawed : frozen ≡ false
    pub runs : T.programs.running ≡ p
    pub first : First q.waits p
    pub above : (x : Program) (xs : List Program) → q.list ≡ x ∷ xs → x.rank < p.rank

  pub back_enters : (entered : Bool) (T : Routines) (p : Program) → programs_right R.programs ≡ true → none_runs R.programs ≡ false → Back R frozen entered T
      → back_entry entered T ≡ some p → BackEnters T p
  unfolding cleared_in with_post
  back_enters entered T p right n resumes e = absurd (none_some p e)
  back_enters entered T p right n (looks.goes y f above F) e =
      let same : y ≡ p = some_own y p e in
      record {
        thawed = f;
        runs = same;
        first = subst (First q.waits) same (first_alike y F);
        above = λ x xs k.
            let top : ◌≡◌ {A = List Program} (x ∷ xs) (last_pushed R.programs ∷ under R.programs.pushed (R.programs.count - 1)) =
            sym k ∙ L.list ∙ under_last R.programs.pushed R.programs.count (routine_over R.programs right n) in
            let own : x ≡ last_pushed R.programs = cc in
            subst (λ (z : Program). x.rank < z.rank) same (subst (λ (z : Program). z.rank < y.rank) (sym own) above);
      }

  pub back_resumes : (entered : Bool) (T : Routines) → programs_right R.programs ≡ true → none_runs R.programs ≡ false → Back R frozen entered T
      → back_entry entered T ≡ none → q.list ≡ T.programs.running ∷ past_first q.list
  unfolding cleared_in with_post
  back_resumes entered T right n resumes e =
      let top = L.list ∙ list_resumed R.programs (routine_over R.programs right n) in
      top ∙ ap (λ (xs : List Program). (resumed_of R.programs).running ∷ xs) (sym (ap past_first top))
  back_resumes entered T right n (looks.goes p f above F) e = absurd (none_some _ (sym e))
