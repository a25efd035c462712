-- Routines that are right, as facts, both ways; and what an ask, an answer, a look and a return keep of them. `declared` and `asked` tell which units are declared and
-- which have a request. Assumes nothing.
use mathlib.Core.Path.{◌≡◌, refl, sym, ap, subst, ◌∙◌}
use mathlib.Core.Bool.{Bool, true, false, not, cond, ◌&&◌, ◌||◌}
use mathlib.Core.List.{List}
use Prim.Native.Nat.{ℕ, ◌+◌, ◌≤◌, ◌<◌}
use native.Mathlib.Nat.{le_refl}
use native.Mathlib.Decide.{dec_lt}
use native.Mathlib.Omega.{arith}
use borrow.Author.Tests.{ltb-false, lt-ltb, leb-true, le-leb, eqb-true, eqb-false, eq-eqb, not-true}
use lib.Dec.{ltb, leb, eqb}
use lib.ListN.{length, get_or, replicate, get_or-replicate, get_or-eq_default}
use Rattle.area.specs.Numbered.{all_from}
use Rattle.area.proofs.Walks.{by_test, true_not_false, and_left, and_right, and_both, or_first, or_second, all_at, at_all}
use Rattle.area.proofs.Marks.{unless, unless_so}
use Rattle.area.proofs.Numbered.{from_at, at_from}
use Rattle.area.proofs.Bools.{both}
use Rattle.channel.specs.Units.{unit_count, channel_count}
use Rattle.routines.specs.declared.Due.{Due}
use Rattle.routines.specs.declared.Program.{Program}
use Rattle.routines.specs.declared.Programs.{Programs}
use Rattle.routines.specs.declared.Scheduled.{Scheduled}
use Rattle.routines.specs.declared.Post.{Post}
use Rattle.routines.specs.declared.Posts.{Posts}
use Rattle.routines.specs.declared.Routines.{Routines}
use Rattle.routines.specs.Ranks.{depth, top_rank, rank_of, highest_priority, main_program, is_main, nothing_due, is_due, due_named, waiting_at, main_alone}
use Rattle.routines.specs.Waits.{Waits, due_at, with_due, highest}
use Rattle.routines.specs.Schedule.{look_of, given_back, none_runs}
use Rattle.routines.specs.Right.{due_right, programs_right, is_settled, unit_known, units_known, post_right, posts_right, routines_right}
use Rattle.routines.specs.Posts.{empty_post, no_posts, no_routines, post_at, waits_of, waits_in, with_programs, with_post}
use Rattle.routines.specs.Changes.{asked_in, made_due_in, cleared_in, scheduled_in, looked_in, answered_in, gave_back_in}
use Rattle.routines.proofs.Laws.Highest.{highest_keeps, with_own, cleared_lower}
use Rattle.routines.proofs.Laws.Schedule.{look_stays}
use Rattle.routines.proofs.Laws.Kept.{look_right, back_right, look_settled, back_settled, look_known, back_known, main_right, main_known}
use Rattle.routines.proofs.Laws.Own.{settled_stays}
use Rattle.routines.proofs.Laws.Table.{due_at_lem, waits_with, posts_with, table_with_lem, rows_with}

-- what an ask names is right
pub named_right_lem : (named : Bool) (priority routine : ℕ) → due_right (due_named named priority routine) ≡ true
unfolding due_named
named_right_lem named priority routine =
    by_test (λ t. (named && leb priority highest_priority) ≡ t → due_right (cond t (record { rank = rank_of priority; routine = routine }) nothing_due) ≡ true) (named && leb priority highest_priority)
    (λ t e.
    let l = leb-true priority highest_priority (and_right named _ e) in
    and_both (leb (priority + 1) top_rank) _ (le-leb (priority + 1) top_rank (omega arith)) (or_first (ltb 0 (priority + 1)) _ (lt-ltb 0 (priority + 1) (omega arith))))
    (λ t e. refl) refl

-- ---- one post

pub record PostFacts (declared asked : Bool) (x : Post) : Type 0 where
  pub named : due_right x.named ≡ true
  pub due : due_right x.due ≡ true
  -- only a request names a routine
  pub asks : is_due x.named ≡ true → asked ≡ true
  -- the unit of a waiting routine is declared and has no request
  pub known : is_due x.due ≡ true → declared ≡ true
  pub quiet : is_due x.due ≡ true → asked ≡ false

post_facts : (declared asked : Bool) (x : Post) → post_right declared asked x ≡ true → PostFacts declared asked x
unfolding post_right
post_facts declared asked x e =
    let a = both {a = due_right x.named && due_right x.due} e in
    let b = both {a = due_right x.named} a.0 in
    let d = both {a = not (is_due x.named) || asked} a.1 in
    record {
      named = b.0;
      due = b.1;
      asks = unless (is_due x.named) asked d.0;
      known = λ w. and_left declared _ (unless (is_due x.due) _ d.1 w);
      quiet = λ w. not-true asked (and_right declared _ (unless (is_due x.due) _ d.1 w));
    }

facts_post : (declared asked : Bool) (x : Post) → PostFacts declared asked x → post_right declared asked x ≡ true
unfolding post_right
facts_post declared asked x F =
    and_both (due_right x.named && due_right x.due) _ (and_both (due_right x.named) _ F.named F.due)
    (and_both (not (is_due x.named) || asked) _ (unless_so (is_due x.named) asked F.asks)
    (unless_so (is_due x.due) _ (λ w. and_both declared _ (F.known w) (ap not (F.quiet w)))))

pub empty_facts : (declared asked : Bool) → PostFacts declared asked empty_post
empty_facts declared asked = record { named = refl; due = refl; asks = λ w. true_not_false w refl; known = λ w. true_not_false w refl; quiet = λ w. true_not_false w refl }

-- ---- all of them

-- all but that nothing is left to enter
pub record RoutinesReady (declared asked : ℕ → ℕ → Bool) (r : Routines) : Type 0 where
  pub programs : programs_right r.programs ≡ true
  pub units : units_known declared r.programs ≡ true
  pub table : length r.posts ≡ channel_count
  pub rows : (c : ℕ) → c < length r.posts → length (get_or r.posts c no_posts).units ≡ unit_count
  pub posts : (c u : ℕ) → PostFacts (declared c u) (asked c u) (post_at r c u)

pub record RoutinesFacts (declared asked : ℕ → ℕ → Bool) (frozen : Bool) (r : Routines) : Type 0 where
  pub ready : RoutinesReady declared asked r
  pub settled : is_settled r.programs frozen (highest (waits_of r)) ≡ true

by_place : {A : Type 0} (xs : List A) (d : A) (P : A → Type 0) (i : ℕ) → (i < length xs → P (get_or xs i d)) → P d → P (get_or xs i d)
by_place xs d P i inside beyond = go (dec_lt i (length xs))
  where
    go : Dec (i < length xs) → P (get_or xs i d)
    go (yes l) = inside l
    go (no l) = rw (get_or-eq_default xs d {n = i} (omega (arith, l))) beyond

module _ (declared asked : ℕ → ℕ → Bool) (frozen : Bool) (r : Routines) where
  pub right_facts : routines_right declared asked frozen r ≡ true → RoutinesFacts declared asked frozen r
  unfolding routines_right posts_right
  right_facts e =
      let a = both {a = programs_right r.programs} e in
      let b = both {a = units_known declared r.programs} a.1 in
      let d = both {a = eqb (length r.posts) channel_count} b.1 in
      let f = both {a = all_from (λ (c : ℕ) (p : Posts). posts_right (declared c) (asked c) p) 0 r.posts} d.1 in
      let row : (c : ℕ) → c < length r.posts → posts_right (declared c) (asked c) (get_or r.posts c no_posts) ≡ true = λ c l. from_at (λ (c : ℕ) (p : Posts). posts_right (declared c) (asked c) p) no_posts r.posts f.0 c l in
      record {
        ready = record {
          programs = a.0;
          units = b.0;
          table = eqb-true (length r.posts) channel_count d.0;
          rows = λ c l. eqb-true (length (get_or r.posts c no_posts).units) unit_count (and_left (eqb (length (get_or r.posts c no_posts).units) unit_count) _ (row c l));
          posts = λ c u.
              by_place r.posts no_posts (λ p. PostFacts (declared c u) (asked c u) (get_or p.units u empty_post)) c
              (λ l. by_place (get_or r.posts c no_posts).units empty_post (PostFacts (declared c u) (asked c u)) u
              (λ k. post_facts (declared c u) (asked c u) _ (from_at (λ (u : ℕ) (x : Post). post_right (declared c u) (asked c u) x) empty_post (get_or r.posts c no_posts).units (and_right (eqb (length (get_or r.posts c no_posts).units) unit_count) _ (row c l)) u k))
              (empty_facts (declared c u) (asked c u)))
              (empty_facts (declared c u) (asked c u));
        };
        settled = f.1;
      }

  pub facts_right : RoutinesFacts declared asked frozen r → routines_right declared asked frozen r ≡ true
  unfolding routines_right posts_right
  facts_right F =
      let R = F.ready in
      and_both (programs_right r.programs) _ R.programs
      (and_both (units_known declared r.programs) _ R.units
      (and_both (eqb (length r.posts) channel_count) _ (eq-eqb (length r.posts) channel_count R.table)
      (and_both (all_from (λ (c : ℕ) (p : Posts). posts_right (declared c) (asked c) p) 0 r.posts) _
      (at_from (λ (c : ℕ) (p : Posts). posts_right (declared c) (asked c) p) no_posts r.posts (λ c l.
      and_both (eqb (length (get_or r.posts c no_posts).units) unit_count) _ (eq-eqb (length (get_or r.posts c no_posts).units) unit_count (R.rows c l))
      (at_from (λ (u : ℕ) (x : Post). post_right (declared c u) (asked c u) x) empty_post (get_or r.posts c no_posts).units (λ u k. facts_post (declared c u) (asked c u) _ (R.posts c u)))))
      F.settled)))

-- ---- units that are alike

known_alike : (d e : ℕ → ℕ → Bool) (p : Program) → ((c u : ℕ) → e c u ≡ d c u) → unit_known d p ≡ true → unit_known e p ≡ true
known_alike d e p same h = rw (same p.channel p.unit) h

units_alike : (d e : ℕ → ℕ → Bool) (p : Programs) → ((c u : ℕ) → e c u ≡ d c u) → units_known d p ≡ true → units_known e p ≡ true
unfolding units_known
units_alike d e p same h =
    and_both (unit_known e p.running) _ (known_alike d e p.running same (and_left (unit_known d p.running) _ h))
    (at_all (unit_known e) main_program p.pushed (λ i l. known_alike d e (get_or p.pushed i main_program) same (all_at (unit_known d) main_program p.pushed (and_right (unit_known d p.running) _ h) i l)))

module _ (declared asked known has : ℕ → ℕ → Bool) (same : (c u : ℕ) → known c u ≡ declared c u) (r : Routines) where
  alike_post : (c u : ℕ) → has c u ≡ asked c u → PostFacts (declared c u) (asked c u) (post_at r c u) → PostFacts (known c u) (has c u) (post_at r c u)
  alike_post c u e F = rw (same c u, e) F

  -- the same units are declared and have requests
  pub ready_alike : ((c u : ℕ) → has c u ≡ asked c u) → RoutinesReady declared asked r → RoutinesReady known has r
  ready_alike e R = record {
    programs = R.programs;
    units = units_alike declared known r.programs same R.units;
    table = R.table;
    rows = R.rows;
    posts = λ c u. alike_post c u (e c u) (R.posts c u);
  }

  pub routines_alike : (frozen : Bool) → ((c u : ℕ) → has c u ≡ asked c u) → RoutinesFacts declared asked frozen r → RoutinesFacts known has frozen r
  routines_alike frozen e F = record { ready = ready_alike e F.ready; settled = F.settled }

-- "Freeze stops starts on all channels": nothing is left to enter
pub routines_frozen : (declared asked : ℕ → ℕ → Bool) (frozen : Bool) (r : Routines) → RoutinesFacts declared asked frozen r → RoutinesFacts declared asked true r
unfolding is_settled
routines_frozen declared asked frozen r F = record { ready = F.ready; settled = refl }

-- ---- the scheduler

scheduled_programs : (r : Routines) (s : Scheduled) → (scheduled_in r s).programs ≡ s.programs
unfolding scheduled_in cleared_in with_post
scheduled_programs r s = by_test (λ t. (cond t (cleared_in (with_programs r s.programs) s.programs.running.channel s.programs.running.unit) (with_programs r s.programs)).programs ≡ s.programs) s.entered (λ e. refl) (λ e. refl)

-- "Entering clears it from the unit"
pub scheduled_waits : (r : Routines) (s : Scheduled) → waits_of (scheduled_in r s) ≡ cond s.entered (with_due (waits_of r) s.programs.running.channel s.programs.running.unit nothing_due) (waits_of r)
unfolding scheduled_in cleared_in
scheduled_waits r s =
    by_test (λ t. waits_of (cond t (cleared_in (with_programs r s.programs) s.programs.running.channel s.programs.running.unit) (with_programs r s.programs)) ≡ cond t (with_due (waits_of r) s.programs.running.channel s.programs.running.unit nothing_due) (waits_of r)) s.entered
    (λ e. waits_with (with_programs r s.programs) _ _ _)
    (λ e. refl)

scheduled_lower : (r : Routines) (s : Scheduled) → (highest (waits_of (scheduled_in r s))).rank ≤ (highest (waits_of r)).rank
scheduled_lower r s =
    subst (λ (w : Waits). (highest w).rank ≤ (highest (waits_of r)).rank) (sym (scheduled_waits r s))
    (by_test (λ t. (highest (cond t (with_due (waits_of r) s.programs.running.channel s.programs.running.unit nothing_due) (waits_of r))).rank ≤ (highest (waits_of r)).rank) s.entered
    (λ e. cleared_lower (waits_of r) _ _)
    (λ e. le_refl _))

module _ (declared asked : ℕ → ℕ → Bool) (r : Routines) (R : RoutinesReady declared asked r) where
  -- the highest waiting routine is right, and its unit is declared
  best_rank : (highest (waits_of r)).rank ≤ top_rank
  best_rank =
      highest_keeps (λ p. p.rank ≤ top_rank) (waits_of r) (omega arith) (λ c u i j.
      let d : (due_at (waits_of r) c u).rank ≡ (post_at r c u).due.rank = ap (λ (x : Due). x.rank) (due_at_lem r c u) in
      let l = leb-true (post_at r c u).due.rank top_rank (and_left (leb (post_at r c u).due.rank top_rank) _ (R.posts c u).due) in
      omega arith)

  best_known : unit_known declared (highest (waits_of r)) ≡ true
  best_known = highest_keeps (λ p. unit_known declared p ≡ true) (waits_of r) refl (λ c u i j. go c u (is_due (post_at r c u).due) refl)
    where
      go : (c u : ℕ) (t : Bool) → is_due (post_at r c u).due ≡ t → unit_known declared (waiting_at c u (due_at (waits_of r) c u)) ≡ true
      go c u true e = or_second (is_main (waiting_at c u (due_at (waits_of r) c u))) _ ((R.posts c u).known e)
      go c u false e =
          let d : (due_at (waits_of r) c u).rank ≡ (post_at r c u).due.rank = ap (λ (x : Due). x.rank) (due_at_lem r c u) in
          let l = ltb-false 0 (post_at r c u).due.rank e in
          or_first (is_main (waiting_at c u (due_at (waits_of r) c u))) _ (eq-eqb (due_at (waits_of r) c u).rank 0 (omega arith))

  -- another post at one unit
  pub ready_with : (known has : ℕ → ℕ → Bool) (c u : ℕ) (x : Post) → ((k v : ℕ) → known k v ≡ declared k v) → ((k v : ℕ) → (k ≡ c → v ≡ u → ⊥) → has k v ≡ asked k v)
      → PostFacts (known c u) (has c u) x → RoutinesReady known has (with_post r c u x)
  unfolding with_post
  ready_with known has c u x same others new = record {
    programs = R.programs;
    units = units_alike declared known r.programs same R.units;
    table = table_with_lem r c u x ∙ R.table;
    rows = λ k l. rows_with r c u x k ∙ R.rows k (subst (λ (n : ℕ). k < n) (table_with_lem r c u x) l);
    posts = posts_with r c u x (λ k v p. PostFacts (known k v) (has k v) p) new (empty_facts (known c u) (has c u)) (λ k v f. alike_post declared asked known has same r k v (others k v f) (R.posts k v));
  }

  -- other programs, and what was entered cleared
  ready_scheduled : (s : Scheduled) → programs_right s.programs ≡ true → units_known declared s.programs ≡ true → RoutinesReady declared asked (scheduled_in r s)
  unfolding scheduled_in cleared_in with_post
  ready_scheduled s right known =
      by_test (λ t. RoutinesReady declared asked (cond t (cleared_in (with_programs r s.programs) s.programs.running.channel s.programs.running.unit) (with_programs r s.programs))) s.entered
      (λ e. let c = s.programs.running.channel in let u = s.programs.running.unit in
      let P = ready_with declared asked c u (record { named = (post_at r c u).named; due = nothing_due }) (λ k v. refl) (λ k v f. refl)
      (record { named = (R.posts c u).named; due = refl; asks = (R.posts c u).asks; known = λ w. true_not_false w refl; quiet = λ w. true_not_false w refl }) in
      record { programs = right; units = known; table = P.table; rows = P.rows; posts = P.posts })
      (λ e. record { programs = right; units = known; table = R.table; rows = R.rows; posts = R.posts })

  -- a look
  pub routines_looked : (frozen : Bool) → RoutinesFacts declared asked frozen (looked_in r frozen)
  unfolding looked_in
  routines_looked frozen =
      let s = look_of r.programs frozen (highest (waits_of r)) in
      record {
        ready = ready_scheduled s (look_right r.programs R.programs frozen (highest (waits_of r)) best_rank) (look_known declared r.programs frozen (highest (waits_of r)) R.units best_known);
        settled = ap (λ (p : Programs). is_settled p frozen (highest (waits_of (scheduled_in r s)))) (scheduled_programs r s) ∙ look_settled r.programs frozen (highest (waits_of r)) _ (scheduled_lower r s);
      }

  -- a return
  pub routines_back : (frozen : Bool) → none_runs r.programs ≡ false → RoutinesFacts declared asked frozen (gave_back_in r frozen).routines
  unfolding gave_back_in
  routines_back frozen n =
      let s = given_back r.programs frozen (highest (waits_of r)) in
      record {
        ready = ready_scheduled s (back_right r.programs R.programs n frozen (highest (waits_of r)) best_rank) (back_known declared r.programs frozen (highest (waits_of r)) R.units best_known);
        settled = ap (λ (p : Programs). is_settled p frozen (highest (waits_of (scheduled_in r s)))) (scheduled_programs r s) ∙ back_settled r.programs frozen (highest (waits_of r)) _ (scheduled_lower r s);
      }

-- ---- an ask and an answer, at unit u of channel c; all other units are as they were

module _ (declared asked known has : ℕ → ℕ → Bool) (frozen : Bool) (r : Routines) (c u : ℕ) (same : (k v : ℕ) → known k v ≡ declared k v) (others : (k v : ℕ) → (k ≡ c → v ≡ u → ⊥) → has k v ≡ asked k v)
    (F : RoutinesFacts declared asked frozen r) where
  -- the unit has a request now, and no routine waits there
  pub routines_asked : (d : Due) → has c u ≡ true → waits_in r c u ≡ false → due_right d ≡ true → RoutinesFacts known has frozen (asked_in r c u d)
  unfolding asked_in with_post
  routines_asked d now free right =
      let x : Post = record { named = d; due = (post_at r c u).due } in
      let none : is_due (post_at r c u).due ≡ false = ap is_due (sym (due_at_lem r c u)) ∙ free in
      record {
        ready = ready_with declared asked r F.ready known has c u x same others
            (record { named = right; due = (F.ready.posts c u).due; asks = λ w. now; known = λ w. true_not_false w none; quiet = λ w. true_not_false w none });
        settled = ap (λ (w : Waits). is_settled r.programs frozen (highest w)) (waits_with r c u x ∙ ap (with_due (waits_of r) c u) (sym (due_at_lem r c u)) ∙ with_own (waits_of r) c u) ∙ F.settled;
      }

  -- it has none now; it is declared
  pub routines_answered : has c u ≡ false → declared c u ≡ true → RoutinesFacts known has frozen (answered_in r frozen c u)
  unfolding answered_in made_due_in
  routines_answered now there =
      by_test (λ t. is_due (post_at r c u).named ≡ t → RoutinesFacts known has frozen (cond t (looked_in (made_due_in r c u) frozen) r)) (is_due (post_at r c u).named)
      (λ t e. routines_looked known has (made_due_in r c u)
      (ready_with declared asked r F.ready known has c u (record { named = nothing_due; due = (post_at r c u).named }) same others
      (record { named = refl; due = (F.ready.posts c u).named; asks = λ w. true_not_false w refl; known = λ w. same c u ∙ there; quiet = λ w. now })) frozen)
      (λ t e. record {
        ready = record {
          programs = F.ready.programs;
          units = units_alike declared known r.programs same F.ready.units;
          table = F.ready.table;
          rows = F.ready.rows;
          posts = λ k v. each e k v (eqb k c) refl (eqb v u) refl;
        };
        settled = F.settled;
      }) refl
    where
      here : is_due (post_at r c u).named ≡ false → PostFacts (known c u) (has c u) (post_at r c u)
      here e = record {
        named = (F.ready.posts c u).named;
        due = (F.ready.posts c u).due;
        asks = λ w. true_not_false w e;
        known = λ w. same c u ∙ there;
        quiet = λ w. now;
      }

      other : (k v : ℕ) → (k ≡ c → v ≡ u → ⊥) → PostFacts (known k v) (has k v) (post_at r k v)
      other k v f = alike_post declared asked known has same r k v (others k v f) (F.ready.posts k v)

      each : is_due (post_at r c u).named ≡ false → (k v : ℕ) (a : Bool) → eqb k c ≡ a → (b : Bool) → eqb v u ≡ b → PostFacts (known k v) (has k v) (post_at r k v)
      each e k v false p b q = other k v (λ x. λ y. eqb-false k c p x)
      each e k v true p false q = other k v (λ x. λ y. eqb-false v u q y)
      each e k v true p true q =
          let x : k ≡ c = eqb-true k c p in
          let y : v ≡ u = eqb-true v u q in
          rw (x, y) (here e)

-- ---- a fresh start

none_at_all : (c u : ℕ) → post_at no_routines c u ≡ empty_post
unfolding no_routines
none_at_all c u =
    by_place (replicate channel_count (record { units = replicate unit_count empty_post })) no_posts (λ p. get_or p.units u empty_post ≡ empty_post) c
    (λ l. rw (get_or-replicate channel_count c (record { units = replicate unit_count empty_post }) no_posts l)
    (by_place (replicate unit_count empty_post) empty_post (λ x. x ≡ empty_post) u (λ k. get_or-replicate unit_count u empty_post empty_post k) refl))
    refl

pub routines_none : (declared asked : ℕ → ℕ → Bool) (frozen : Bool) → RoutinesFacts declared asked frozen no_routines
unfolding no_routines is_settled main_alone
routines_none declared asked frozen = record {
  ready = record {
    programs = main_right;
    units = main_known declared;
    table = refl;
    rows = λ c l. rw (get_or-replicate channel_count c (record { units = replicate unit_count empty_post }) no_posts l);
    posts = λ c u. subst (PostFacts (declared c u) (asked c u)) (sym (none_at_all c u)) (empty_facts (declared c u) (asked c u));
  };
  settled = or_second frozen _ (or_second (leb depth 0) _ (le-leb (highest (waits_of no_routines)).rank 0 low));
}
  where
    low : (highest (waits_of no_routines)).rank ≤ 0
    low = highest_keeps (λ p. p.rank ≤ 0) (waits_of no_routines) (le_refl _) (λ c u i j. let d : (due_at (waits_of no_routines) c u).rank ≡ 0 = ap (λ (x : Due). x.rank) (due_at_lem no_routines c u) ∙ ap (λ (p : Post). p.due.rank) (none_at_all c u) in omega arith)

-- ---- looks that change nothing

pub look_settled_stays : (r : Routines) (frozen : Bool) → is_settled r.programs frozen (highest (waits_of r)) ≡ true → looked_in r frozen ≡ r
unfolding looked_in scheduled_in
look_settled_stays r frozen e = rw (look_stays r.programs frozen (highest (waits_of r)) (settled_stays r.programs frozen (highest (waits_of r)) e))

-- after a look nothing is left to enter
pub looked_settled : (r : Routines) (frozen : Bool) → is_settled (looked_in r frozen).programs frozen (highest (waits_of (looked_in r frozen))) ≡ true
unfolding looked_in
looked_settled r frozen =
    let s = look_of r.programs frozen (highest (waits_of r)) in
    ap (λ (p : Programs). is_settled p frozen (highest (waits_of (scheduled_in r s)))) (scheduled_programs r s) ∙ look_settled r.programs frozen (highest (waits_of r)) _ (scheduled_lower r s)

-- "Either twice is as once.": for any routines
pub look_twice : (r : Routines) (frozen : Bool) → looked_in (looked_in r frozen) frozen ≡ looked_in r frozen
look_twice r frozen = look_settled_stays (looked_in r frozen) frozen (looked_settled r frozen)
