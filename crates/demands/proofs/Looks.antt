-- Laws of a look and of a return over all posts: what each enters, and what it leaves. Assumes nothing.
use mathlib.Core.Path.{◌≡◌, refl, sym, ap, subst, ◌∙◌}
use mathlib.Core.Bool.{Bool, true, false, not, cond, ◌&&◌}
use mathlib.Core.List.{List, []}
use Prim.Native.Nat.{ℕ, ◌<◌}
use native.Mathlib.Omega.{arith}
use borrow.Author.Tests.{not-true, ltb-true, eqb-true, eqb-false}
use lib.Dec.{eqb}
use native.Mathlib.Decide.{dec_lt}
use lib.ListN.{length, get_or, length-map, get_or-eq_default}
use lib.Seq.{get_or-set_same}
use Rattle.area.proofs.Walks.{and_left}
use Rattle.routines.specs.declared.Due.{Due}
use Rattle.routines.specs.declared.Program.{Program}
use Rattle.routines.specs.declared.Post.{Post}
use Rattle.routines.specs.declared.Posts.{Posts}
use Rattle.routines.specs.declared.Routines.{Routines}
use Rattle.routines.specs.Ranks.{depth, nothing_due, waiting_at}
use Rattle.routines.specs.Waits.{due_at, is_unit, highest}
use Rattle.routines.specs.Order.{NotBefore}
use Rattle.routines.specs.Schedule.{enters, interrupted_by, last_pushed, enters_on_return, replaced_by, resumed_of}
use Rattle.routines.specs.Posts.{empty_post, no_posts, post_at, due_in, waits_of, with_programs, with_unit_post, with_post}
use Rattle.routines.specs.Changes.{asked_in, made_due_in, cleared_in, scheduled_in, looked_in, gave_back_in}
use Rattle.routines.proofs.Laws.Highest.{waits_unit, highest_first, highest_waits}
use Rattle.routines.proofs.Laws.Schedule.{by_look, enters_above, enters_room, by_back, back_above}
use Rattle.routines.proofs.Laws.Table.{dues_at, due_at_lem, post_other}
use Rattle.demands.specs.Entries.{First}

-- what waits at each unit
abbrev pub dues_of : Routines → ℕ → ℕ → Due
dues_of r c u = (post_at r c u).due

-- the highest waiting routine is the first of all that wait
first_of : (r : Routines) → 0 < (highest (waits_of r)).rank → First (dues_of r) (highest (waits_of r))
first_of r h =
    let p = highest (waits_of r) in
    record {
      waited = sym (due_at_lem r p.channel p.unit) ∙ ap (λ (q : Program). record { rank = q.rank; routine = q.routine }) (highest_waits (waits_of r) h).1;
      named = h;
      first = λ c u k.
          subst (λ (d : Due). NotBefore (waiting_at c u d) p) (due_at_lem r c u)
          (highest_first (waits_of r) c u (waits_unit (waits_of r) c u (subst (λ (d : Due). 0 < d.rank) (sym (due_at_lem r c u)) k)));
    }

-- ---- a look stays, or enters the first that waits

pub data Looked (r : Routines) (frozen : Bool) : Routines → Type 0 where
  stays : Looked r frozen r
  goes : (p : Program) → frozen ≡ false → r.programs.running.rank < p.rank → r.programs.count < depth → First (dues_of r) p
      → Looked r frozen (cleared_in (with_programs r (interrupted_by r.programs p)) p.channel p.unit)

pub looked : (r : Routines) (frozen : Bool) → Looked r frozen (looked_in r frozen)
unfolding looked_in scheduled_in interrupted_by enters
looked r frozen =
    let best = highest (waits_of r) in
    by_look r.programs frozen best (λ s. Looked r frozen (scheduled_in r s))
    (λ e. let above = enters_above r.programs frozen best e in
    goes best (not-true frozen (and_left (not frozen) _ e)) above (enters_room r.programs frozen best e) (first_of r (omega arith)))
    (λ e. stays)

-- ---- a return resumes the program last pushed, or enters the first that waits

pub data Back (r : Routines) (frozen : Bool) : Bool → Routines → Type 0 where
  resumes : Back r frozen false (with_programs r (resumed_of r.programs))
  goes : (p : Program) → frozen ≡ false → (last_pushed r.programs).rank < p.rank → First (dues_of r) p
      → Back r frozen true (cleared_in (with_programs r (replaced_by r.programs p)) p.channel p.unit)

pub gave_back_lem : (r : Routines) (frozen : Bool) → Back r frozen (gave_back_in r frozen).entered (gave_back_in r frozen).routines
unfolding gave_back_in scheduled_in enters_on_return
gave_back_lem r frozen =
    let best = highest (waits_of r) in
    by_back r.programs frozen best (λ s. Back r frozen s.entered (scheduled_in r s))
    (λ e. let above = back_above r.programs frozen best e in
    goes best (not-true frozen (and_left (not frozen) _ e)) above (first_of r (omega arith)))
    (λ e. resumes)

-- ---- the posts afterwards

module _ (r : Routines) (c u : ℕ) (unit : is_unit (waits_of r) c u ≡ true) where
  unit_below : u < length (get_or r.posts c no_posts).units
  unit_below =
      let long : length (get_or (waits_of r) c []) ≡ length (get_or r.posts c no_posts).units = ap length (dues_at r c) ∙ length-map (get_or r.posts c no_posts).units due_in in
      omega (arith, long, ltb-true u (length (get_or (waits_of r) c [])) unit)

  pub line_below : c < length r.posts
  line_below = go (dec_lt c (length r.posts))
    where
      go : Dec (c < length r.posts) → c < length r.posts
      go (yes l) = l
      go (no h) =
          let none : length (get_or r.posts c no_posts).units ≡ 0 = ap (λ (p : Posts). length p.units) (get_or-eq_default r.posts no_posts {n = c} (omega (arith, h))) in
          absurd (omega (arith, none, unit_below))

  pub post_here : (x : Post) → post_at (with_post r c u x) c u ≡ x
  unfolding with_post
  post_here x =
      ap (λ (p : Posts). get_or p.units u empty_post) (get_or-set_same r.posts c (with_unit_post (get_or r.posts c no_posts) u x) no_posts line_below)
      ∙ get_or-set_same (get_or r.posts c no_posts).units u x empty_post unit_below

  -- the new post at the unit, and every other as it was
  pub post_at_lem : (x : Post) (k v : ℕ) → post_at (with_post r c u x) k v ≡ cond (eqb k c && eqb v u) x (post_at r k v)
  post_at_lem x k v = go (eqb k c) refl (eqb v u) refl
    where
      go : (a : Bool) → eqb k c ≡ a → (b : Bool) → eqb v u ≡ b → post_at (with_post r c u x) k v ≡ cond (a && b) x (post_at r k v)
      go false p b q = post_other r c u x k v (λ e. λ f. eqb-false k c p e)
      go true p false q = post_other r c u x k v (λ e. λ f. eqb-false v u q f)
      go true p true q =
          let d : k ≡ c = eqb-true k c p in
          let e : v ≡ u = eqb-true v u q in
          rw (d, e) (post_here x)

  named_at : (x : Post) (k v : ℕ) → (post_at (with_post r c u x) k v).named ≡ cond (eqb k c && eqb v u) x.named (post_at r k v).named
  named_at x k v = ap (λ (y : Post). y.named) (post_at_lem x k v) ∙ split (eqb k c && eqb v u)
    where
      split : (b : Bool) → (cond b x (post_at r k v)).named ≡ cond b x.named (post_at r k v).named
      split true = refl
      split false = refl

  due_now : (x : Post) (k v : ℕ) → (post_at (with_post r c u x) k v).due ≡ cond (eqb k c && eqb v u) x.due (post_at r k v).due
  due_now x k v = ap (λ (y : Post). y.due) (post_at_lem x k v) ∙ split (eqb k c && eqb v u)
    where
      split : (b : Bool) → (cond b x (post_at r k v)).due ≡ cond b x.due (post_at r k v).due
      split true = refl
      split false = refl

-- where the new is what it was
own_at : {A : Type 0} (f : ℕ → ℕ → A) (c u k v : ℕ) → cond (eqb k c && eqb v u) (f c u) (f k v) ≡ f k v
own_at f c u k v = go (eqb k c) refl (eqb v u) refl
  where
    go : (a : Bool) → eqb k c ≡ a → (b : Bool) → eqb v u ≡ b → cond (a && b) (f c u) (f k v) ≡ f k v
    go false p b q = refl
    go true p false q = refl
    go true p true q =
        let d : k ≡ c = eqb-true k c p in
        let e : v ≡ u = eqb-true v u q in
        rw (d, e)

module _ (r : Routines) (c u : ℕ) (unit : is_unit (waits_of r) c u ≡ true) where
  -- an ask: the unit's request names d
  pub asked_named : (d : Due) (k v : ℕ) → (post_at (asked_in r c u d) k v).named ≡ cond (eqb k c && eqb v u) d (post_at r k v).named
  unfolding asked_in
  asked_named d k v = named_at r c u unit _ k v

  pub asked_due : (d : Due) (k v : ℕ) → (post_at (asked_in r c u d) k v).due ≡ (post_at r k v).due
  unfolding asked_in
  asked_due d k v = due_now r c u unit _ k v ∙ own_at (dues_of r) c u k v

  -- an answer: what the request names is due
  pub made_named : (k v : ℕ) → (post_at (made_due_in r c u) k v).named ≡ cond (eqb k c && eqb v u) nothing_due (post_at r k v).named
  unfolding made_due_in
  made_named k v = named_at r c u unit _ k v

  pub made_due_lem : (k v : ℕ) → (post_at (made_due_in r c u) k v).due ≡ cond (eqb k c && eqb v u) (post_at r c u).named (post_at r k v).due
  unfolding made_due_in
  made_due_lem k v = due_now r c u unit _ k v

  -- what is entered waits no longer
  pub cleared_named : (k v : ℕ) → (post_at (cleared_in r c u) k v).named ≡ (post_at r k v).named
  unfolding cleared_in
  cleared_named k v = named_at r c u unit _ k v ∙ own_at (λ k v. (post_at r k v).named) c u k v

  pub cleared_due : (k v : ℕ) → (post_at (cleared_in r c u) k v).due ≡ cond (eqb k c && eqb v u) nothing_due (post_at r k v).due
  unfolding cleared_in
  cleared_due k v = due_now r c u unit _ k v

-- what is entered waited at a unit
pub first_unit : (r : Routines) (p : Program) → First (dues_of r) p → is_unit (waits_of r) p.channel p.unit ≡ true
first_unit r p F =
    let d : (due_at (waits_of r) p.channel p.unit).rank ≡ p.rank = ap (λ (x : Due). x.rank) (due_at_lem r p.channel p.unit ∙ F.waited) in
    waits_unit (waits_of r) p.channel p.unit (omega (arith, d, F.named))
