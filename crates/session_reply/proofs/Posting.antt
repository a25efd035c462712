-- What a request leaves at the post of its unit comes to what an ask and a report make of the routines. Assumes nothing.
use mathlib.Core.Path.{◌≡◌, refl, sym, ap, ap₂, ◌∙◌}
use mathlib.Core.Bool.{Bool, true, false, not, cond, ◌&&◌}
use mathlib.Core.List.{List}
use Prim.Native.Nat.{ℕ}
use borrow.Author.Tests.{eqb-true, ne_eqb, not-true}
use lib.Dec.{eqb}
use lib.ListN.{get_or, set}
use lib.Seq.{set-get_or}
use Rattle.area.proofs.Marks.{cond_true, cond_false}
use Rattle.area.proofs.Walks.{by_test, and_left, and_right}
use Rattle.routines.specs.declared.Due.{Due}
use Rattle.routines.specs.declared.Naming.{Naming}
use Rattle.routines.specs.declared.Post.{Post}
use Rattle.routines.specs.declared.Posts.{Posts}
use Rattle.routines.specs.declared.Routines.{Routines}
use Rattle.routines.specs.Ranks.{nothing_due, is_due}
use Rattle.routines.specs.Posts.{empty_post, no_posts, post_at, with_post, due_of}
use Rattle.routines.specs.Changes.{asked_in, made_due_in, looked_in, answered_in}
use Rattle.call_request.specs.Named.{asked_routines, answers_request, reported_routines}
use Rattle.session_reply.specs.Changes.{asked_post, is_named_answer, reported_post}
use Rattle.session_reply.specs.Turns.{posted_in, is_still}

-- ---- a post that is stored where it stood

pub post_own : (r : Routines) (c u : ℕ) → with_post r c u (post_at r c u) ≡ r
unfolding with_post
post_own r c u =
    ap (λ (xs : List Post). record { programs = r.programs; posts = set r.posts c (record { units = xs }) }) (set-get_or (get_or r.posts c no_posts).units u empty_post)
    ∙ ap (λ (ps : List Posts). record { programs = r.programs; posts = ps }) (set-get_or r.posts c no_posts)

pub posted_own : (r : Routines) (frozen : Bool) (c u : ℕ) (p : Post) → p ≡ post_at r c u → posted_in r frozen c u p false ≡ r
unfolding posted_in
posted_own r frozen c u p e = ap (with_post r c u) e ∙ post_own r c u

due_same : (d e : Due) → (eqb d.rank e.rank && eqb d.routine e.routine) ≡ true → d ≡ e
due_same d e h =
    ap₂ (λ (x y : ℕ). record { rank = x; routine = y })
    (eqb-true _ _ (and_left (eqb d.rank e.rank) (eqb d.routine e.routine) h))
    (eqb-true _ _ (and_right (eqb d.rank e.rank) (eqb d.routine e.routine) h))

module _ (p q : Post) (looks : Bool) (h : is_still p q looks ≡ true) where
  abbrev names : Bool
  names = eqb p.named.rank q.named.rank && eqb p.named.routine q.named.routine

  abbrev waits : Bool
  waits = eqb p.due.rank q.due.rank && eqb p.due.routine q.due.routine

  still_post : p ≡ q
  still_post =
      ap₂ (λ (x y : Due). record { named = x; due = y }) (due_same p.named q.named (and_left names (waits && not looks) h))
      (due_same p.due q.due (and_left waits (not looks) (and_right names (waits && not looks) h)))

  still_looks : looks ≡ false
  still_looks = not-true looks (and_right waits (not looks) (and_right names (waits && not looks) h))

-- the routines are as they were
pub posted_still : (r : Routines) (frozen : Bool) (c u : ℕ) (stood p : Post) (looks still : Bool) → stood ≡ post_at r c u → still ≡ is_still stood p looks → still ≡ true
    → r ≡ posted_in r frozen c u p looks
posted_still r frozen c u stood p looks still e es t =
    let h : is_still stood p looks ≡ true = sym es ∙ t in
    sym (ap (λ (b : Bool). posted_in r frozen c u p b) (still_looks stood p looks h) ∙ posted_own r frozen c u p (sym (still_post stood p looks h) ∙ e))

-- ---- the calls

-- an accepted ask: the request of the unit names the routine, or none
pub ask_posted : (r : Routines) (frozen : Bool) (c u n : ℕ) (naming : Naming) → n ≡ 0
    → posted_in r frozen c u (asked_post n (post_at r c u) naming) false ≡ asked_routines r c u naming
unfolding posted_in asked_post asked_in
ask_posted r frozen c u n naming e = ap (λ (k : ℕ). with_post r c u (cond (eqb k 0) (record { named = due_of naming; due = (post_at r c u).due }) (post_at r c u))) e

-- a refused one leaves the routines
pub ask_unposted : (r : Routines) (frozen : Bool) (c u n : ℕ) (naming : Naming) → (n ≡ 0 → ⊥)
    → posted_in r frozen c u (asked_post n (post_at r c u) naming) false ≡ r
unfolding asked_post
ask_unposted r frozen c u n naming h = posted_own r frozen c u _ (cond_false _ _ (ne_eqb n 0 h))

-- a report: the routine that the answered request names is due, and the scheduler looks
pub report_posted : (r : Routines) (frozen : Bool) (c u result : ℕ)
    → posted_in r frozen c u (reported_post result (post_at r c u)) (is_named_answer result (post_at r c u)) ≡ reported_routines r frozen c u result
unfolding posted_in reported_post is_named_answer reported_routines answered_in made_due_in
report_posted r frozen c u result =
    by_test (λ a. cond (a && is_due (post_at r c u).named)
    (looked_in (with_post r c u (cond (a && is_due (post_at r c u).named) (record { named = nothing_due; due = (post_at r c u).named }) (post_at r c u))) frozen)
    (with_post r c u (cond (a && is_due (post_at r c u).named) (record { named = nothing_due; due = (post_at r c u).named }) (post_at r c u)))
    ≡ cond a (cond (is_due (post_at r c u).named) (looked_in (with_post r c u (record { named = nothing_due; due = (post_at r c u).named })) frozen) r) r)
    (answers_request result)
    (λ a. by_test (λ d. cond d
    (looked_in (with_post r c u (cond d (record { named = nothing_due; due = (post_at r c u).named }) (post_at r c u))) frozen)
    (with_post r c u (cond d (record { named = nothing_due; due = (post_at r c u).named }) (post_at r c u)))
    ≡ cond d (looked_in (with_post r c u (record { named = nothing_due; due = (post_at r c u).named })) frozen) r)
    (is_due (post_at r c u).named) (λ d. refl) (λ d. post_own r c u))
    (λ a. post_own r c u)

-- ---- the two cases

module _ (r : Routines) (frozen : Bool) (c u : ℕ) (p : Post) (looks : Bool) where
  pub posted_look : looks ≡ true → posted_in r frozen c u p looks ≡ looked_in (with_post r c u p) frozen
  unfolding posted_in
  posted_look e = cond_true _ _ e

  pub posted_plain : looks ≡ false → posted_in r frozen c u p looks ≡ with_post r c u p
  unfolding posted_in
  posted_plain e = cond_false _ _ e
