-- Two calls on two channels, and the routines: what either does to the posts of its own unit the other does not see. Assumes nothing.
use mathlib.Core.Path.{◌≡◌, refl, sym, ap, ◌∙◌}
use mathlib.Core.Logic.{◌≢◌}
use mathlib.Core.Bool.{Bool, true, false, cond, ◌&&◌}
use mathlib.Core.List.{List}
use Prim.Native.Nat.{ℕ, ◌<◌}
use lib.ListN.{length, get_or, set}
use lib.Seq.{get_or-set_same, get_or-set_other, set-set, set_comm}
use Rattle.area.proofs.Walks.{by_test}
use Rattle.routines.specs.declared.Due.{Due}
use Rattle.routines.specs.declared.Programs.{Programs}
use Rattle.routines.specs.declared.Post.{Post}
use Rattle.routines.specs.declared.Posts.{Posts}
use Rattle.routines.specs.declared.Routines.{Routines}
use Rattle.routines.specs.Ranks.{nothing_due, is_due, waiting_at}
use Rattle.routines.specs.Waits.{Waits, is_unit, with_due, highest}
use Rattle.routines.specs.Schedule.{enters, interrupted_by, look_of}
use Rattle.routines.specs.Right.{is_settled}
use Rattle.routines.specs.Posts.{empty_post, no_posts, post_at, waits_of, with_programs, with_unit_post, with_post}
use Rattle.routines.specs.Changes.{asked_in, made_due_in, cleared_in, scheduled_in, looked_in, answered_in}
use Rattle.routines.proofs.Laws.Highest.{with_own}
use Rattle.routines.proofs.Laws.Own.{look_own}
use Rattle.routines.proofs.Laws.Table.{due_at_lem, waits_with, post_other, named_unit}
use Rattle.call_request.specs.Named.{answers_request, reported_routines}
use Rattle.demands.proofs.Looks.{line_below, post_here}

-- ---- two posts

-- a second post in the place of the first
post_twice : (r : Routines) (c u : ℕ) (x y : Post) → c < length r.posts → with_post (with_post r c u x) c u y ≡ with_post r c u y
unfolding with_post
post_twice r c u x y l =
    let row = get_or r.posts c no_posts in
    let new : get_or (set r.posts c (with_unit_post row u x)) c no_posts ≡ with_unit_post row u x = get_or-set_same r.posts c (with_unit_post row u x) no_posts l in
    ap (λ (p : Posts). record { programs = r.programs; posts = set (set r.posts c (with_unit_post row u x)) c (with_unit_post p u y) }) new
    ∙ ap (λ (xs : List Post). record { programs = r.programs; posts = set (set r.posts c (with_unit_post row u x)) c (record { units = xs }) }) (set-set row.units u x y)
    ∙ ap (λ (ps : List Posts). record { programs = r.programs; posts = ps }) (set-set r.posts c (with_unit_post row u x) (with_unit_post row u y))

-- posts of two channels
post_comm : (r : Routines) (c u : ℕ) (x : Post) (k v : ℕ) (y : Post) → c ≢ k → with_post (with_post r c u x) k v y ≡ with_post (with_post r k v y) c u x
unfolding with_post
post_comm r c u x k v y ne =
    let a = with_unit_post (get_or r.posts c no_posts) u x in
    let b = with_unit_post (get_or r.posts k no_posts) v y in
    ap (λ (p : Posts). record { programs = r.programs; posts = set (set r.posts c a) k (with_unit_post p v y) }) (get_or-set_other r.posts c k a no_posts (λ e. ne (sym e)))
    ∙ ap (λ (ps : List Posts). record { programs = r.programs; posts = ps }) (set_comm r.posts c k a b ne)
    ∙ ap (λ (p : Posts). record { programs = r.programs; posts = set (set r.posts k b) c (with_unit_post p u x) }) (sym (get_or-set_other r.posts k c b no_posts ne))

-- ---- an answer, where nothing was left to enter before it: only the routine that it makes due can enter

abbrev Settled : Routines → Bool → Type 0
Settled r frozen = is_settled r.programs frozen (highest (waits_of r)) ≡ true

-- the routine d of the unit is entered, or waits
abbrev own_in : Routines → Bool → ℕ → ℕ → Due → Routines
own_in r frozen c u d =
    cond (enters r.programs frozen (waiting_at c u d))
    (with_post (with_programs r (interrupted_by r.programs (waiting_at c u d))) c u empty_post)
    (with_post r c u (record { named = nothing_due; due = d }))

module _ (r : Routines) (frozen : Bool) (c u : ℕ) where
  abbrev d : Due
  d = (post_at r c u).named

  -- a request that names none
  pub answered_none : is_due (post_at r c u).named ≡ false → answered_in r frozen c u ≡ r
  unfolding answered_in
  answered_none e = rw e

  module _ (settled : is_settled r.programs frozen (highest (waits_of r)) ≡ true) (named : is_due (post_at r c u).named ≡ true) where
    unit : is_unit (waits_of r) c u ≡ true
    unit = named_unit r c u named

    abbrev made : Routines
    made = with_post r c u (record { named = nothing_due; due = (post_at r c u).named })

    looks_own : look_of r.programs frozen (highest (waits_of (made_due_in r c u))) ≡ look_of r.programs frozen (waiting_at c u (post_at r c u).named)
    unfolding made_due_in
    looks_own =
        ap (λ (w : Waits). look_of r.programs frozen (highest w)) (waits_with r c u (record { named = nothing_due; due = (post_at r c u).named }))
        ∙ look_own r.programs (waits_of r) c u (post_at r c u).named unit frozen settled

    -- what is entered is cleared where it was made due
    cleared_own : (p : Programs) → cleared_in (with_programs (with_post r c u (record { named = nothing_due; due = (post_at r c u).named })) p) c u ≡ with_post (with_programs r p) c u empty_post
    unfolding cleared_in with_post
    cleared_own p =
        let x : Post = record { named = nothing_due; due = (post_at r c u).named } in
        ap (λ (y : Post). with_post (with_post (with_programs r p) c u x) c u (record { named = y.named; due = nothing_due })) (post_here r c u unit x)
        ∙ post_twice (with_programs r p) c u x empty_post (line_below r c u unit)

    pub answered_own : answered_in r frozen c u ≡ own_in r frozen c u (post_at r c u).named
    unfolding answered_in looked_in scheduled_in made_due_in look_of interrupted_by with_post
    answered_own =
        rw named
        (ap (scheduled_in (made_due_in r c u)) looks_own
        ∙ by_test (λ t. scheduled_in (made_due_in r c u) (cond t (record { entered = true; programs = interrupted_by r.programs (waiting_at c u d) }) (record { entered = false; programs = r.programs }))
        ≡ cond t (with_post (with_programs r (interrupted_by r.programs (waiting_at c u d))) c u empty_post) (with_post r c u (record { named = nothing_due; due = d })))
        (enters r.programs frozen (waiting_at c u d))
        (λ e. cleared_own (interrupted_by r.programs (waiting_at c u d)))
        (λ e. refl))

-- ---- every other unit keeps its post

pub asked_other : (r : Routines) (c u : ℕ) (d : Due) (k v : ℕ) → k ≢ c → post_at (asked_in r c u d) k v ≡ post_at r k v
unfolding asked_in
asked_other r c u d k v ne = post_other r c u _ k v (λ e. λ f. ne e)

pub answered_other : (r : Routines) (frozen : Bool) (c u : ℕ) → Settled r frozen → (k v : ℕ) → k ≢ c → post_at (answered_in r frozen c u) k v ≡ post_at r k v
answered_other r frozen c u settled k v ne =
    by_test (λ t. is_due (post_at r c u).named ≡ t → post_at (answered_in r frozen c u) k v ≡ post_at r k v) (is_due (post_at r c u).named)
    (λ t e. ap (λ (q : Routines). post_at q k v) (answered_own r frozen c u settled e) ∙ own (enters r.programs frozen (waiting_at c u (post_at r c u).named)))
    (λ t e. ap (λ (q : Routines). post_at q k v) (answered_none r frozen c u e)) refl
  where
    own : (b : Bool)
        → post_at (cond b (with_post (with_programs r (interrupted_by r.programs (waiting_at c u (post_at r c u).named))) c u empty_post) (with_post r c u (record { named = nothing_due; due = (post_at r c u).named }))) k v
        ≡ post_at r k v
    own true = post_other (with_programs r (interrupted_by r.programs (waiting_at c u (post_at r c u).named))) c u empty_post k v (λ e. λ f. ne e)
    own false = post_other r c u (record { named = nothing_due; due = (post_at r c u).named }) k v (λ e. λ f. ne e)

-- an ask leaves what waits
pub asked_waits : (r : Routines) (c u : ℕ) (d : Due) → waits_of (asked_in r c u d) ≡ waits_of r
unfolding asked_in
asked_waits r c u d = waits_with r c u _ ∙ ap (with_due (waits_of r) c u) (sym (due_at_lem r c u)) ∙ with_own (waits_of r) c u

pub asked_settled : (r : Routines) (frozen : Bool) (c u : ℕ) (d : Due) → Settled r frozen → Settled (asked_in r c u d) frozen
unfolding asked_in with_post
asked_settled r frozen c u d settled = ap (λ (w : Waits). is_settled r.programs frozen (highest w)) (asked_waits r c u d) ∙ settled

-- ---- in either order

pub asks_comm : (r : Routines) (c u : ℕ) (d : Due) (k v : ℕ) (e : Due) → c ≢ k → asked_in (asked_in r c u d) k v e ≡ asked_in (asked_in r k v e) c u d
unfolding asked_in
asks_comm r c u d k v e ne =
    ap (λ (x : Post). with_post (asked_in r c u d) k v (record { named = e; due = x.due })) (asked_other r c u d k v (λ q. ne (sym q)))
    ∙ post_comm r c u _ k v _ ne
    ∙ ap (λ (x : Post). with_post (asked_in r k v e) c u (record { named = d; due = x.due })) (sym (asked_other r k v e c u ne))

pub ask_answer_comm : (r : Routines) (frozen : Bool) (c u : ℕ) (k v : ℕ) (e : Due) → Settled r frozen → c ≢ k
    → answered_in (asked_in r k v e) frozen c u ≡ asked_in (answered_in r frozen c u) k v e
unfolding asked_in with_post
ask_answer_comm r frozen c u k v e settled ne =
    by_test (λ t. is_due (post_at r c u).named ≡ t → answered_in (asked_in r k v e) frozen c u ≡ asked_in (answered_in r frozen c u) k v e) (is_due (post_at r c u).named)
    (λ t named.
    answered_own (asked_in r k v e) frozen c u (asked_settled r frozen k v e settled) (ap is_due same ∙ named)
    ∙ ap (own_in (asked_in r k v e) frozen c u) same
    ∙ own (enters r.programs frozen (waiting_at c u (post_at r c u).named))
    ∙ ap (λ (q : Routines). asked_in q k v e) (sym (answered_own r frozen c u settled named)))
    (λ t none. answered_none (asked_in r k v e) frozen c u (ap is_due same ∙ none) ∙ ap (λ (q : Routines). asked_in q k v e) (sym (answered_none r frozen c u none))) refl
  where
    same : (post_at (asked_in r k v e) c u).named ≡ (post_at r c u).named
    same = ap (λ (x : Post). x.named) (asked_other r k v e c u ne)

    -- an ask beside another post and other programs
    past : (q : Routines) (p : Programs) (x : Post) → with_post (with_programs (asked_in q k v e) p) c u x ≡ asked_in (with_post (with_programs q p) c u x) k v e
    past q p x =
        post_comm (with_programs q p) k v (record { named = e; due = (post_at q k v).due }) c u x (λ f. ne (sym f))
        ∙ ap (λ (y : Post). with_post (with_post (with_programs q p) c u x) k v (record { named = e; due = y.due })) (sym (post_other (with_programs q p) c u x k v (λ f. λ g. ne (sym f))))

    own : (b : Bool)
        → cond b (with_post (with_programs (asked_in r k v e) (interrupted_by r.programs (waiting_at c u (post_at r c u).named))) c u empty_post)
        (with_post (asked_in r k v e) c u (record { named = nothing_due; due = (post_at r c u).named }))
        ≡ asked_in (cond b (with_post (with_programs r (interrupted_by r.programs (waiting_at c u (post_at r c u).named))) c u empty_post)
        (with_post r c u (record { named = nothing_due; due = (post_at r c u).named }))) k v e
    own true = past r (interrupted_by r.programs (waiting_at c u (post_at r c u).named)) empty_post
    own false = past r r.programs (record { named = nothing_due; due = (post_at r c u).named })

-- ---- a report, whether it answers or not

-- it answers a request that names a routine
abbrev names_at : Routines → ℕ → ℕ → ℕ → Bool
names_at r c u result = answers_request result && is_due (post_at r c u).named

pub reported_idle : (r : Routines) (frozen : Bool) (c u result : ℕ) → names_at r c u result ≡ false → reported_routines r frozen c u result ≡ r
unfolding reported_routines
reported_idle r frozen c u result e = go (answers_request result) e
  where
    go : (b : Bool) → (b && is_due (post_at r c u).named) ≡ false → cond b (answered_in r frozen c u) r ≡ r
    go true q = answered_none r frozen c u q
    go false q = refl

pub reported_other : (r : Routines) (frozen : Bool) (c u result : ℕ) → Settled r frozen → (k v : ℕ) → k ≢ c → post_at (reported_routines r frozen c u result) k v ≡ post_at r k v
unfolding reported_routines
reported_other r frozen c u result settled k v ne = go (answers_request result)
  where
    go : (b : Bool) → post_at (cond b (answered_in r frozen c u) r) k v ≡ post_at r k v
    go true = answered_other r frozen c u settled k v ne
    go false = refl

pub ask_report_comm : (r : Routines) (frozen : Bool) (c u result k v : ℕ) (e : Due) → Settled r frozen → c ≢ k
    → reported_routines (asked_in r k v e) frozen c u result ≡ asked_in (reported_routines r frozen c u result) k v e
unfolding reported_routines
ask_report_comm r frozen c u result k v e settled ne = go (answers_request result)
  where
    go : (b : Bool) → cond b (answered_in (asked_in r k v e) frozen c u) (asked_in r k v e) ≡ asked_in (cond b (answered_in r frozen c u) r) k v e
    go true = ask_answer_comm r frozen c u k v e settled ne
    go false = refl

-- one of two makes nothing due
module _ (r : Routines) (frozen : Bool) (c u result k v other : ℕ) (settled : Settled r frozen) (ne : c ≢ k) where
  beside_idle : names_at r c u result ≡ false
      → reported_routines (reported_routines r frozen c u result) frozen k v other ≡ reported_routines (reported_routines r frozen k v other) frozen c u result
  beside_idle idle =
      ap (λ (q : Routines). reported_routines q frozen k v other) (reported_idle r frozen c u result idle)
      ∙ sym (reported_idle (reported_routines r frozen k v other) frozen c u result
      (ap (λ (x : Post). answers_request result && is_due x.named) (reported_other r frozen k v other settled c u ne) ∙ idle))

pub reports_comm : (r : Routines) (frozen : Bool) (c u result k v other : ℕ) → Settled r frozen → c ≢ k
    → (names_at r c u result ≡ true → names_at r k v other ≡ true → ⊥)
    → reported_routines (reported_routines r frozen c u result) frozen k v other ≡ reported_routines (reported_routines r frozen k v other) frozen c u result
reports_comm r frozen c u result k v other settled ne single = go (names_at r c u result) refl (names_at r k v other) refl
  where
    go : (a : Bool) → names_at r c u result ≡ a → (b : Bool) → names_at r k v other ≡ b
        → reported_routines (reported_routines r frozen c u result) frozen k v other ≡ reported_routines (reported_routines r frozen k v other) frozen c u result
    go false p b q = beside_idle r frozen c u result k v other settled ne p
    go true p false q = sym (beside_idle r frozen k v other c u result settled (λ e. ne (sym e)) q)
    go true p true q = absurd (single p q)
