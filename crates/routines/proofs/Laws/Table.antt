-- Laws of the posts: the post of a unit and another one in its place, what waits, and where a number is no unit's. Assumes nothing.
use mathlib.Core.Path.{◌≡◌, refl, sym, ap, ◌∙◌}
use mathlib.Core.Bool.{Bool, true, false}
use mathlib.Core.List.{List, [], ◌∷◌, map}
use Prim.Native.Nat.{ℕ, zero, suc, ◌≤◌, ◌<◌}
use native.Mathlib.Omega.{arith}
use borrow.Author.Tests.{ltb-true, ltb-false, eqb-true, eqb-false}
use lib.Dec.{ltb, eqb}
use lib.ListN.{length, get_or, set, get_or-eq_default, length-set, length-map}
use lib.Seq.{get_or-set_same, get_or-set_other, set_out}
use Rattle.area.proofs.Walks.{by_test, true_not_false}
use Rattle.routines.specs.declared.Due.{Due}
use Rattle.routines.specs.declared.Post.{Post}
use Rattle.routines.specs.declared.Posts.{Posts}
use Rattle.routines.specs.declared.Routines.{Routines}
use Rattle.routines.specs.Ranks.{nothing_due, is_due}
use Rattle.routines.specs.Waits.{is_unit, due_at, with_due}
use Rattle.routines.specs.Posts.{empty_post, no_posts, post_at, due_in, dues_in, waits_of, with_unit_post, with_post}

-- ---- a number that is no unit's

pub post_beyond : (r : Routines) (c u : ℕ) → length r.posts ≤ c → post_at r c u ≡ empty_post
post_beyond r c u h = ap (λ (x : Posts). get_or x.units u empty_post) (get_or-eq_default r.posts no_posts h)

pub unit_post_beyond : (p : Posts) (u : ℕ) (x : Post) → length p.units ≤ u → with_unit_post p u x ≡ p
unit_post_beyond p u x h = ap (λ (xs : List Post). record { units = xs }) (set_out p.units u x h)

pub with_post_beyond : (r : Routines) (c u : ℕ) (x : Post) → length r.posts ≤ c → with_post r c u x ≡ r
unfolding with_post
with_post_beyond r c u x h = ap (λ (ps : List Posts). record { programs = r.programs; posts = ps }) (set_out r.posts c (with_unit_post (get_or r.posts c no_posts) u x) h)

-- ---- what waits

get_d_map : {A B : Type 0} (f : A → B) (xs : List A) (i : ℕ) (d : A) → get_or (map f xs) i (f d) ≡ f (get_or xs i d)
get_d_map f [] i d = refl
get_d_map f (x ∷ xs) zero d = refl
get_d_map f (x ∷ xs) (suc i) d = get_d_map f xs i d

map_set : {A B : Type 0} (f : A → B) (xs : List A) (i : ℕ) (x : A) → map f (set xs i x) ≡ set (map f xs) i (f x)
map_set f [] i x = refl
map_set f (y ∷ xs) zero x = refl
map_set f (y ∷ xs) (suc i) x = ap (λ (ys : List _). f y ∷ ys) (map_set f xs i x)

pub dues_at : (r : Routines) (c : ℕ) → get_or (waits_of r) c [] ≡ dues_in (get_or r.posts c no_posts)
dues_at r c = get_d_map dues_in r.posts c no_posts

-- what waits at a unit is what is due at its post
pub due_at_lem : (r : Routines) (c u : ℕ) → due_at (waits_of r) c u ≡ (post_at r c u).due
due_at_lem r c u = ap (λ (ds : List Due). get_or ds u nothing_due) (dues_at r c) ∙ get_d_map due_in (get_or r.posts c no_posts).units u empty_post

-- another post: what is due at it waits there
pub waits_with : (r : Routines) (c u : ℕ) (x : Post) → waits_of (with_post r c u x) ≡ with_due (waits_of r) c u x.due
unfolding with_post with_due
waits_with r c u x =
    map_set dues_in r.posts c (with_unit_post (get_or r.posts c no_posts) u x)
    ∙ ap (set (waits_of r) c) (map_set due_in (get_or r.posts c no_posts).units u x ∙ ap (λ (ds : List Due). set ds u x.due) (sym (dues_at r c)))

-- ---- another post at a unit: every other one stays

module _ (r : Routines) (c u : ℕ) (x : Post) where
  abbrev row : Posts
  row = get_or r.posts c no_posts

  row_with_lem : c < length r.posts → get_or (set r.posts c (with_unit_post row u x)) c no_posts ≡ with_unit_post row u x
  row_with_lem h = get_or-set_same r.posts c (with_unit_post row u x) no_posts h

  pub post_other : (k v : ℕ) → (k ≡ c → v ≡ u → ⊥) → post_at (with_post r c u x) k v ≡ post_at r k v
  unfolding with_post
  post_other k v f = go (eqb k c) refl (ltb c (length r.posts)) refl
    where
      go : (a : Bool) → eqb k c ≡ a → (b : Bool) → ltb c (length r.posts) ≡ b → get_or (get_or (set r.posts c (with_unit_post row u x)) k no_posts).units v empty_post ≡ post_at r k v
      go false p b q = ap (λ (z : Posts). get_or z.units v empty_post) (get_or-set_other r.posts c k (with_unit_post row u x) no_posts (eqb-false k c p))
      go true p true q =
          let e : k ≡ c = eqb-true k c p in
          rw (e, row_with_lem (ltb-true c (length r.posts) q)) (get_or-set_other row.units u v x empty_post (f e))
      go true p false q = rw (set_out r.posts c (with_unit_post row u x) (ltb-false c (length r.posts) q))

  -- at the unit stands the new one, and at a number that is no unit's an empty one
  pub post_or : (P : Post → Type 0) → P x → P empty_post → P (post_at (with_post r c u x) c u)
  unfolding with_post
  post_or P new none = go (ltb c (length r.posts)) refl (ltb u (length row.units)) refl
    where
      go : (a : Bool) → ltb c (length r.posts) ≡ a → (b : Bool) → ltb u (length row.units) ≡ b → P (get_or (get_or (set r.posts c (with_unit_post row u x)) c no_posts).units u empty_post)
      go true p true q =
          let here : get_or (set row.units u x) u empty_post ≡ x = get_or-set_same row.units u x empty_post (ltb-true u (length row.units) q) in
          rw (row_with_lem (ltb-true c (length r.posts) p), here) new
      go true p false q =
          let here : get_or (set row.units u x) u empty_post ≡ empty_post =
          ap (λ (xs : List Post). get_or xs u empty_post) (set_out row.units u x (ltb-false u (length row.units) q)) ∙ get_or-eq_default row.units empty_post (ltb-false u (length row.units) q) in
          rw (row_with_lem (ltb-true c (length r.posts) p), here) none
      go false p b q =
          let here : get_or (set r.posts c (with_unit_post row u x)) c no_posts ≡ no_posts =
          ap (λ (xs : List Posts). get_or xs c no_posts) (set_out r.posts c (with_unit_post row u x) (ltb-false c (length r.posts) p)) ∙ get_or-eq_default r.posts no_posts (ltb-false c (length r.posts) p) in
          rw here none

  -- what holds of the new post, of an empty one there and of all others as they were holds of each
  pub posts_with : (P : ℕ → ℕ → Post → Type 0) → P c u x → P c u empty_post → ((k v : ℕ) → (k ≡ c → v ≡ u → ⊥) → P k v (post_at r k v)) → (k v : ℕ) → P k v (post_at (with_post r c u x) k v)
  posts_with P new none others k v = go (eqb k c) refl (eqb v u) refl
    where
      other : (k ≡ c → v ≡ u → ⊥) → P k v (post_at (with_post r c u x) k v)
      other f = rw (post_other k v f) (others k v f)

      go : (a : Bool) → eqb k c ≡ a → (b : Bool) → eqb v u ≡ b → P k v (post_at (with_post r c u x) k v)
      go false p b q = other (λ e. λ f. eqb-false k c p e)
      go true p false q = other (λ e. λ f. eqb-false v u q f)
      go true p true q =
          let d : k ≡ c = eqb-true k c p in
          let e : v ≡ u = eqb-true v u q in
          rw (d, e) (post_or (P c u) new none)

  -- as many posts as before
  pub table_with_lem : length (with_post r c u x).posts ≡ length r.posts
  unfolding with_post
  table_with_lem = length-set r.posts c (with_unit_post row u x)

  pub rows_with : (k : ℕ) → length (get_or (with_post r c u x).posts k no_posts).units ≡ length (get_or r.posts k no_posts).units
  unfolding with_post
  rows_with k = go (eqb k c) refl (ltb c (length r.posts)) refl
    where
      go : (a : Bool) → eqb k c ≡ a → (b : Bool) → ltb c (length r.posts) ≡ b → length (get_or (set r.posts c (with_unit_post row u x)) k no_posts).units ≡ length (get_or r.posts k no_posts).units
      go false p b q = ap (λ (z : Posts). length z.units) (get_or-set_other r.posts c k (with_unit_post row u x) no_posts (eqb-false k c p))
      go true p true q =
          let e : k ≡ c = eqb-true k c p in
          rw (e, row_with_lem (ltb-true c (length r.posts) q)) (length-set row.units u x)
      go true p false q = rw (set_out r.posts c (with_unit_post row u x) (ltb-false c (length r.posts) q))

-- a routine that a request names is named at a unit
pub named_unit : (r : Routines) (c u : ℕ) → is_due (post_at r c u).named ≡ true → is_unit (waits_of r) c u ≡ true
named_unit r c u e = by_test (λ b. is_unit (waits_of r) c u ≡ b → b ≡ true) (is_unit (waits_of r) c u) (λ t f. refl) (λ t f. absurd (none f)) refl
  where
    none : is_unit (waits_of r) c u ≡ false → ⊥
    none f =
        let long : length (get_or (waits_of r) c []) ≡ length (get_or r.posts c no_posts).units = ap (λ (ds : List Due). length ds) (dues_at r c) ∙ length-map (get_or r.posts c no_posts).units due_in in
        let beyond : length (get_or r.posts c no_posts).units ≤ u = let l = ltb-false u (length (get_or (waits_of r) c [])) f in omega arith in
        let z : post_at r c u ≡ empty_post = get_or-eq_default (get_or r.posts c no_posts).units empty_post beyond in
        true_not_false e (ap (λ (p : Post). is_due p.named) z)
