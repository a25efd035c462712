-- Laws of tests, of walks and counts along the numbers, and of a list with one element replaced. Assumes nothing.
use mathlib.Core.Path.{◌≡◌, refl, sym, ap, ap₂, ◌∙◌}
use mathlib.Core.Bool.{Bool, true, false, not, cond, ◌&&◌, ◌||◌}
use mathlib.Core.List.{List, [], ◌∷◌}
use Prim.Native.Nat.{ℕ, zero, suc, ◌+◌, ◌-◌, ◌≤◌, ◌<◌}
use native.Mathlib.Decide.{dec_lt}
use native.Mathlib.Numerals.{add-one}
use native.Mathlib.Omega.{arith}
use borrow.Author.Tests.{eq-eqb, ne_eqb, lt-ltb, le-ltb}
use lib.Dec.{eqb, ltb}
use lib.ListN.{get_or, set}
use Rattle.area.specs.Lists.{any_of, all_of, all_pairs, count_of, first_along, count_along, along}
use Rattle.area.proofs.Walks.{true_not_false, and_left, and_right, and_both}
use Rattle.area.proofs.Firsts.{First, first_finds, first_stop, first_go, first_none, count_stop, count_go, count_none}
use Rattle.std.specs.declared.option.Option.{Option}
use Rattle.std.specs.declared.option.Option.TheVariants.{Some, None}
use Rattle.std.specs.Option.{is_some, unwrap_or}

-- ---- Bool

pub cond_true : {A : Type 0} {b : Bool} (x y : A) → b ≡ true → cond b x y ≡ x
cond_true {A} {b} x y e = ap (λ (t : Bool). cond t x y) e

pub cond_false : {A : Type 0} {b : Bool} (x y : A) → b ≡ false → cond b x y ≡ y
cond_false {A} {b} x y e = ap (λ (t : Bool). cond t x y) e

-- what follows from a test, where "not or" says so
pub unless : (a b : Bool) → (not a || b) ≡ true → a ≡ true → b ≡ true
unless true b e h = e
unless false b e h = true_not_false h refl

pub unless_so : (a b : Bool) → (a ≡ true → b ≡ true) → (not a || b) ≡ true
unless_so true b h = h refl
unless_so false b h = refl

-- ---- numbers one after the other: the answer e₀ of the whole is that of the numbers from k on up to m

module _ (test : ℕ → Bool) (m k : ℕ) where
  pub first_hit : (e₀ : Option ℕ) → k < m → e₀ ≡ first_along suc test (m - k) k → test k ≡ true → Some k ≡ e₀
  first_hit e₀ h inv e = sym (inv ∙ first_stop suc test (m - k) k (omega arith) e)

  pub first_miss : (e₀ : Option ℕ) → k < m → e₀ ≡ first_along suc test (m - k) k → test k ≡ false → e₀ ≡ first_along suc test (m - (k + 1)) (k + 1)
  first_miss e₀ h inv e =
      let p : m - k - 1 ≡ m - (k + 1) = omega arith in
      inv ∙ first_go suc test (m - k) k (omega arith) e ∙ ap₂ (first_along suc test) p (sym (add-one k))

  pub first_done : (e₀ : Option ℕ) → m ≤ k → e₀ ≡ first_along suc test (m - k) k → None ≡ e₀
  first_done e₀ h inv =
      let p : m - k ≡ 0 = omega arith in
      sym (inv ∙ ap (λ (n : ℕ). first_along suc test n k) p ∙ first_none suc test k)

  pub count_hit : (n e₀ : ℕ) → k < m → n + count_along suc test (m - k) k ≡ e₀ → test k ≡ true → n + 1 + count_along suc test (m - (k + 1)) (k + 1) ≡ e₀
  count_hit n e₀ h inv e =
      let p : m - k - 1 ≡ m - (k + 1) = omega arith in
      let q : count_along suc test (m - k - 1) (suc k) ≡ count_along suc test (m - (k + 1)) (k + 1) = ap₂ (count_along suc test) p (sym (add-one k)) in
      omega (arith, count_stop suc test (m - k) k (omega arith) e)

  pub count_miss : (n e₀ : ℕ) → k < m → n + count_along suc test (m - k) k ≡ e₀ → test k ≡ false → n + count_along suc test (m - (k + 1)) (k + 1) ≡ e₀
  count_miss n e₀ h inv e =
      let p : m - k - 1 ≡ m - (k + 1) = omega arith in
      let q : count_along suc test (m - k - 1) (suc k) ≡ count_along suc test (m - (k + 1)) (k + 1) = ap₂ (count_along suc test) p (sym (add-one k)) in
      omega (arith, count_go suc test (m - k) k (omega arith) e)

  pub count_done : (n e₀ : ℕ) → m ≤ k → n + count_along suc test (m - k) k ≡ e₀ → n ≡ e₀
  count_done n e₀ h inv =
      let p : m - k ≡ 0 = omega arith in
      let q : count_along suc test (m - k) k ≡ count_along suc test 0 k = ap (λ (j : ℕ). count_along suc test j k) p in
      omega (arith, count_none suc test k)

abbrev one : Bool → ℕ
one b = cond b 1 0

-- ---- how many numbers pass

pub along_suc : (j u : ℕ) → along suc j u ≡ u + j
unfolding along
along_suc zero u = omega arith
along_suc (suc j) u = along_suc j (suc u) ∙ omega arith

-- of the numbers, those that pass and those that do not are all
pub count_rest : (p : ℕ → Bool) (n u : ℕ) → count_along suc (λ b. not (p b)) n u + count_along suc p n u ≡ n
unfolding count_along
count_rest p zero u = omega arith
count_rest p (suc n) u = go (p u) (count_rest p n (suc u))
  where
    go : (t : Bool) → count_along suc (λ b. not (p b)) n (suc u) + count_along suc p n (suc u) ≡ n
        → one (not t) + count_along suc (λ b. not (p b)) n (suc u) + (one t + count_along suc p n (suc u)) ≡ suc n
    go true e = omega arith
    go false e = omega arith

-- none passes
pub count_zero : (p : ℕ → Bool) (n u : ℕ) → ((b : ℕ) → p b ≡ false) → count_along suc p n u ≡ 0
unfolding count_along
count_zero p zero u h = refl
count_zero p (suc n) u h = let e : one (p u) ≡ 0 = ap one (h u) in omega (arith, count_zero p n (suc u) h)

-- those that pass one test or the other, where none passes both
pub count_either : (p q : ℕ → Bool) (n u : ℕ) → ((b : ℕ) → p b ≡ true → q b ≡ false) → count_along suc (λ b. p b || q b) n u ≡ count_along suc p n u + count_along suc q n u
unfolding count_along
count_either p q zero u h = refl
count_either p q (suc n) u h = go (p u) (q u) (h u) (count_either p q n (suc u) h)
  where
    go : (s t : Bool) → (s ≡ true → t ≡ false)
        → count_along suc (λ b. p b || q b) n (suc u) ≡ count_along suc p n (suc u) + count_along suc q n (suc u)
        → one (s || t) + count_along suc (λ b. p b || q b) n (suc u) ≡ one s + count_along suc p n (suc u) + (one t + count_along suc q n (suc u))
    go true true k e = true_not_false refl (k refl)
    go true false k e = omega arith
    go false true k e = omega arith
    go false false k e = omega arith

-- a number that lies before them, and one that is among them
pub count_before : (a n u : ℕ) → a < u → count_along suc (eqb a) n u ≡ 0
unfolding count_along
count_before a zero u h = refl
count_before a (suc n) u h =
    let e : one (eqb a u) ≡ 0 = ap one (ne_eqb a u (λ q. omega arith)) in
    omega (arith, count_before a n (suc u) (omega arith))

pub count_one : (a n u : ℕ) → u ≤ a → a < u + n → count_along suc (eqb a) n u ≡ 1
unfolding count_along
count_one a zero u h k = absurd (omega arith)
count_one a (suc n) u h k = go (dec_lt u a) (λ l. count_one a n (suc u) (omega arith) (omega arith))
  where
    go : Dec (u < a) → (u < a → count_along suc (eqb a) n (suc u) ≡ 1) → one (eqb a u) + count_along suc (eqb a) n (suc u) ≡ 1
    go (yes l) rest = let e : one (eqb a u) ≡ 0 = ap one (ne_eqb a u (λ q. omega arith)) in omega (arith, rest l)
    go (no l) rest = let e : one (eqb a u) ≡ 1 = ap one (eq-eqb a u (omega (arith, l))) in omega (arith, count_before a n (suc u) (omega (arith, l)))

-- ---- over lists

module _ {A : Type 0} where
  -- where every element that passes one test fails the other, and all pass the one, none passes the other
  pub any_none : (test p : A → Bool) (xs : List A) → ((x : A) → test x ≡ true → p x ≡ false) → all_of test xs ≡ true → any_of p xs ≡ false
  unfolding all_of any_of
  any_none test p [] h e = refl
  any_none test p (x ∷ xs) h e =
      ap₂ (λ (s t : Bool). s || t) (h x (and_left (test x) _ e)) (any_none test p xs h (and_right (test x) _ e))

  none_counted : (p : A → Bool) (xs : List A) → any_of p xs ≡ false → count_of p xs ≡ 0
  unfolding any_of count_of
  none_counted p [] e = refl
  none_counted p (x ∷ xs) e = go (p x) e (none_counted p xs)
    where
      go : (t : Bool) → (t || any_of p xs) ≡ false → (any_of p xs ≡ false → count_of p xs ≡ 0) → one t + count_of p xs ≡ 0
      go true q rest = true_not_false refl q
      go false q rest = omega (arith, rest q)

  -- where no two elements pass together, one passes or none
  pub count_alone : (test : A → A → Bool) (p : A → Bool) (xs : List A) → ((x y : A) → test x y ≡ true → p x ≡ true → p y ≡ false) → all_pairs test xs ≡ true
      → count_of p xs ≡ one (any_of p xs)
  unfolding all_pairs any_of count_of
  count_alone test p [] h e = refl
  count_alone test p (x ∷ xs) h e = go (p x) refl (count_alone test p xs h (and_right (all_of (test x) xs) _ e))
    where
      go : (t : Bool) → p x ≡ t → count_of p xs ≡ one (any_of p xs) → one t + count_of p xs ≡ one (t || any_of p xs)
      go true q rest = omega (arith, none_counted p xs (any_none (test x) p xs (λ y k. h x y k q) (and_left (all_of (test x) xs) _ e)))
      go false q rest = omega arith

  -- ---- one element replaced

  pub all_set : (test : A → Bool) (xs : List A) (i : ℕ) (y : A) → all_of test xs ≡ true → test y ≡ true → all_of test (set xs i y) ≡ true
  unfolding all_of
  all_set test [] i y e t = refl
  all_set test (x ∷ xs) zero y e t = and_both (test y) _ t (and_right (test x) _ e)
  all_set test (x ∷ xs) (suc i) y e t = and_both (test x) _ (and_left (test x) _ e) (all_set test xs i y (and_right (test x) _ e) t)

  -- by one that is apart from all
  pub pairs_set : (test : A → A → Bool) (xs : List A) (i : ℕ) (y : A) → all_pairs test xs ≡ true → all_of (test y) xs ≡ true → all_of (λ x. test x y) xs ≡ true
      → all_pairs test (set xs i y) ≡ true
  unfolding all_pairs all_of
  pairs_set test [] i y e l r = refl
  pairs_set test (x ∷ xs) zero y e l r = and_both (all_of (test y) xs) _ (and_right (test y x) _ l) (and_right (all_of (test x) xs) _ e)
  pairs_set test (x ∷ xs) (suc i) y e l r =
      and_both (all_of (test x) (set xs i y)) _ (all_set (test x) xs i y (and_left (all_of (test x) xs) _ e) (and_left (test x y) _ r))
      (pairs_set test xs i y (and_right (all_of (test x) xs) _ e) (and_right (test y x) _ l) (and_right (test x y) _ r))

  all_same : (p q : A → Bool) → ((x : A) → p x ≡ q x) → (xs : List A) → all_of p xs ≡ all_of q xs
  unfolding all_of
  all_same p q h [] = refl
  all_same p q h (x ∷ xs) = ap₂ (λ (s t : Bool). s && t) (h x) (all_same p q h xs)

  all_alike : (test : A → Bool) (d : A) (xs : List A) (i : ℕ) (y : A) → test y ≡ test (get_or xs i d) → all_of test (set xs i y) ≡ all_of test xs
  unfolding all_of
  all_alike test d [] i y e = refl
  all_alike test d (x ∷ xs) zero y e = ap (λ (t : Bool). t && all_of test xs) e
  all_alike test d (x ∷ xs) (suc i) y e = ap (λ (t : Bool). test x && t) (all_alike test d xs i y e)

  -- by one that is apart from the same ones
  pub pairs_alike : (test : A → A → Bool) (d : A) (xs : List A) (i : ℕ) (y : A) → ((x : A) → test y x ≡ test (get_or xs i d) x) → ((x : A) → test x y ≡ test x (get_or xs i d))
      → all_pairs test (set xs i y) ≡ all_pairs test xs
  unfolding all_pairs
  pairs_alike test d [] i y l r = refl
  pairs_alike test d (x ∷ xs) zero y l r = ap (λ (t : Bool). t && all_pairs test xs) (all_same (test y) (test x) l xs)
  pairs_alike test d (x ∷ xs) (suc i) y l r = ap₂ (λ (s t : Bool). s && t) (all_alike (test x) d xs i y (r x)) (pairs_alike test d xs i y l r)

-- ---- the first of the numbers that pass, by how many pass

-- the first of n numbers from u on stands at a place, and c pass after it
pub record Counted (test : ℕ → Bool) (n u c : ℕ) : Type 0 where
  pub place : ℕ
  pub found : first_along suc test n u ≡ Some place
  pub from : u ≤ place
  pub below : place < u + n
  pub passes : test place ≡ true
  pub rest : count_along suc test (u + n - suc place) (suc place) ≡ c

pub first_counted : (test : ℕ → Bool) (n u c : ℕ) → count_along suc test n u ≡ suc c → Counted test n u c
unfolding first_along count_along
first_counted test zero u c e = absurd (omega arith)
first_counted test (suc n) u c e = go (test u) refl e (first_counted test n (suc u) c)
  where
    go : (t : Bool) → test u ≡ t → one t + count_along suc test n (suc u) ≡ suc c → (count_along suc test n (suc u) ≡ suc c → Counted test n (suc u) c) → Counted test (suc n) u c
    go true q k later =
        let left : u + suc n - suc u ≡ n = omega arith in
        record {
          place = u;
          found = cond_true (Some u) (first_along suc test n (suc u)) q;
          from = omega arith;
          below = omega arith;
          passes = q;
          rest = ap (λ (j : ℕ). count_along suc test j (suc u)) left ∙ omega arith;
        }
    go false q k later =
        let C = later (omega arith) in
        let left : u + suc n - suc C.place ≡ suc u + n - suc C.place = omega arith in
        record {
          place = C.place;
          found = cond_false (Some u) (first_along suc test n (suc u)) q ∙ C.found;
          from = omega (arith, C.from);
          below = omega (arith, C.below);
          passes = C.passes;
          rest = ap (λ (j : ℕ). count_along suc test j (suc C.place)) left ∙ C.rest;
        }

-- what a walk up the numbers finds is the lowest that passes
pub first_lowest : (test : ℕ → Bool) (n u p : ℕ) → first_along suc test n u ≡ Some p → (u ≤ p) × (p < u + n) × (test p ≡ true) × ((j : ℕ) → u ≤ j → j < p → test j ≡ false)
first_lowest test n u p e =
    let F = first_finds suc test n u p e in
    let at : p ≡ u + F.steps = sym F.reached ∙ along_suc F.steps u in
    (omega arith, omega (arith, F.among), F.passes, lower F at)
  where
    lower : (F : First suc test n u p) → p ≡ u + F.steps → (j : ℕ) → u ≤ j → j < p → test j ≡ false
    lower F at j h l =
        let back : along suc (j - u) u ≡ j = along_suc (j - u) u ∙ omega arith in
        ap test (sym back) ∙ F.before (j - u) (omega arith)

-- ---- tests that agree, and a test that fails from a number on

pub first_ext : (s t : ℕ → Bool) (n u : ℕ) → ((b : ℕ) → u ≤ b → b < u + n → s b ≡ t b) → first_along suc s n u ≡ first_along suc t n u
unfolding first_along
first_ext s t zero u h = refl
first_ext s t (suc n) u h =
    ap₂ (λ (b : Bool) (x : Option ℕ). cond b (Some u) x) (h u (omega arith) (omega arith)) (first_ext s t n (suc u) (λ b l k. h b (omega arith) (omega arith)))

pub count_ext : (s t : ℕ → Bool) (n u : ℕ) → ((b : ℕ) → u ≤ b → b < u + n → s b ≡ t b) → count_along suc s n u ≡ count_along suc t n u
unfolding count_along
count_ext s t zero u h = refl
count_ext s t (suc n) u h =
    ap₂ (λ (b : Bool) (x : ℕ). cond b 1 0 + x) (h u (omega arith) (omega arith)) (count_ext s t n (suc u) (λ b l k. h b (omega arith) (omega arith)))

-- past the first that passes, the first of the others is the next
pub first_next : (test : ℕ → Bool) (n u p : ℕ) → first_along suc test n u ≡ Some p
    → first_along suc (λ b. test b && not (eqb p b)) n u ≡ first_along suc test (u + n - suc p) (suc p)
unfolding first_along
first_next test zero u p e = true_not_false refl (sym (ap is_some e))
first_next test (suc n) u p e = go (test u) refl e (first_next test n (suc u) p)
  where
    go : (t : Bool) → test u ≡ t → cond t (Some u) (first_along suc test n (suc u)) ≡ Some p
        → (first_along suc test n (suc u) ≡ Some p → first_along suc (λ b. test b && not (eqb p b)) n (suc u) ≡ first_along suc test (suc u + n - suc p) (suc p))
        → cond (t && not (eqb p u)) (Some u) (first_along suc (λ b. test b && not (eqb p b)) n (suc u)) ≡ first_along suc test (u + suc n - suc p) (suc p)
    go true q k later =
        let here : u ≡ p = ap (λ (x : Option ℕ). unwrap_or x u) k in
        let left : n ≡ u + suc n - suc p = omega arith in
        let start : suc u ≡ suc p = omega arith in
        cond_false _ _ (ap not (eq-eqb p u (sym here)))
        ∙ first_ext (λ b. test b && not (eqb p b)) test n (suc u) (λ b l h. others (test b) (eqb p b) (ne_eqb p b (λ (r : p ≡ b). omega arith)))
        ∙ ap₂ (first_along suc test) left start
      where
        others : (a c : Bool) → c ≡ false → (a && not c) ≡ a
        others true c r = ap not r
        others false c r = refl
    go false q k later =
        let left : suc u + n - suc p ≡ u + suc n - suc p = omega arith in
        later k ∙ ap (λ (j : ℕ). first_along suc test j (suc p)) left

-- none of them passes
first_nothing : (test : ℕ → Bool) (n u : ℕ) → ((b : ℕ) → u ≤ b → test b ≡ false) → first_along suc test n u ≡ None
unfolding first_along
first_nothing test zero u h = refl
first_nothing test (suc n) u h = cond_false _ _ (h u (omega arith)) ∙ first_nothing test n (suc u) (λ b l. h b (omega arith))

past_end : (test : ℕ → Bool) (m b : ℕ) → m ≤ b → (ltb b m && test b) ≡ false
past_end test m b h = ap (λ (t : Bool). t && test b) (le-ltb b m h)

before_end : (test : ℕ → Bool) (m b : ℕ) → b < m → (ltb b m && test b) ≡ test b
before_end test m b h = ap (λ (t : Bool). t && test b) (lt-ltb b m h)

-- of the numbers below m alone: as many more may be looked at
pub first_below : (test : ℕ → Bool) (m n k : ℕ) → m ≤ n → first_along suc (λ b. ltb b m && test b) (n - k) k ≡ first_along suc test (m - k) k
unfolding first_along
first_below test m n k h = go (m - k) k refl
  where
    go : (d u : ℕ) → m - u ≡ d → first_along suc (λ b. ltb b m && test b) (n - u) u ≡ first_along suc test d u
    go zero u e = first_nothing (λ b. ltb b m && test b) (n - u) u (λ b l. past_end test m b (omega arith))
    go (suc d) u e =
        let left : n - u ≡ suc (n - suc u) = omega arith in
        ap (λ (j : ℕ). first_along suc (λ b. ltb b m && test b) j u) left
        ∙ ap₂ (λ (b : Bool) (x : Option ℕ). cond b (Some u) x) (before_end test m u (omega arith)) (go d (suc u) (omega arith))

pub count_below : (test : ℕ → Bool) (m n k : ℕ) → m ≤ n → count_along suc (λ b. ltb b m && test b) (n - k) k ≡ count_along suc test (m - k) k
unfolding count_along
count_below test m n k h = go (m - k) k refl
  where
    none : (j u : ℕ) → m ≤ u → count_along suc (λ b. ltb b m && test b) j u ≡ 0
    none zero u l = refl
    none (suc j) u l = ap₂ (λ (b : Bool) (x : ℕ). cond b 1 0 + x) (past_end test m u l) (none j (suc u) (omega arith))

    go : (d u : ℕ) → m - u ≡ d → count_along suc (λ b. ltb b m && test b) (n - u) u ≡ count_along suc test d u
    go zero u e = none (n - u) u (omega arith)
    go (suc d) u e =
        let left : n - u ≡ suc (n - suc u) = omega arith in
        ap (λ (j : ℕ). count_along suc (λ b. ltb b m && test b) j u) left
        ∙ ap₂ (λ (b : Bool) (x : ℕ). cond b 1 0 + x) (before_end test m u (omega arith)) (go d (suc u) (omega arith))
