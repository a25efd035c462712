-- Laws of `first_along`, `count_along` and `along`, over the way from one number to the next. Assumes nothing.
use mathlib.Core.Path.{◌≡◌, refl, sym, ap, ◌∙◌}
use mathlib.Core.Bool.{Bool, true, false, cond}
use Prim.Native.Nat.{ℕ, zero, suc, ◌+◌, ◌-◌, ◌<◌}
use native.Mathlib.Nat.{le_of_suc-le-suc}
use native.Mathlib.Decide.{dec_lt}
use native.Mathlib.Omega.{arith}
use Rattle.area.specs.Lists.{first_along, count_along, along}
use Rattle.area.proofs.Walks.{by_test, true_not_false}
use Rattle.std.specs.declared.option.Option.TheVariants.{Some, None}

module _ (next : ℕ → ℕ) (test : ℕ → Bool) where
  -- ---- one turn of a loop that has n numbers left, and its end

  pub first_stop : (n u : ℕ) → 0 < n → test u ≡ true → first_along next test n u ≡ Some u
  unfolding first_along
  first_stop zero u h e = absurd (omega arith)
  first_stop (suc n) u h e = rw e

  pub first_go : (n u : ℕ) → 0 < n → test u ≡ false → first_along next test n u ≡ first_along next test (n - 1) (next u)
  unfolding first_along
  first_go zero u h e = absurd (omega arith)
  first_go (suc n) u h e =
      let p : n ≡ suc n - 1 = omega arith in
      rw e (ap (λ (k : ℕ). first_along next test k (next u)) p)

  pub first_none : (u : ℕ) → first_along next test 0 u ≡ None
  unfolding first_along
  first_none u = refl

  pub count_stop : (n u : ℕ) → 0 < n → test u ≡ true → count_along next test n u ≡ 1 + count_along next test (n - 1) (next u)
  unfolding count_along
  count_stop zero u h e = absurd (omega arith)
  count_stop (suc n) u h e =
      let p : n ≡ suc n - 1 = omega arith in
      rw e (ap (λ (k : ℕ). 1 + count_along next test k (next u)) p)

  pub count_go : (n u : ℕ) → 0 < n → test u ≡ false → count_along next test n u ≡ count_along next test (n - 1) (next u)
  unfolding count_along
  count_go zero u h e = absurd (omega arith)
  count_go (suc n) u h e =
      let p : 0 + count_along next test n (next u) ≡ count_along next test (suc n - 1) (next u) =
      (let q : n ≡ suc n - 1 = omega arith in ap (λ (k : ℕ). 0 + count_along next test k (next u)) q ∙ omega arith) in
      rw e p

  pub count_none : (u : ℕ) → count_along next test 0 u ≡ 0
  unfolding count_along
  count_none u = refl

-- ---- the plain statement: p is the first on the way from u, of n numbers, that passes

-- p stands j steps from u, passes, and nothing before it on the way does
pub record First (next : ℕ → ℕ) (test : ℕ → Bool) (n u p : ℕ) : Type 0 where
  pub steps : ℕ
  pub among : steps < n
  pub reached : along next steps u ≡ p
  pub passes : test p ≡ true
  pub before : (i : ℕ) → i < steps → test (along next i u) ≡ false

module _ (next : ℕ → ℕ) (test : ℕ → Bool) where
  -- one number more in front, that does not pass
  first_later : {n u p : ℕ} → test u ≡ false → First next test n (next u) p → First next test (suc n) u p
  unfolding along
  first_later {n} {u} {p} w f = record {
    steps = suc f.steps;
    among = omega (arith, f.among);
    reached = f.reached;
    passes = f.passes;
    before = passed;
  }
    where
      passed : (i : ℕ) → i < suc f.steps → test (along next i u) ≡ false
      passed zero h = w
      passed (suc i) h = f.before i (le_of_suc-le-suc h)

  -- what is found is the first
  pub first_finds : (n u p : ℕ) → first_along next test n u ≡ Some p → First next test n u p
  unfolding first_along along
  first_finds zero u p e = absurd (let z : ◌≡◌ {A = ℕ} 0 1 = cc in omega arith)
  first_finds (suc n) u p e =
      by_test (λ b. cond b (Some u) (first_along next test n (next u)) ≡ Some p → test u ≡ b → First next test (suc n) u p) (test u)
      (λ t q w.
      let same : u ≡ p = cc in
      record { steps = 0; among = omega arith; reached = same; passes = ap test (sym same) ∙ w; before = λ i h. absurd (omega arith) })
      (λ t q w. first_later w (first_finds n (next u) p q)) e refl

  -- where nothing is found, none of them passes
  pub first_misses : (n u : ℕ) → first_along next test n u ≡ None → (i : ℕ) → i < n → test (along next i u) ≡ false
  unfolding first_along along
  first_misses zero u e i h = absurd (omega arith)
  first_misses (suc n) u e zero h =
      by_test (λ b. cond b (Some u) (first_along next test n (next u)) ≡ None → b ≡ false) (test u)
      (λ t q. absurd (let z : ◌≡◌ {A = ℕ} 0 1 = cc in omega arith)) (λ t q. refl) e
  first_misses (suc n) u e (suc i) h =
      by_test (λ b. cond b (Some u) (first_along next test n (next u)) ≡ None → test (along next i (next u)) ≡ false) (test u)
      (λ t q. absurd (let z : ◌≡◌ {A = ℕ} 0 1 = cc in omega arith)) (λ t q. first_misses n (next u) q i (le_of_suc-le-suc h)) e

  -- two numbers that are each the first are one number
  pub first_unique : {n u p q : ℕ} → First next test n u p → First next test n u q → p ≡ q
  first_unique {n} {u} {p} {q} f g = compare (dec_lt f.steps g.steps) (dec_lt g.steps f.steps)
    where
      compare : Dec (f.steps < g.steps) → Dec (g.steps < f.steps) → p ≡ q
      compare (yes h) k = true_not_false f.passes (ap test (sym f.reached) ∙ g.before f.steps h)
      compare (no h) (yes k) = true_not_false g.passes (ap test (sym g.reached) ∙ f.before g.steps k)
      compare (no h) (no k) =
          let same : f.steps ≡ g.steps = omega (arith, h, k) in
          sym f.reached ∙ ap (λ (j : ℕ). along next j u) same ∙ g.reached
