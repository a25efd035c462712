-- Sums over the numbers below n, compared term by term. Assumes nothing.
use mathlib.Core.Path.{◌≡◌, refl}
use mathlib.Core.Logic.{◌≢◌}
use mathlib.Core.Bool.{Bool, cond}
use mathlib.Core.List.{List, [], ◌∷◌}
use Prim.Native.Nat.{ℕ, zero, suc, ◌+◌, ◌*◌, ◌≤◌, ◌<◌}
use native.Mathlib.Nat.{not-suc-le-zero}
use native.Mathlib.Decide.{ℕ_discrete}
use native.Mathlib.Omega.{arith}
use lib.ListN.{length, get_or}
use Rattle.area.specs.Lists.{count_of}

-- f 0 + f 1 + .. + f (n - 1)
unfoldable pub sum : ℕ → (ℕ → ℕ) → ℕ
sum zero f = 0
sum (suc n) f = sum n f + f n

-- no term is greater, so the sum is not
pub sum_le : (n : ℕ) (f g : ℕ → ℕ) → ((x : ℕ) → x < n → f x ≤ g x) → sum n f ≤ sum n g
unfolding sum
sum_le zero f g h = omega arith
sum_le (suc n) f g h =
    let a = sum_le n f g (λ x l. h x (omega arith)) in
    let b = h n (omega arith) in
    omega arith

-- one term may differ: if a more than its old self is at most b more, so is the sum
pub sum_at : (n : ℕ) (f g : ℕ → ℕ) (j a b : ℕ) → j < n → ((x : ℕ) → x ≢ j → f x ≤ g x) → f j + a ≤ g j + b → sum n f + a ≤ sum n g + b
unfolding sum
sum_at zero f g j a b l h e = absurd (not-suc-le-zero l)
sum_at (suc n) f g j a b l h e = go (λ k. sum_at n f g j a b k h e) (ℕ_discrete n j)
  where
    go : (j < n → sum n f + a ≤ sum n g + b) → Dec (n ≡ j) → sum n f + f n + a ≤ sum n g + g n + b
    go ih (yes p) =
        let s = sum_le n f g (λ x k. h x (omega arith)) in
        let here : f n + a ≤ g n + b = rw p e in
        omega arith
    go ih (no p) =
        let s = ih (omega arith) in
        let k = h n p in
        omega arith

-- a common factor, and a sum of two
pub sum_mul : (n k : ℕ) (f g : ℕ → ℕ) → sum n (λ x. k * (f x + g x)) ≡ k * (sum n f + sum n g)
unfolding sum
sum_mul zero k f g = omega arith
sum_mul (suc n) k f g = let a = sum_mul n k f g in omega arith

pub sum_times : (n k : ℕ) (f : ℕ → ℕ) → sum n (λ x. k * f x) ≡ k * sum n f
unfolding sum
sum_times zero k f = omega arith
sum_times (suc n) k f = let a = sum_times n k f in omega arith

-- a term is at most the sum
pub sum_term : (n : ℕ) (f : ℕ → ℕ) (j : ℕ) → j < n → f j ≤ sum n f
unfolding sum
sum_term zero f j l = absurd (not-suc-le-zero l)
sum_term (suc n) f j l = go (λ k. sum_term n f j k) (ℕ_discrete n j)
  where
    go : (j < n → f j ≤ sum n f) → Dec (n ≡ j) → f j ≤ sum n f + f n
    go ih (yes p) = rw (← p) (omega arith)
    go ih (no p) = let a = ih (omega arith) in omega arith

-- the first term, and the rest
sum_front : (n : ℕ) (f : ℕ → ℕ) → sum (suc n) f ≡ f 0 + sum n (λ x. f (suc x))
unfolding sum
sum_front zero f = omega arith
sum_front (suc n) f = let a = sum_front n f in omega arith

-- a count is a sum of ones
pub count_sum : {A : Type 0} (test : A → Bool) (d : A) (xs : List A) → count_of test xs ≡ sum (length xs) (λ i. cond (test (get_or xs i d)) 1 0)
unfolding count_of sum
count_sum test d [] = refl
count_sum test d (x ∷ xs) =
    let a = sum_front (length xs) (λ i. cond (test (get_or (x ∷ xs) i d)) 1 0) in
    let b = count_sum test d xs in
    omega arith
