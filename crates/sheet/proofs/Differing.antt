-- The first frame whose answer differs. Assumes nothing.
use mathlib.Core.Path.{◌≡◌, refl, sym, ap, ap₂, subst}
use mathlib.Core.Bool.{true, cond}
use mathlib.Core.Option.{Option, some, none-ne-some}
use mathlib.Core.List.{List, [], ◌∷◌}
use Prim.Native.Nat.{ℕ, suc, ◌+◌, ◌≤◌, ◌<◌}
use native.Mathlib.Omega.{arith}
use borrow.Author.Tests.{eqb-true, eq-eqb}
use lib.Dec.{eqb}
use lib.ListN.{length}
use Rattle.area.proofs.Walks.{by_test, and_left, and_right, true_not_false}
use Rattle.sheet.specs.Rows.{most_count, next}
use Rattle.sheet.specs.Sheet.{same_bytes, first_differs, line_at, Differs, agree, differ}
use Rattle.sheet.proofs.Steps.{next_below}

-- ---- two lines

pub same_equal : (a b : List ℕ) → same_bytes a b ≡ true → a ≡ b
unfolding same_bytes
same_equal [] [] e = refl
same_equal [] (y ∷ ys) e = true_not_false e refl
same_equal (x ∷ xs) [] e = true_not_false e refl
same_equal (x ∷ xs) (y ∷ ys) e =
    ap₂ (λ (z : ℕ) (zs : List ℕ). z ∷ zs) (eqb-true x y (and_left (eqb x y) _ e)) (same_equal xs ys (and_right (eqb x y) _ e))

pub same_self : (a : List ℕ) → same_bytes a a ≡ true
unfolding same_bytes
same_self [] = refl
same_self (x ∷ xs) = rw (eq-eqb x x refl, same_self xs)

-- ---- the first difference

next_line : (k : ℕ) (a : List ℕ) (answers recorded : List (List ℕ)) (n : ℕ) → Differs (k + 1) answers recorded n → Differs k (a ∷ answers) (a ∷ recorded) n
unfolding line_at
next_line k a answers recorded n (agree e) = agree (ap (λ (ls : List (List ℕ)). a ∷ ls) e)
next_line k a answers recorded n (differ i t ne) =
    let e : k + suc i ≡ k + 1 + i = omega arith in
    subst (Differs k (a ∷ answers) (a ∷ recorded)) e (differ (suc i) (ap (λ (ls : List (List ℕ)). a ∷ ls) t) ne)

at_once : (k : ℕ) (answers recorded : List (List ℕ)) → (line_at 0 answers ≡ line_at 0 recorded → ⊥) → Differs k answers recorded k
at_once k answers recorded ne =
    let e : k + 0 ≡ k = omega arith in
    subst (Differs k answers recorded) e (differ 0 refl ne)

some_same : (a b : List ℕ) → ◌≡◌ {A = Option (List ℕ)} (some a) (some b) → a ≡ b
some_same a b e = let z : a ≡ b = cc in z

-- "names the first frame whose answer differs": of fewer frames than 64 bits can count
pub first_differs_lem : (answers recorded : List (List ℕ)) (k : ℕ) → k + length answers ≤ most_count → Differs k answers recorded (first_differs k answers recorded)
unfolding first_differs line_at
first_differs_lem [] [] k h = agree refl
first_differs_lem [] (r ∷ rs) k h = at_once k [] (r ∷ rs) (λ e. none-ne-some _ e)
first_differs_lem (a ∷ rest) [] k h = at_once k (a ∷ rest) [] (λ e. none-ne-some _ (sym e))
first_differs_lem (a ∷ rest) (r ∷ rs) k h =
    by_test (λ b. same_bytes a r ≡ b → Differs k (a ∷ rest) (r ∷ rs) (cond b (first_differs (next k) rest rs) k)) (same_bytes a r)
    (λ q e.
    let below : k < most_count = omega arith in
    let step : next k ≡ k + 1 = sym (next_below k below) in
    let more : Differs (k + 1) rest rs (first_differs (k + 1) rest rs) = first_differs_lem rest rs (k + 1) (omega arith) in
    subst (λ (l : List ℕ). Differs k (a ∷ rest) (l ∷ rs) (first_differs (next k) rest rs)) (same_equal a r e)
    (next_line k a rest rs (first_differs (next k) rest rs) (subst (λ (j : ℕ). Differs (k + 1) rest rs (first_differs j rest rs)) (sym step) more)))
    (λ q e.
    at_once k (a ∷ rest) (r ∷ rs)
    (λ z. true_not_false (subst (λ (l : List ℕ). same_bytes a l ≡ true) (some_same a r z) (same_self a)) e))
    refl
