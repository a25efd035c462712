-- What can be asked of a list or of a run of numbers, one after the other. Assumes nothing.
use Rattle.std.specs.Prelude.{Bool, true, false, cond, ◌&&◌, ◌||◌, List, [], ◌∷◌, ℕ, zero, suc, ◌+◌, Option, Some, None}

-- some element passes the test
unfoldable pub any_of : {A : Type 0} → (A → Bool) → List A → Bool
any_of test [] = false
any_of test (x ∷ xs) = test x || any_of test xs

-- every element passes the test
unfoldable pub all_of : {A : Type 0} → (A → Bool) → List A → Bool
all_of test [] = true
all_of test (x ∷ xs) = test x && all_of test xs

-- every two elements pass the test, the earlier one first
unfoldable pub all_pairs : {A : Type 0} → (A → A → Bool) → List A → Bool
all_pairs test [] = true
all_pairs test (x ∷ xs) = all_of (test x) xs && all_pairs test xs

-- how many elements pass the test
unfoldable pub count_of : {A : Type 0} → (A → Bool) → List A → ℕ
count_of test [] = 0
count_of test (x ∷ xs) = cond (test x) 1 0 + count_of test xs

-- the first that passes the test, of n numbers: u, the one that `next` gives after u, and so on
unfoldable pub first_along : (ℕ → ℕ) → (ℕ → Bool) → ℕ → ℕ → Option ℕ
first_along next test zero u = None
first_along next test (suc n) u = cond (test u) (Some u) (first_along next test n (next u))

-- how many of those numbers pass the test
unfoldable pub count_along : (ℕ → ℕ) → (ℕ → Bool) → ℕ → ℕ → ℕ
count_along next test zero u = 0
count_along next test (suc n) u = cond (test u) 1 0 + count_along next test n (next u)

-- the number that `next` gives j times after u
unfoldable pub along : (ℕ → ℕ) → ℕ → ℕ → ℕ
along next zero u = u
along next (suc j) u = along next j (next u)

-- a truth as a number, for counts
abbrev pub one_if : Bool → ℕ
one_if b = cond b 1 0
