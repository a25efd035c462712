-- A test of every element of a list together with its number. Assumes nothing.
use Rattle.std.specs.Prelude.{Bool, true, ◌&&◌, List, [], ◌∷◌, ℕ, suc}

-- every element passes the test with its number, the first having number k
unfoldable pub all_from : {A : Type 0} → (ℕ → A → Bool) → ℕ → List A → Bool
all_from test k [] = true
all_from test k (x ∷ xs) = test k x && all_from test (suc k) xs
