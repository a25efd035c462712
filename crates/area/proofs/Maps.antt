-- A loop that replaces each element x of a list by f x: what is done and what is left give the whole. Assumes nothing.
use mathlib.Core.Path.{◌≡◌, refl, sym, ap, ap₂, ◌∙◌}
use mathlib.Core.List.{List, [], ◌∷◌, ◌++◌, map, append_assoc, append-nil}
use Prim.Native.Nat.{ℕ, suc, ◌+◌, ◌≤◌, ◌<◌}
use native.Mathlib.Numerals.{add-one}
use native.Mathlib.Omega.{arith}
use lib.ListN.{length, get_or, take, drop, set, drop_of_length-le}
use lib.Seq.{drop-cons, drop-set-lt, take-suc-set, take_all}

module _ {A : Type 0} (f : A → A) (whole xs : List A) (i : ℕ) where
  pub map_step : (d : A) → i < length xs → whole ≡ take i xs ++ map f (drop i xs)
      → whole ≡ take (i + 1) (set xs i (f (get_or xs i d))) ++ map f (drop (i + 1) (set xs i (f (get_or xs i d))))
  map_step d h inv =
      let left : drop i xs ≡ get_or xs i d ∷ drop (suc i) xs = drop-cons xs i d h in
      let more : take (suc i) (set xs i (f (get_or xs i d))) ≡ take i xs ++ (f (get_or xs i d) ∷ []) = take-suc-set xs i (f (get_or xs i d)) h in
      let rest : drop (suc i) (set xs i (f (get_or xs i d))) ≡ drop (suc i) xs = drop-set-lt (suc i) xs i (f (get_or xs i d)) (omega arith) in
      rw (add-one, more, rest, append_assoc) (inv ∙ ap (λ (ys : List A). take i xs ++ map f ys) left)

  pub map_done : length xs ≤ i → whole ≡ take i xs ++ map f (drop i xs) → xs ≡ whole
  map_done h inv =
      let none : drop i xs ≡ [] = drop_of_length-le xs h in
      sym (take_all i xs h) ∙ (sym (append-nil (take i xs)) ∙ sym (inv ∙ ap (λ (ys : List A). take i xs ++ map f ys) none))

-- to do twice what is done once is to do it once
pub map_twice : {A : Type 0} (f : A → A) → ((x : A) → f (f x) ≡ f x) → (xs : List A) → map f (map f xs) ≡ map f xs
map_twice f each [] = refl
map_twice f each (x ∷ xs) = ap₂ ◌∷◌ (each x) (map_twice f each xs)
