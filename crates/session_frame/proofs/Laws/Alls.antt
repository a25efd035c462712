-- A test of every character, without a branch. Assumes nothing.
use mathlib.Core.Path.{◌≡◌, refl, sym, ◌∙◌}
use mathlib.Core.Bool.{Bool, true, false, ◌&&◌}
use mathlib.Core.List.{List}
use Prim.Native.Nat.{ℕ, ◌+◌, ◌≤◌, ◌<◌}
use native.Mathlib.Numerals.{add-one}
use lib.ListN.{length, get_or, drop, drop_of_length-le}
use lib.Seq.{drop-cons}
use Rattle.area.specs.Lists.{all_of}

-- ---- a walk that keeps what it found so far

and_all : (a b c : Bool) → (a && (b && c)) ≡ ((a && b) && c)
and_all true b c = refl
and_all false b c = refl

and_none : (a : Bool) → (a && true) ≡ a
and_none true = refl
and_none false = refl

module _ (test : ℕ → Bool) (xs : List ℕ) (i : ℕ) (w so : Bool) where
  pub so_far : i < length xs → w ≡ (so && all_of test (drop i xs)) → w ≡ ((so && test (get_or xs i 0)) && all_of test (drop (i + 1) xs))
  unfolding all_of
  so_far h inv =
      let e : (so && all_of test (drop i xs)) ≡ (so && (test (get_or xs i 0) && all_of test (drop (i + 1) xs))) = rw (add-one, drop-cons xs i 0) in
      inv ∙ e ∙ and_all so (test (get_or xs i 0)) (all_of test (drop (i + 1) xs))

  pub so_all : length xs ≤ i → w ≡ (so && all_of test (drop i xs)) → so ≡ w
  unfolding all_of
  so_all h inv = let e : (so && all_of test (drop i xs)) ≡ (so && true) = rw (drop_of_length-le xs h) in sym (inv ∙ e ∙ and_none so)
