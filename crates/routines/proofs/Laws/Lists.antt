-- Laws of `under` and `descends`: one turn of a walk down the push-down list, and the list after a push and after a pop. Assumes nothing.
use mathlib.Core.Path.{◌≡◌, refl, sym, ap, ◌∙◌}
use mathlib.Core.Bool.{Bool, true, false, ◌&&◌}
use mathlib.Core.List.{List, [], ◌∷◌}
use Prim.Native.Nat.{ℕ, zero, suc, ◌+◌, ◌-◌, ◌≤◌, ◌<◌}
use native.Mathlib.Omega.{arith}
use native.Mathlib.Numerals.{add-one}
use borrow.Author.Tests.{le-ltb, lt-ltb}
use lib.Dec.{ltb}
use lib.ListN.{length, get_or, set}
use lib.Seq.{get_or-set_same, get_or-set_other}
use Rattle.std.specs.List.{list_all}
use Rattle.area.specs.Lists.{all_of}
use Rattle.routines.specs.declared.Program.{Program}
use Rattle.routines.specs.Ranks.{main_program, is_main, under}
use Rattle.routines.specs.Right.{descends}

-- what lies below place n does not change where place n or a higher one does
pub under_set : (xs : List Program) (k : ℕ) (x : Program) (n : ℕ) → n ≤ k → under (set xs k x) n ≡ under xs n
unfolding under
under_set xs k x zero h = refl
under_set xs k x (suc n) h =
    let other : get_or (set xs k x) n main_program ≡ get_or xs n main_program = get_or-set_other xs k n x main_program (λ e. omega arith) in
    let rest : under (set xs k x) n ≡ under xs n = under_set xs k x n (omega arith) in
    rw (other, rest)

-- a push
pub under_push : (xs : List Program) (n : ℕ) (x : Program) → n < length xs → under (set xs n x) (n + 1) ≡ x ∷ under xs n
unfolding under
under_push xs n x h =
    let same : get_or (set xs n x) n main_program ≡ x = get_or-set_same xs n x main_program h in
    let rest : under (set xs n x) n ≡ under xs n = under_set xs n x n (omega arith) in
    rw (add-one, same, rest)

-- the last one pushed, and the rest
pub under_last : (xs : List Program) (n : ℕ) → 0 < n → under xs n ≡ get_or xs (n - 1) main_program ∷ under xs (n - 1)
unfolding under
under_last xs zero h = absurd (omega arith)
under_last xs (suc n) h =
    let p : suc n - 1 ≡ n = omega arith in
    rw p

pub length_under : (xs : List Program) (n : ℕ) → length (under xs n) ≡ n
unfolding under
length_under xs zero = refl
length_under xs (suc n) = ap suc (length_under xs n)

-- ---- a walk down the list: the answer e₀ of the whole is that of what is left below place i

module _ (xs : List Program) (above : Program) (i : ℕ) (e₀ : Bool) where
  pub falls_hit : 0 < i → e₀ ≡ descends above (under xs i) → above.rank ≤ (get_or xs (i - 1) main_program).rank → false ≡ e₀
  unfolding descends
  falls_hit h inv l =
      let less : ltb (get_or xs (i - 1) main_program).rank above.rank ≡ false = le-ltb _ _ l in
      sym (inv ∙ rw (under_last xs i h, less))

  pub falls_miss : 0 < i → e₀ ≡ descends above (under xs i) → (get_or xs (i - 1) main_program).rank < above.rank → e₀ ≡ descends (get_or xs (i - 1) main_program) (under xs (i - 1))
  unfolding descends
  falls_miss h inv l =
      let more : ltb (get_or xs (i - 1) main_program).rank above.rank ≡ true = lt-ltb _ _ l in
      inv ∙ rw (under_last xs i h, more)

  pub falls_done : i ≤ 0 → e₀ ≡ descends above (under xs i) → is_main above ≡ e₀
  unfolding descends under
  falls_done h inv =
      let none : i ≡ 0 = omega arith in
      sym (inv ∙ rw none)

-- ---- what std's `all` returns is what `all_of` says

listed_lem : {A : Type 0} (test : A → Bool) (xs : List A) → list_all test xs ≡ all_of test xs
unfolding all_of
listed_lem test [] = refl
listed_lem test (x ∷ xs) = ap (λ (b : Bool). test x && b) (listed_lem test xs)

pub all_listed : {A : Type 0} (test : A → Bool) (xs : List A) (r : Bool) → r ≡ list_all test xs → r ≡ all_of test xs
all_listed test xs r e = e ∙ listed_lem test xs
