-- The lowest free buffers that an open takes: what `lowest_free` finds is free, in the pool and the lowest; where one or two are free, they are found.
-- Assumes nothing.
use mathlib.Core.Path.{◌≡◌, refl, sym, ap, subst, ◌∙◌}
use mathlib.Core.List.{List}
use Prim.Native.Nat.{ℕ, zero, suc, ◌+◌, ◌-◌, ◌≤◌}
use native.Mathlib.Nat.{sub-zero}
use native.Mathlib.Omega.{arith}
use Rattle.area.specs.Lists.{first_along, count_along}
use Rattle.area.proofs.Marks.{first_counted, first_lowest}
use Rattle.file.specs.declared.File.{File}
use Rattle.pool.specs.Free.{buffer_limit, is_free, lowest_free, Lowest, free_count, lowest_number}
use Rattle.std.specs.declared.option.Option.{Option}
use Rattle.std.specs.declared.option.Option.TheVariants.{Some}
use Rattle.std.specs.Option.{unwrap_or}

pub found_lowest : (m : ℕ) (fs : List File) (k b : ℕ) → lowest_free m fs k ≡ Some b → Lowest m fs k b
unfolding lowest_free
found_lowest m fs k b e =
    let L = first_lowest (is_free fs) (m - k) k b e in
    record { from = L.0; below = omega (arith, L.0, L.1); free = L.2; lower = L.3 }

-- where a buffer is free, the lowest is found
pub record One (m : ℕ) (fs : List File) : Type 0 where
  pub low : ℕ
  pub found : lowest_free m fs 0 ≡ Some low

pub one_free : (m : ℕ) (fs : List File) (c : ℕ) → free_count m fs ≡ suc c → One m fs
unfolding free_count lowest_free
one_free m fs c e =
    let C = first_counted (is_free fs) m 0 c e in
    record { low = C.place; found = ap (λ (n : ℕ). first_along suc (is_free fs) n 0) (sub-zero m) ∙ C.found }

-- where two are free, the two lowest are found, one after the other
pub record Two (m : ℕ) (fs : List File) : Type 0 where
  pub low : ℕ
  pub high : ℕ
  pub found_low : lowest_free m fs 0 ≡ Some low
  pub found_high : lowest_free m fs (suc low) ≡ Some high

pub two_free : (m : ℕ) (fs : List File) (c : ℕ) → free_count m fs ≡ suc (suc c) → Two m fs
unfolding free_count lowest_free
two_free m fs c e =
    let C = first_counted (is_free fs) m 0 (suc c) e in
    let left : 0 + m - suc C.place ≡ m - suc C.place = omega arith in
    let D = first_counted (is_free fs) (m - suc C.place) (suc C.place) c (sym (ap (λ (n : ℕ). count_along suc (is_free fs) n (suc C.place)) left) ∙ C.rest) in
    record {
      low = C.place;
      high = D.place;
      found_low = ap (λ (n : ℕ). first_along suc (is_free fs) n 0) (sub-zero m) ∙ C.found;
      found_high = D.found;
    }

-- ---- the numbers that an open takes

module _ (m : ℕ) (fs : List File) where
  number_lowest : (k b : ℕ) → lowest_free m fs k ≡ Some b → Lowest m fs k (lowest_number m fs k)
  number_lowest k b e = subst (Lowest m fs k) (sym (ap (λ (x : Option ℕ). unwrap_or x buffer_limit) e)) (found_lowest m fs k b e)

  pub first_free_lem : 1 ≤ free_count m fs → Lowest m fs 0 (lowest_number m fs 0)
  first_free_lem h = go (free_count m fs) refl
    where
      go : (n : ℕ) → free_count m fs ≡ n → Lowest m fs 0 (lowest_number m fs 0)
      go zero e = absurd (omega (arith, h, e))
      go (suc c) e = let one = one_free m fs c e in number_lowest 0 one.low one.found

  pub second_free : 2 ≤ free_count m fs → Lowest m fs (lowest_number m fs 0 + 1) (lowest_number m fs (lowest_number m fs 0 + 1))
  second_free h = go (free_count m fs) refl
    where
      go : (n : ℕ) → free_count m fs ≡ n → Lowest m fs (lowest_number m fs 0 + 1) (lowest_number m fs (lowest_number m fs 0 + 1))
      go zero e = absurd (omega (arith, h, e))
      go (suc zero) e = absurd (omega (arith, h, e))
      go (suc (suc c)) e =
          let two = two_free m fs c e in
          let next : suc two.low ≡ lowest_number m fs 0 + 1 = (let low : lowest_number m fs 0 ≡ two.low = ap (λ (x : Option ℕ). unwrap_or x buffer_limit) two.found_low in omega (arith, low)) in
          subst (λ (k : ℕ). Lowest m fs k (lowest_number m fs k)) next (number_lowest (suc two.low) two.high two.found_high)
