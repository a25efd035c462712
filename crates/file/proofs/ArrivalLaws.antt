-- Laws of how a block arrived: an error is told once, the read error before the check error; and what may stand with a block. Assumes nothing.
use mathlib.Core.Path.{◌≡◌, refl, sym, ap, ◌∙◌}
use mathlib.Core.Bool.{Bool, true, false, cond, ◌||◌}
use Prim.Native.Nat.{ℕ}
use lib.Dec.{eqb}
use borrow.Author.Tests.{eqb-true, eq-eqb}
use Rattle.area.proofs.Walks.{true_not_false, and_both, and_left, and_right, or_second}
use Rattle.area.proofs.Marks.{cond_true, cond_false}
use Rattle.word.specs.declared.Checked.{Checked}
use Rattle.word.specs.Checks.{unchecked, told_check, is_checked, is_exact}
use Rattle.word.proofs.Laws.Checks.{told_none, told_fits, unchecked_fits, unchecked_is}
use Rattle.file.specs.declared.Arrival.{Arrival}
use Rattle.file.specs.Arrivals.{redundancy_error, incomplete_error, no_arrival, error_due, after_told, is_arrival, is_no_arrival}

abbrev pub arrival : ℕ → Checked → Arrival
arrival n c = record { failed = n; check = c }

-- ---- what is told

-- after the read error the check error is due, and what was found stays
pub told_read : (a : Arrival) → eqb a.failed 0 ≡ false → after_told a ≡ arrival 0 a.check
told_read a e = ap (arrival 0) (cond_false (told_check a.check) a.check e)

-- after the check error nothing is due
pub told_check_lem : (a : Arrival) → eqb a.failed 0 ≡ true → after_told a ≡ arrival 0 (told_check a.check)
told_check_lem a e = ap (arrival 0) (cond_true (told_check a.check) a.check e)

-- where nothing is due, telling changes nothing
pub told_nothing : (a : Arrival) → error_due a ≡ 0 → after_told a ≡ a
told_nothing a h = go (eqb a.failed 0) refl
  where
    go : (b : Bool) → eqb a.failed 0 ≡ b → after_told a ≡ a
    go true e =
        let none : a.check.error ≡ 0 = sym (cond_true a.check.error a.failed e) ∙ h in
        told_check_lem a e ∙ ap (arrival 0) (told_none a.check none) ∙ ap (λ (n : ℕ). arrival n a.check) (sym (eqb-true a.failed 0 e))
    go false e = true_not_false (eq-eqb a.failed 0 (sym (cond_false a.check.error a.failed e) ∙ h)) e

-- both errors told
abbrev pub all_told : Arrival → Arrival
all_told a = arrival 0 (told_check a.check)

-- two gets tell all
pub told_twice : (a : Arrival) → after_told (after_told a) ≡ all_told a
told_twice a = ap (arrival 0) (go (eqb a.failed 0))
  where
    go : (b : Bool) → told_check (cond b (told_check a.check) a.check) ≡ told_check a.check
    go true = refl
    go false = refl

-- where nothing is due, all was told
pub told_all : (a : Arrival) → error_due a ≡ 0 → a ≡ all_told a
told_all a h = sym (told_nothing a h) ∙ ap after_told (sym (told_nothing a h)) ∙ told_twice a

-- ---- what may stand with a block

module _ (sequence check : Bool) where
  pub arrival_checked : (a : Arrival) → is_arrival sequence check a ≡ true → is_checked sequence check a.check ≡ true
  unfolding is_arrival
  arrival_checked a h = and_left (is_checked sequence check a.check) _ h

  -- a block that was read well
  pub well_fits : (c : Checked) → is_checked sequence check c ≡ true → is_arrival sequence check (arrival 0 c) ≡ true
  unfolding is_arrival
  well_fits c h = and_both (is_checked sequence check c) true h refl

  -- a block that was kept after a permanent error, by its number
  pub kept_fits : (n : ℕ) (c : Checked) → (eqb n redundancy_error || eqb n incomplete_error) ≡ true → is_checked sequence check c ≡ true → is_exact sequence check c ≡ true
      → is_arrival sequence check (arrival n c) ≡ true
  unfolding is_arrival
  kept_fits n c k h x =
      and_both (is_checked sequence check c) _ h (or_second (eqb n 0) _ (and_both (eqb n redundancy_error || eqb n incomplete_error) (is_exact sequence check c) k x))

  pub told_arrival_fits : (a : Arrival) → is_arrival sequence check a ≡ true → is_arrival sequence check (after_told a) ≡ true
  told_arrival_fits a h = well_fits (cond (eqb a.failed 0) (told_check a.check) a.check) (go (eqb a.failed 0))
    where
      go : (b : Bool) → is_checked sequence check (cond b (told_check a.check) a.check) ≡ true
      go true = told_fits sequence check a.check (arrival_checked a h)
      go false = arrival_checked a h

  pub no_arrival_fits : is_arrival sequence check no_arrival ≡ true
  no_arrival_fits = well_fits unchecked (unchecked_fits sequence check)

-- ---- all zero

pub no_arrival_is : (a : Arrival) → is_no_arrival a ≡ true → a ≡ no_arrival
no_arrival_is a h =
    ap (λ (n : ℕ). arrival n a.check) (eqb-true a.failed 0 (and_left _ _ h)) ∙ ap (arrival 0) (unchecked_is a.check (and_right (eqb a.failed 0) _ h))
