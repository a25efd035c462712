-- The faults of a row, case by case, as the check finds them. Assumes nothing.
use mathlib.Core.Path.{◌≡◌, refl}
use mathlib.Core.Bool.{true, false, ◌&&◌, ◌||◌}
use mathlib.Core.List.{List, [], ◌∷◌}
use Prim.Native.Nat.{ℕ, ◌≤◌, ◌<◌}
use native.Mathlib.Omega.{arith}
use borrow.Author.Tests.{ltb-true, leb-true, leb-false, lt-ltb, le-ltb, eq-eqb, ne_eqb}
use lib.Dec.{leb, ltb}
use lib.ListN.{set}
use Rattle.area.specs.Lists.{all_of}
use Rattle.area.proofs.Walks.{by_test, true_not_false, or_left, or_right, or_either, and_left, and_right, and_both}
use Rattle.std.proofs.Common.{Ok, Err}
use Rattle.planner.specs.declared.Fault.TheVariants.{OtherFile, OtherCount, Outside, Twice, Shared}
use Rattle.planner.specs.Events.{file_of, asked}
use Rattle.planner.specs.Rows.{row_count, row_file, row_first, row_second, buffers_of, among, different}
use Rattle.planner.specs.Walk.{is_free, claimed, buffers_fault, row_fault}

-- ---- one buffer

module _ (size : ℕ) (q : List ℕ) (b : ℕ) where
  pub single_outside : size ≤ b → Err Outside ≡ buffers_fault size q (b ∷ [])
  unfolding buffers_fault all_of
  single_outside h = rw (le-ltb b size h)

  pub single_serves : b < size → is_free q b ≡ false → Err Shared ≡ buffers_fault size q (b ∷ [])
  unfolding buffers_fault all_of different among
  single_serves h e = rw (lt-ltb b size h, e)

  pub single_good : b < size → is_free q b ≡ true → Ok tt ≡ buffers_fault size q (b ∷ [])
  unfolding buffers_fault all_of different among
  single_good h e = rw (lt-ltb b size h, e)

-- ---- two buffers

module _ (size : ℕ) (q : List ℕ) (b c : ℕ) where
  pub pair_outside : (leb size b || leb size c) ≡ true → Err Outside ≡ buffers_fault size q (c ∷ b ∷ [])
  unfolding buffers_fault all_of
  pair_outside h =
      by_test (λ t. ltb c size ≡ t → Err Outside ≡ buffers_fault size q (c ∷ b ∷ [])) (ltb c size)
      (λ _ e. rw (e, le-ltb b size (or_either (leb size b) (leb size c) h (leb-true size b) (λ w. absurd (omega (arith, leb-true size c w, in_size e))))))
      (λ _ e. rw e) refl
    where
      in_size : ltb c size ≡ true → c < size
      in_size e = ltb-true c size e

  module _ (h : (leb size b || leb size c) ≡ false) where
    low : b < size
    low = leb-false size b (or_left (leb size b) (leb size c) h)

    high : c < size
    high = leb-false size c (or_right (leb size b) (leb size c) h)

    pub pair_same : c ≡ b → Err Twice ≡ buffers_fault size q (c ∷ b ∷ [])
    unfolding buffers_fault all_of different among
    pair_same e = rw (lt-ltb b size low, lt-ltb c size high, eq-eqb c b e)

    pub pair_serves : (c ≡ b → ⊥) → (is_free q b && is_free q c) ≡ false → Err Shared ≡ buffers_fault size q (c ∷ b ∷ [])
    unfolding buffers_fault all_of different among
    pair_serves ne e =
        by_test (λ t. is_free q c ≡ t → Err Shared ≡ buffers_fault size q (c ∷ b ∷ [])) (is_free q c)
        (λ _ w. let v : is_free q b ≡ false = by_test (λ t. is_free q b ≡ t → is_free q b ≡ false) (is_free q b) (λ _ z. true_not_false (and_both (is_free q b) (is_free q c) z w) e) (λ _ z. z) refl in
        rw (lt-ltb b size low, lt-ltb c size high, ne_eqb c b ne, w, v))
        (λ _ w. rw (lt-ltb b size low, lt-ltb c size high, ne_eqb c b ne, w)) refl

    pub pair_good : (c ≡ b → ⊥) → (is_free q b && is_free q c) ≡ true → Ok tt ≡ buffers_fault size q (c ∷ b ∷ [])
    unfolding buffers_fault all_of different among
    pair_good ne e =
        let v : is_free q b ≡ true = and_left (is_free q b) (is_free q c) e in
        let w : is_free q c ≡ true = and_right (is_free q b) (is_free q c) e in
        rw (lt-ltb b size low, lt-ltb c size high, ne_eqb c b ne, w, v)

-- ---- a row

module _ (size : ℕ) (q : List ℕ) (e row : ℕ) where
  pub row_other : (row_file row ≡ file_of e → ⊥) → Err OtherFile ≡ row_fault size q e row
  unfolding row_fault
  row_other ne = rw (ne_eqb (row_file row) (file_of e) ne)

  module _ (own : row_file row ≡ file_of e) where
    pub row_count_lem : (row_count row ≡ asked e → ⊥) → Err OtherCount ≡ row_fault size q e row
    unfolding row_fault
    row_count_lem ne = rw (eq-eqb (row_file row) (file_of e) own, ne_eqb (row_count row) (asked e) ne)

    pub row_buffers : row_count row ≡ asked e → buffers_fault size q (buffers_of row) ≡ row_fault size q e row
    unfolding row_fault
    row_buffers so = rw (eq-eqb (row_file row) (file_of e) own, eq-eqb (row_count row) (asked e) so)

-- ---- the buffers of a row, by its count

pub one_buffer : (row : ℕ) → row_count row ≡ 1 → buffers_of row ≡ row_first row ∷ []
unfolding buffers_of
one_buffer row e = rw (eq-eqb (row_count row) 1 e)

pub two_buffers : (row : ℕ) → row_count row ≡ 2 → buffers_of row ≡ row_second row ∷ row_first row ∷ []
unfolding buffers_of
two_buffers row e = rw (ne_eqb (row_count row) 1 (λ w. omega arith), eq-eqb (row_count row) 2 e)

pub no_buffers : (row : ℕ) → (row_count row ≡ 1 → ⊥) → (row_count row ≡ 2 → ⊥) → buffers_of row ≡ []
unfolding buffers_of
no_buffers row n1 n2 = rw (ne_eqb (row_count row) 1 n1, ne_eqb (row_count row) 2 n2)

-- an opening asks for one or two
pub asked_two : (e : ℕ) → (asked e ≡ 1 → ⊥) → asked e ≡ 2
asked_two e ne =
    by_test (λ t. ltb e 64 ≡ t → asked e ≡ 2) (ltb e 64)
    (λ _ w. absurd (ne (rw w)))
    (λ _ w. rw w) refl

-- what is claimed
module _ (v : ℕ) (q : List ℕ) (b c : ℕ) where
  pub claimed_one : claimed v (b ∷ []) q ≡ set q b v
  unfolding claimed
  claimed_one = refl

  pub claimed_two : claimed v (c ∷ b ∷ []) q ≡ set (set q b v) c v
  unfolding claimed
  claimed_two = refl

pub claimed_none : (v : ℕ) (q : List ℕ) → claimed v [] q ≡ q
unfolding claimed
claimed_none v q = refl
