-- Laws of the numbers that a record is judged by. Assumes nothing.
use mathlib.Core.Path.{◌≡◌, refl, sym, ap, ◌∙◌}
use mathlib.Core.Bool.{Bool, true, false, cond}
use mathlib.Core.List.{[], ◌∷◌}
use Prim.Native.Nat.{ℕ, ◌%◌, ◌≤◌, ◌<◌}
use lib.Dec.{eqb}
use native.Mathlib.Decide.{dec_lt}
use native.Mathlib.Omega.{arith}
use borrow.Author.Tests.{eqb-true, eq-eqb, ne_eqb, lt-ltb, le-ltb, lt-leb, le-leb}
use Rattle.std.specs.Prelude.{Option, None, Some}
use Rattle.std.proofs.lemmas.Option.{none-some, same_Some}
use Rattle.area.proofs.Walks.{by_test, true_not_false}
use Rattle.tape.specs.Lengths.{record_size}
use Rattle.tape.specs.Faults.{most_bytes, highest, fault_of}

-- ---- a number that 0 stands for none of

abbrev pub given : ℕ → Option ℕ
given k = cond (eqb k 0) None (Some k)

pub given_some : (f k : ℕ) → Some k ≡ given f → (k ≡ f) × (f ≡ 0 → ⊥)
given_some f k e = go (eqb f 0) refl e
  where
    go : (b : Bool) → eqb f 0 ≡ b → Some k ≡ cond b None (Some f) → (k ≡ f) × (f ≡ 0 → ⊥)
    go true p q = absurd (none-some k (sym q))
    go false p q = (same_Some k f q, λ z. true_not_false (eq-eqb f 0 z) p)

pub given_none : (f : ℕ) → None ≡ given f → f ≡ 0
given_none f e = go (eqb f 0) refl e
  where
    go : (b : Bool) → eqb f 0 ≡ b → None ≡ cond b None (Some f) → f ≡ 0
    go true p q = eqb-true f 0 p
    go false p q = absurd (none-some f q)

-- ---- the highest of the four rows

pub top_over : (a b c : Bool) → highest ((20, a) ∷ (21, b) ∷ (22, c) ∷ (23, true) ∷ []) ≡ 23
unfolding highest
top_over true true true = refl
top_over true true false = refl
top_over true false true = refl
top_over true false false = refl
top_over false true true = refl
top_over false true false = refl
top_over false false true = refl
top_over false false false = refl

pub top_six : (a b : Bool) → highest ((20, a) ∷ (21, b) ∷ (22, true) ∷ (23, false) ∷ []) ≡ 22
unfolding highest
top_six true true = refl
top_six true false = refl
top_six false true = refl
top_six false false = refl

pub top_cut : (a : Bool) → highest ((20, a) ∷ (21, true) ∷ (22, false) ∷ (23, false) ∷ []) ≡ 21
unfolding highest
top_cut true = refl
top_cut false = refl

pub top_last : (a : Bool) → highest ((20, a) ∷ (21, false) ∷ (22, false) ∷ (23, false) ∷ []) ≡ cond a 20 0
unfolding highest
top_last true = refl
top_last false = refl

-- ---- the fault of a record, case by case

module _ (left n : ℕ) (differ : Bool) where
  -- fewer bytes than a length has
  pub fault_short : left < 4 → fault_of left n differ ≡ 21
  unfolding fault_of
  fault_short h =
      let k : left < record_size n = omega arith in
      rw (lt-leb 4 left h, lt-ltb left (record_size n) k) (top_cut differ)

  pub fault_over : 4 ≤ left → most_bytes < n → fault_of left n differ ≡ 23
  unfolding fault_of
  fault_over h k = rw (le-leb 4 left h, lt-ltb most_bytes n k) (top_over _ _ _)

  pub fault_six : 4 ≤ left → n ≤ most_bytes → (n % 6 ≡ 0 → ⊥) → fault_of left n differ ≡ 22
  unfolding fault_of
  fault_six h k l = rw (le-leb 4 left h, le-ltb most_bytes n k, ne_eqb (n % 6) 0 l) (top_six _ _)

  pub fault_cut : 4 ≤ left → n ≤ most_bytes → n % 6 ≡ 0 → left < record_size n → fault_of left n differ ≡ 21
  unfolding fault_of
  fault_cut h k l m = rw (le-leb 4 left h, le-ltb most_bytes n k, eq-eqb (n % 6) 0 l, lt-ltb left (record_size n) m) (top_cut _)

  pub fault_last : n ≤ most_bytes → n % 6 ≡ 0 → record_size n ≤ left → fault_of left n differ ≡ cond differ 20 0
  unfolding fault_of
  fault_last k l m =
      let h : 4 ≤ left = omega arith in
      rw (le-leb 4 left h, le-ltb most_bytes n k, eq-eqb (n % 6) 0 l, le-ltb left (record_size n) m) (top_last _)

  pub fault_differ : n ≤ most_bytes → n % 6 ≡ 0 → record_size n ≤ left → differ ≡ true → fault_of left n differ ≡ 20
  fault_differ k l m e = fault_last k l m ∙ ap (λ (b : Bool). cond b 20 0) e

  pub fault_none : n ≤ most_bytes → n % 6 ≡ 0 → record_size n ≤ left → differ ≡ false → fault_of left n differ ≡ 0
  fault_none k l m e = fault_last k l m ∙ ap (λ (b : Bool). cond b 20 0) e

  -- a record without a fault is whole, and a block of words
  pub record Sound : Type 0 where
    pub most : n ≤ most_bytes
    pub sixes : n % 6 ≡ 0
    pub whole : record_size n ≤ left
    pub same : differ ≡ false

  zero_most : 4 ≤ left → fault_of left n differ ≡ 0 → n ≤ most_bytes
  zero_most h z = go (dec_lt most_bytes n)
    where
      go : Dec (most_bytes < n) → n ≤ most_bytes
      go (yes l) = absurd (omega (arith, fault_over h l, z))
      go (no l) = omega (arith, l)

  zero_sixes : 4 ≤ left → n ≤ most_bytes → fault_of left n differ ≡ 0 → n % 6 ≡ 0
  zero_sixes h k z = go (dec_lt 0 (n % 6))
    where
      go : Dec (0 < n % 6) → n % 6 ≡ 0
      go (yes l) = absurd (let e : fault_of left n differ ≡ 22 = fault_six h k (λ q. omega arith) in omega (arith, z))
      go (no l) = omega (arith, l)

  zero_whole : 4 ≤ left → n ≤ most_bytes → n % 6 ≡ 0 → fault_of left n differ ≡ 0 → record_size n ≤ left
  zero_whole h k s z = go (dec_lt left (record_size n))
    where
      go : Dec (left < record_size n) → record_size n ≤ left
      go (yes l) = absurd (omega (arith, fault_cut h k s l, z))
      go (no l) = omega (arith, l)

  zero_same : n ≤ most_bytes → n % 6 ≡ 0 → record_size n ≤ left → fault_of left n differ ≡ 0 → differ ≡ false
  zero_same k s w z =
      by_test (λ t. differ ≡ t → t ≡ false) differ (λ t e. absurd (omega (arith, fault_differ k s w e, z))) (λ t e. refl) refl

  -- fewer bytes than a length has are a fault
  zero_length : fault_of left n differ ≡ 0 → 4 ≤ left
  zero_length z = go (dec_lt left 4)
    where
      go : Dec (left < 4) → 4 ≤ left
      go (yes l) = absurd (omega (arith, fault_short l, z))
      go (no l) = omega (arith, l)

  pub fault_zero : fault_of left n differ ≡ 0 → Sound
  fault_zero z =
      let h = zero_length z in
      let k = zero_most h z in
      let s = zero_sixes h k z in
      let w = zero_whole h k s z in
      record { most = k; sixes = s; whole = w; same = zero_same k s w z }
