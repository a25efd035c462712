-- What a check finds: its error is the comparison of its chosen fields, and it may stand with its block; so may what was told of it, and nothing. Assumes nothing.
use Rattle.std.proofs.Common.{◌≡◌, ℕ, ◌+◌, ◌/◌, ◌^◌, ◌<◌, ◌≤◌, Bool, true, false, cond, ◌&&◌, ◌||◌, eqb, sym, refl, ap, mod-lt, arith, pow_pos, lt-ltb, eq-eqb, eqb-true}
use Rattle.area.proofs.Walks.{by_test, and_both, and_left, and_right, or_second, or_either}
use Rattle.word.specs.declared.Checked.{Checked}
use Rattle.word.specs.Sums.{first_half, folded}
use Rattle.word.specs.CheckWords.{address, chosen}
use Rattle.word.proofs.Laws.CheckWord.{folded_lt, address_lt}
use Rattle.word.specs.Checks.{error_of, error_in, check_of, unchecked, told_check, fields_fit, is_checked, is_exact, is_unchecked}

-- the error is exactly the comparison of the chosen fields
pub check_compares : (sequence check : Bool) (sum number word : ℕ)
    → (check_of sequence check sum number word).error ≡ error_in sequence check (check_of sequence check sum number word)
unfolding check_of
check_compares sequence check sum number word = refl

pub check_exact : (sequence check : Bool) (sum number word : ℕ) → is_exact sequence check (check_of sequence check sum number word) ≡ true
check_exact sequence check sum number word = eq-eqb _ _ (check_compares sequence check sum number word)

first_lt : (w : ℕ) → first_half w < 2 ^ 18
unfolding first_half
first_lt w = mod-lt (w / 2 ^ 18) (pow_pos 18)

first_zero : first_half 0 ≡ 0
unfolding first_half
first_zero = refl

address_zero : address 0 ≡ 0
unfolding address
address_zero = refl

chosen_le : (choice : Bool) (n b : ℕ) → n ≤ b → chosen choice n ≤ b
chosen_le true n b h = h
chosen_le false n b h = omega arith

unlike_le : (b : Bool) (n : ℕ) → cond b 0 n ≤ n
unlike_le true n = omega arith
unlike_le false n = omega arith

pub error_le : (sequence check : Bool) (sum number sumread numberread : ℕ) → error_of sequence check sum number sumread numberread ≤ 3
unfolding error_of
error_le sequence check sum number sumread numberread =
    let a = chosen_le sequence (cond (eqb numberread number) 0 1) 1 (unlike_le (eqb numberread number) 1) in
    let b = chosen_le check (cond (eqb sumread sum) 0 2) 2 (unlike_le (eqb sumread sum) 2) in
    omega (arith, a, b)

-- ---- what may stand with a block

module _ (sequence check : Bool) where
  -- what a check finds, by a number in its range; without a check word nothing is read
  pub check_fits : (sum number word : ℕ) → number < 2 ^ 15 → ((sequence || check) ≡ false → word ≡ 0)
      → is_checked sequence check (check_of sequence check sum number word) ≡ true
  unfolding is_checked check_of
  check_fits sum number word hn none =
      and_both _ _
      (and_both _ _ (and_both _ _ (lt-ltb _ _ (folded_lt sum)) (lt-ltb _ _ hn))
      (and_both _ _ (and_both _ _ (lt-ltb _ _ (first_lt word)) (lt-ltb _ _ (address_lt word)))
      (by_test (λ b. ((sequence || check) ≡ b) → (b || (eqb (first_half word) 0 && eqb (address word) 0)) ≡ true) (sequence || check)
      (λ t e. refl) (λ f e. rw (none e, first_zero, address_zero)) refl)))
      (let error : ℕ = error_of sequence check (folded sum) number (first_half word) (address word) in or_second (eqb error 0) (eqb error error) (eq-eqb error error refl))

  pub told_fits : (c : Checked) → is_checked sequence check c ≡ true → is_checked sequence check (told_check c) ≡ true
  unfolding is_checked
  told_fits c h =
      and_both (fields_fit sequence check c) true (and_left (fields_fit sequence check c) (eqb c.error 0 || eqb c.error (error_in sequence check c)) h) refl

  pub unchecked_fits : is_checked sequence check unchecked ≡ true
  unfolding is_checked
  unchecked_fits = and_both _ _ (and_both _ _ refl (and_both _ _ refl (or_second (sequence || check) true refl))) refl

  -- where nothing was found there is nothing to tell
  pub unchecked_exact : is_exact sequence check unchecked ≡ true
  unfolding error_of
  unchecked_exact = go sequence check
    where
      go : (s c : Bool) → eqb 0 (chosen s 0 + chosen c 0) ≡ true
      go true true = refl
      go true false = refl
      go false true = refl
      go false false = refl

  -- an error that was not told is the comparison of the chosen fields
  pub checked_error : (c : Checked) → is_checked sequence check c ≡ true → (c.error ≡ 0 → ⊥) → c.error ≡ error_in sequence check c
  unfolding is_checked
  checked_error c h some = or_either _ _ (and_right (fields_fit sequence check c) _ h) (λ e. absurd (some (eqb-true _ _ e))) (λ e. eqb-true _ _ e)

  pub checked_le : (c : Checked) → is_checked sequence check c ≡ true → c.error ≤ 3
  unfolding is_checked
  checked_le c h =
      or_either _ _ (and_right (fields_fit sequence check c) _ h)
      (λ e. let z : c.error ≡ 0 = eqb-true _ _ e in omega (arith, z))
      (λ e. let z : c.error ≡ error_in sequence check c = eqb-true _ _ e in omega (arith, z, error_le sequence check c.sum c.number c.sumread c.numberread))

-- ---- all zero

pub unchecked_is : (c : Checked) → is_unchecked c ≡ true → c ≡ unchecked
unchecked_is c h =
    let rest = and_right (eqb c.error 0) _ h in
    let due = and_left (eqb c.sum 0 && eqb c.number 0) _ rest in
    let read = and_right (eqb c.sum 0 && eqb c.number 0) _ rest in
    rw (
      eqb-true c.error 0 (and_left _ _ h),
      eqb-true c.sum 0 (and_left _ _ due),
      eqb-true c.number 0 (and_right (eqb c.sum 0) _ due),
      eqb-true c.sumread 0 (and_left _ _ read),
      eqb-true c.numberread 0 (and_right (eqb c.sumread 0) _ read),
    )

-- what has no error to be told stands as it is
pub told_none : (c : Checked) → c.error ≡ 0 → told_check c ≡ c
told_none c h = ap (λ (e : ℕ). record { error = e; sum = c.sum; number = c.number; sumread = c.sumread; numberread = c.numberread }) (sym h)
