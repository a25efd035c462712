-- Laws of `highest`: it is the main program or a routine that waits; none that waits comes before it; and it is the only one so. Assumes nothing.
use mathlib.Core.Path.{◌≡◌, refl, sym, ap, ◌∙◌}
use mathlib.Core.Bool.{Bool, true, false}
use mathlib.Core.List.{List, [], ◌∷◌, map}
use Prim.Native.Nat.{ℕ, zero, suc, ◌+◌, ◌≤◌, ◌<◌}
use native.Mathlib.Nat.{le_of_suc-le-suc, not-suc-le-zero}
use native.Mathlib.Omega.{arith}
use native.Mathlib.Numerals.{add-one}
use borrow.Author.Tests.{ltb-true, ltb-false, lt-ltb, leb-true, le-leb, eqb-true, eqb-false}
use lib.Dec.{ltb, leb, eqb}
use lib.ListN.{length, get_or, set, drop, get_or-eq_default, length-set, drop_of_length-le}
use lib.Seq.{get_or-set_same, get_or-set_other, set_out, set-get_or, drop-cons}
use Rattle.area.proofs.Walks.{by_test}
use Rattle.routines.specs.declared.Due.{Due}
use Rattle.routines.specs.declared.Program.{Program}
use Rattle.routines.specs.Ranks.{main_program, nothing_due, waiting_at, higher}
use Rattle.routines.specs.Order.{NotBefore}
use Rattle.routines.specs.Waits.{Waits, is_unit, due_at, with_due, highest_on, highest_from, highest}
use Rattle.routines.proofs.Laws.Order.{not_before_self, not_before_trans, higher_one, higher_first}

-- ---- what holds of the main program and of all that wait holds of the highest

on_keeps : (P : Program → Type 0) (c u : ℕ) (ds : List Due) (best : Program) → P best → ((i : ℕ) → i < length ds → P (waiting_at c (u + i) (get_or ds i nothing_due))) → P (highest_on c u ds best)
unfolding highest_on
on_keeps P c u [] best p each = p
on_keeps P c u (d ∷ ds) best p each =
    on_keeps P c (u + 1) ds _ (higher_one P best _ p first) (λ i h. rest i h)
  where
    first : P (waiting_at c u d)
    first = let z : u + 0 ≡ u = omega arith in rw z at (each 0 (omega arith))

    rest : (i : ℕ) → i < length ds → P (waiting_at c (u + 1 + i) (get_or ds i nothing_due))
    rest i h = let z : u + suc i ≡ u + 1 + i = omega arith in rw z at (each (suc i) (omega arith))

from_keeps : (P : Program → Type 0) (c : ℕ) (w : Waits) (best : Program) → P best → ((j i : ℕ) → j < length w → i < length (get_or w j []) → P (waiting_at (c + j) i (due_at w j i))) → P (highest_from c w best)
unfolding highest_from
from_keeps P c [] best p each = p
from_keeps P c (ds ∷ w) best p each =
    from_keeps P (c + 1) w _ (on_keeps P c 0 ds best p first) rest
  where
    first : (i : ℕ) → i < length ds → P (waiting_at c (0 + i) (get_or ds i nothing_due))
    first i h = let z : c + 0 ≡ c = omega arith in let y : 0 + i ≡ i = omega arith in rw y (rw z at (each 0 i (omega arith) h))

    rest : (j i : ℕ) → j < length w → i < length (get_or w j []) → P (waiting_at (c + 1 + j) i (due_at w j i))
    rest j i h k = let z : c + suc j ≡ c + 1 + j = omega arith in rw z at (each (suc j) i (omega arith) k)

pub highest_keeps : (P : Program → Type 0) (w : Waits) → P main_program → ((c u : ℕ) → c < length w → u < length (get_or w c []) → P (waiting_at c u (due_at w c u))) → P (highest w)
unfolding highest
highest_keeps P w p each =
    from_keeps P 0 w main_program p (λ c u h k. let z : 0 + c ≡ c = omega arith in rw z (each c u h k))

-- ---- none that waits comes before the highest

on_first : (c u : ℕ) (ds : List Due) (best : Program) → NotBefore best (highest_on c u ds best)
unfolding highest_on
on_first c u [] best = not_before_self best
on_first c u (d ∷ ds) best = not_before_trans (higher_first best _).0 (on_first c (u + 1) ds _)

on_each : (c u : ℕ) (ds : List Due) (best : Program) (i : ℕ) → i < length ds → NotBefore (waiting_at c (u + i) (get_or ds i nothing_due)) (highest_on c u ds best)
unfolding highest_on
on_each c u [] best i h = absurd (not-suc-le-zero h)
on_each c u (d ∷ ds) best zero h =
    let z : u + 0 ≡ u = omega arith in
    rw z (not_before_trans (higher_first best (waiting_at c u d)).1 (on_first c (u + 1) ds _))
on_each c u (d ∷ ds) best (suc i) h =
    let z : u + suc i ≡ u + 1 + i = omega arith in
    rw z (on_each c (u + 1) ds _ i (le_of_suc-le-suc h))

from_first : (c : ℕ) (w : Waits) (best : Program) → NotBefore best (highest_from c w best)
unfolding highest_from
from_first c [] best = not_before_self best
from_first c (ds ∷ w) best = not_before_trans (on_first c 0 ds best) (from_first (c + 1) w _)

from_each : (c : ℕ) (w : Waits) (best : Program) (j i : ℕ) → j < length w → i < length (get_or w j []) → NotBefore (waiting_at (c + j) i (due_at w j i)) (highest_from c w best)
unfolding highest_from
from_each c [] best j i h k = absurd (not-suc-le-zero h)
from_each c (ds ∷ w) best zero i h k =
    let z : c + 0 ≡ c = omega arith in
    let y : 0 + i ≡ i = omega arith in
    rw z (not_before_trans (rw y at (on_each c 0 ds best i k)) (from_first (c + 1) w _))
from_each c (ds ∷ w) best (suc j) i h k =
    let z : c + suc j ≡ c + 1 + j = omega arith in
    rw z (from_each (c + 1) w _ j i (le_of_suc-le-suc h) k)

-- ---- for any numbers

-- a unit of a channel is one of the lists
unit_inside : (w : Waits) (c u : ℕ) → is_unit w c u ≡ true → (c < length w) × (u < length (get_or w c []))
unit_inside w c u e = by_test (λ b. b ≡ ltb c (length w) → (c < length w) × (u < length (get_or w c []))) (ltb c (length w)) (λ t. λ f. (ltb-true _ _ (sym f), ltb-true _ _ e)) (λ t. λ f. absurd (out f)) refl
  where
    out : false ≡ ltb c (length w) → ⊥
    out f =
        let none : get_or w c [] ≡ [] = get_or-eq_default w [] (ltb-false c (length w) (sym f)) in
        let l : u < length (get_or w c []) = ltb-true _ _ e in
        not-suc-le-zero (rw none at l)

-- at a number that is no unit's nothing waits
pub due_beyond : (w : Waits) (c u : ℕ) → is_unit w c u ≡ false → due_at w c u ≡ nothing_due
due_beyond w c u e = get_or-eq_default (get_or w c []) nothing_due (ltb-false u (length (get_or w c [])) e)

-- a routine that waits, waits at a unit
pub waits_unit : (w : Waits) (c u : ℕ) → 0 < (due_at w c u).rank → is_unit w c u ≡ true
waits_unit w c u h = by_test (λ b. is_unit w c u ≡ b → b ≡ true) (is_unit w c u) (λ e. λ f. refl) (λ e. λ f. absurd (none f)) refl
  where
    none : is_unit w c u ≡ false → ⊥
    none e = let z : (due_at w c u).rank ≡ 0 = ap (λ (d : Due). d.rank) (due_beyond w c u e) in omega arith

pub highest_first : (w : Waits) (c u : ℕ) → is_unit w c u ≡ true → NotBefore (waiting_at c u (due_at w c u)) (highest w)
unfolding highest
highest_first w c u e =
    let z : 0 + c ≡ c = omega arith in
    rw z at (from_each 0 w main_program c u (unit_inside w c u e).0 (unit_inside w c u e).1)

-- "4 is highest"
pub highest_rank : (w : Waits) (c u : ℕ) → (due_at w c u).rank ≤ (highest w).rank
highest_rank w c u =
    by_test (λ b. is_unit w c u ≡ b → (due_at w c u).rank ≤ (highest w).rank) (is_unit w c u)
    (λ e. λ f. (highest_first w c u f).ranked)
    (λ e. λ f. let z : (due_at w c u).rank ≡ 0 = ap (λ (d : Due). d.rank) (due_beyond w c u f) in omega arith)
    refl

-- the highest is what waits at its own unit, if it is no main program
pub highest_waits : (w : Waits) → 0 < (highest w).rank → (is_unit w (highest w).channel (highest w).unit ≡ true) × (waiting_at (highest w).channel (highest w).unit (due_at w (highest w).channel (highest w).unit) ≡ highest w)
highest_waits w =
    highest_keeps (λ p. 0 < p.rank → (is_unit w p.channel p.unit ≡ true) × (waiting_at p.channel p.unit (due_at w p.channel p.unit) ≡ p)) w
    (λ h. absurd (not-suc-le-zero h))
    (λ c u h k. λ l. (lt-ltb u (length (get_or w c [])) k, refl))

-- what is higher than all else that waits is the highest
pub highest_only : (w : Waits) (c u : ℕ) → 0 < (due_at w c u).rank → ((k v : ℕ) → (k ≡ c → v ≡ u → ⊥) → (due_at w k v).rank < (due_at w c u).rank) → highest w ≡ waiting_at c u (due_at w c u)
highest_only w c u h above =
    go (eqb (highest w).channel c) (eqb (highest w).unit u) refl refl
  where
    own : waiting_at (highest w).channel (highest w).unit (due_at w (highest w).channel (highest w).unit) ≡ highest w
    own = let l = highest_rank w c u in (highest_waits w (omega arith)).1

    other : ((highest w).channel ≡ c → (highest w).unit ≡ u → ⊥) → ⊥
    other f =
        let l = highest_rank w c u in
        let a = above (highest w).channel (highest w).unit f in
        let r : (due_at w (highest w).channel (highest w).unit).rank ≡ (highest w).rank = ap (λ (p : Program). p.rank) own in
        omega arith

    go : (a b : Bool) → eqb (highest w).channel c ≡ a → eqb (highest w).unit u ≡ b → highest w ≡ waiting_at c u (due_at w c u)
    go true true p q =
        let k : (highest w).channel ≡ c = eqb-true _ _ p in
        let v : (highest w).unit ≡ u = eqb-true _ _ q in
        sym own ∙ (ap (λ (x : ℕ). waiting_at x (highest w).unit (due_at w x (highest w).unit)) k ∙ ap (λ (x : ℕ). waiting_at c x (due_at w c x)) v)
    go true false p q = absurd (other (λ e. λ f. eqb-false _ _ q f))
    go false b p q = absurd (other (λ e. λ f. eqb-false _ _ p e))

-- ---- another thing due at one unit

module _ (w : Waits) (c u : ℕ) (d : Due) where
  -- at every other unit nothing changes
  pub with_other : (k v : ℕ) → (k ≡ c → v ≡ u → ⊥) → due_at (with_due w c u d) k v ≡ due_at w k v
  unfolding with_due
  with_other k v f = go (eqb k c) refl (ltb c (length w)) refl
    where
      go : (a : Bool) → eqb k c ≡ a → (b : Bool) → ltb c (length w) ≡ b → due_at (set w c (set (get_or w c []) u d)) k v ≡ due_at w k v
      go false p b q = ap (λ (ds : List Due). get_or ds v nothing_due) (get_or-set_other w c k (set (get_or w c []) u d) [] (eqb-false k c p))
      go true p true q =
          let e : k ≡ c = eqb-true k c p in
          let here : get_or (set w c (set (get_or w c []) u d)) c [] ≡ set (get_or w c []) u d = get_or-set_same w c (set (get_or w c []) u d) [] (ltb-true c (length w) q) in
          rw (e, here) (get_or-set_other (get_or w c []) u v d nothing_due (f e))
      go true p false q = rw (set_out w c (set (get_or w c []) u d) (ltb-false c (length w) q))

  pub with_same : is_unit w c u ≡ true → due_at (with_due w c u d) c u ≡ d
  unfolding with_due
  with_same e =
      let here : get_or (set w c (set (get_or w c []) u d)) c [] ≡ set (get_or w c []) u d = get_or-set_same w c (set (get_or w c []) u d) [] (unit_inside w c u e).0 in
      rw here (get_or-set_same (get_or w c []) u d nothing_due (unit_inside w c u e).1)

  -- the units stay
  pub with_units_lem : (k v : ℕ) → is_unit (with_due w c u d) k v ≡ is_unit w k v
  unfolding with_due
  with_units_lem k v = ap (ltb v) (go (eqb k c) refl (ltb c (length w)) refl)
    where
      go : (a : Bool) → eqb k c ≡ a → (b : Bool) → ltb c (length w) ≡ b → length (get_or (set w c (set (get_or w c []) u d)) k []) ≡ length (get_or w k [])
      go false p b q = ap (λ (ds : List Due). length ds) (get_or-set_other w c k (set (get_or w c []) u d) [] (eqb-false k c p))
      go true p true q =
          let e : k ≡ c = eqb-true k c p in
          let here : get_or (set w c (set (get_or w c []) u d)) c [] ≡ set (get_or w c []) u d = get_or-set_same w c (set (get_or w c []) u d) [] (ltb-true c (length w) q) in
          rw (e, here) (length-set (get_or w c []) u d)
      go true p false q = rw (set_out w c (set (get_or w c []) u d) (ltb-false c (length w) q))

-- what is due at a unit, stored there once more
pub with_own : (w : Waits) (c u : ℕ) → with_due w c u (due_at w c u) ≡ w
unfolding with_due
with_own w c u = rw (set-get_or (get_or w c []) u nothing_due, set-get_or w c [])

-- what holds of all that is due, and of what becomes due, holds of all afterwards
pub with_each : (test : Due → Bool) (w : Waits) (c u : ℕ) (d : Due) → ((k v : ℕ) → test (due_at w k v) ≡ true) → test d ≡ true → (k v : ℕ) → test (due_at (with_due w c u d) k v) ≡ true
with_each test w c u d all own k v = each (eqb k c) refl (eqb v u) refl (is_unit w c u) refl
  where
    each : (a : Bool) → eqb k c ≡ a → (b : Bool) → eqb v u ≡ b → (e : Bool) → is_unit w c u ≡ e → test (due_at (with_due w c u d) k v) ≡ true
    each false p b q e r = ap test (with_other w c u d k v (λ x. λ y. eqb-false k c p x)) ∙ all k v
    each true p false q e r = ap test (with_other w c u d k v (λ x. λ y. eqb-false v u q y)) ∙ all k v
    each true p true q true r =
        let x : k ≡ c = eqb-true k c p in
        let y : v ≡ u = eqb-true v u q in
        rw (x, y, with_same w c u d r) own
    each true p true q false r =
        let x : k ≡ c = eqb-true k c p in
        let y : v ≡ u = eqb-true v u q in
        rw (x, y, due_beyond (with_due w c u d) c u (with_units_lem w c u d c u ∙ r)) (sym (ap test (due_beyond w c u r)) ∙ all c u)

-- what is entered waits no longer, and what is then the highest is no higher
pub cleared_lower : (w : Waits) (c u : ℕ) → (highest (with_due w c u nothing_due)).rank ≤ (highest w).rank
cleared_lower w c u =
    highest_keeps (λ p. p.rank ≤ (highest w).rank) (with_due w c u nothing_due) (omega arith)
    (λ k v i j. leb-true _ _ (with_each (λ d. leb d.rank (highest w).rank) w c u nothing_due (λ x y. le-leb _ _ (highest_rank w x y)) (le-leb 0 (highest w).rank (omega arith)) k v))

-- ---- a walk over units that hold what is due: the answer e₀ of the whole is that of what is left from unit i on, with the best so far

one_off : {A : Type 0} (xs : List A) (i : ℕ) (d : A) → i < length xs → drop i xs ≡ get_or xs i d ∷ drop (i + 1) xs
one_off xs i d h = drop-cons xs i d h ∙ ap (λ (k : ℕ). get_or xs i d ∷ drop k xs) (sym (add-one i))

module _ {A : Type 0} (due : A → Due) (d : A) (xs : List A) (c : ℕ) (e₀ : Program) where
  pub on_turn : (i : ℕ) (best : Program) → i < length xs → e₀ ≡ highest_on c i (map due (drop i xs)) best → e₀ ≡ highest_on c (i + 1) (map due (drop (i + 1) xs)) (higher best (waiting_at c i (due (get_or xs i d))))
  unfolding highest_on
  on_turn i best h inv = inv ∙ rw (one_off xs i d h)

  pub on_done : (i : ℕ) (best : Program) → length xs ≤ i → e₀ ≡ highest_on c i (map due (drop i xs)) best → best ≡ e₀
  unfolding highest_on
  on_done i best h inv = sym (inv ∙ rw (drop_of_length-le xs h))

-- the same over channels that hold units
module _ {A : Type 0} (dues : A → List Due) (d : A) (xs : List A) (e₀ : Program) where
  pub from_turn : (j : ℕ) (best : Program) → j < length xs → e₀ ≡ highest_from j (map dues (drop j xs)) best → e₀ ≡ highest_from (j + 1) (map dues (drop (j + 1) xs)) (highest_on j 0 (dues (get_or xs j d)) best)
  unfolding highest_from
  from_turn j best h inv = inv ∙ rw (one_off xs j d h)

  pub from_done : (j : ℕ) (best : Program) → length xs ≤ j → e₀ ≡ highest_from j (map dues (drop j xs)) best → best ≡ e₀
  unfolding highest_from
  from_done j best h inv = sym (inv ∙ rw (drop_of_length-le xs h))
