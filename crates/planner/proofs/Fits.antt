-- What it means that the check finds no fault in an event, or accepts what is left. Assumes nothing.
use mathlib.Core.Path.{◌≡◌, refl, ◌∙◌}
use mathlib.Core.Bool.{Bool, true, false, not, cond}
use mathlib.Core.List.{List, [], ◌∷◌}
use Prim.Native.Nat.{ℕ, suc, ◌+◌, ◌≤◌, ◌<◌}
use native.Mathlib.Omega.{arith}
use borrow.Author.Tests.{ltb-true, lt-ltb, le-ltb, eqb-true, eq-eqb, ne_eqb}
use lib.Dec.{eqb, ltb}
use lib.ListN.{length, get_or, drop}
use Rattle.area.specs.Lists.{all_of}
use Rattle.area.proofs.Walks.{true_not_false, and_left, and_right}
use Rattle.std.proofs.Common.{Ok, Err}
use Rattle.planner.specs.declared.Fault.{Fault}
use Rattle.planner.specs.declared.Fault.TheVariants.{Openings, OtherFile, OtherCount, Outside, Twice, Shared}
use Rattle.planner.specs.Events.{file_of, opens, asked}
use Rattle.planner.specs.Rows.{row_count, row_file, row_first, row_second, buffers_of, among, different}
use Rattle.planner.specs.Walk.{RowJudged, Verdict, accepted, unless_fault, is_free, claimed, released, mark, used, buffers_fault, row_fault, event_fault, owners_next, check_from}
use Rattle.planner.proofs.Faults.{one_buffer, two_buffers}

-- ---- a row that can serve an opening

pub record Fits (size : ℕ) (q : List ℕ) (e row : ℕ) : Type 0 where
  pub file : row_file row ≡ file_of e
  pub count : row_count row ≡ asked e
  pub inside : all_of (λ b. ltb b size) (buffers_of row) ≡ true
  pub differ : different (buffers_of row) ≡ true
  pub free : all_of (is_free q) (buffers_of row) ≡ true

no_fault : (b : Bool) (f : Fault) (x : RowJudged) → cond (not b) (Err f) x ≡ Ok tt → (b ≡ true) × (x ≡ Ok tt)
no_fault true f x e = (refl, e)
no_fault false f x e = absurd (cc)

module _ (size : ℕ) (q : List ℕ) (e row : ℕ) where
  pub row_fits : row_fault size q e row ≡ Ok tt → Fits size q e row
  unfolding row_fault buffers_fault
  row_fits z =
      let a = no_fault (eqb (row_file row) (file_of e)) OtherFile _ z in
      let b = no_fault (eqb (row_count row) (asked e)) OtherCount _ a.1 in
      let c = no_fault (all_of (λ b. ltb b size) (buffers_of row)) Outside _ b.1 in
      let d = no_fault (different (buffers_of row)) Twice _ c.1 in
      let f = no_fault (all_of (is_free q) (buffers_of row)) Shared (Ok tt) d.1 in
      record { file = eqb-true _ _ a.0; count = eqb-true _ _ b.0; inside = c.0; differ = d.0; free = f.0 }

  pub fits_row : Fits size q e row → row_fault size q e row ≡ Ok tt
  unfolding row_fault buffers_fault
  fits_row f = rw (eq-eqb _ _ f.file, eq-eqb _ _ f.count, f.inside, f.differ, f.free)

-- ---- an event, and the events after it

unless_accepted : (x : RowJudged) (n : ℕ) (v : Verdict) → unless_fault x n v ≡ accepted → (x ≡ Ok tt) × (v ≡ accepted)
unless_accepted (Ok tt) n v e = (refl, e)
unless_accepted (Err f) n v e = absurd (cc)

module _ (size : ℕ) (q : List ℕ) (n e : ℕ) (es rows : List ℕ) where
  pub event_accepted : check_from size q n (e ∷ es) rows ≡ accepted
      → (event_fault size q e rows ≡ Ok tt) × (check_from size (owners_next e rows q) (n + used e) es (drop (used e) rows) ≡ accepted)
  unfolding check_from
  event_accepted a = unless_accepted (event_fault size q e rows) n _ a

  pub accepted_event : event_fault size q e rows ≡ Ok tt → check_from size (owners_next e rows q) (n + used e) es (drop (used e) rows) ≡ accepted
      → check_from size q n (e ∷ es) rows ≡ accepted
  unfolding check_from
  accepted_event z r = rw z r

-- a closing uses no row
module _ (size : ℕ) (q : List ℕ) (n e : ℕ) (es rows : List ℕ) (w : opens e ≡ false) where
  pub closing_accepted : check_from size q n (e ∷ es) rows ≡ accepted → check_from size (released (mark e) q) (n + 0) es rows ≡ accepted
  unfolding owners_next
  closing_accepted a = rw w at (event_accepted size q n e es rows a).1

  pub accepted_closing : check_from size (released (mark e) q) (n + 0) es rows ≡ accepted → check_from size q n (e ∷ es) rows ≡ accepted
  unfolding owners_next event_fault
  accepted_closing a = accepted_event size q n e es rows (rw w) (rw w a)

-- an opening uses the first
module _ (size : ℕ) (q : List ℕ) (n e : ℕ) (es : List ℕ) (w : opens e ≡ true) where
  pub opening_missing : check_from size q n (e ∷ es) [] ≡ accepted → ⊥
  unfolding event_fault
  opening_missing a = let z : ◌≡◌ {A = RowJudged} (Err Openings) (Ok tt) = rw w at (event_accepted size q n e es [] a).0 in absurd (cc)

  module _ (r : ℕ) (rs : List ℕ) where
    pub opening_accepted : check_from size q n (e ∷ es) (r ∷ rs) ≡ accepted
        → Fits size q e r × (check_from size (claimed (mark e) (buffers_of r) q) (n + 1) es rs ≡ accepted)
    unfolding event_fault owners_next
    opening_accepted a =
        let z : row_fault size q e r ≡ Ok tt = rw (w, some) at (event_accepted size q n e es (r ∷ rs) a).0 in
        (row_fits size q e r z, rw w at (event_accepted size q n e es (r ∷ rs) a).1)
      where
        some : eqb (suc (length rs)) 0 ≡ false
        some = ne_eqb (suc (length rs)) 0 (λ z. omega arith)

    pub accepted_opening : Fits size q e r → check_from size (claimed (mark e) (buffers_of r) q) (n + 1) es rs ≡ accepted
        → check_from size q n (e ∷ es) (r ∷ rs) ≡ accepted
    unfolding event_fault owners_next
    accepted_opening f a =
        accepted_event size q n e es (r ∷ rs) (rw (w, ne_eqb (suc (length rs)) 0 (λ z. omega arith)) (fits_row size q e r f)) (rw w a)

-- ---- the buffers of a row that can serve, one by one

pub record Single (size : ℕ) (q : List ℕ) (row : ℕ) : Type 0 where
  pub buffers : buffers_of row ≡ row_first row ∷ []
  pub inside : row_first row < size
  pub free : get_or q (row_first row) 0 ≡ 0

pub record Double (size : ℕ) (q : List ℕ) (row : ℕ) : Type 0 where
  pub buffers : buffers_of row ≡ row_second row ∷ row_first row ∷ []
  pub low : row_first row < size
  pub high : row_second row < size
  pub differ : row_second row ≡ row_first row → ⊥
  pub first : get_or q (row_first row) 0 ≡ 0
  pub second : get_or q (row_second row) 0 ≡ 0

module _ (size : ℕ) (q : List ℕ) (e row : ℕ) (f : Fits size q e row) where
  pub fits_single : e < 64 → Single size q row
  unfolding all_of
  fits_single h =
      let bs : buffers_of row ≡ row_first row ∷ [] = one_buffer row (f.count ∙ rw (lt-ltb e 64 h)) in
      let i : all_of (λ b. ltb b size) (row_first row ∷ []) ≡ true = rw bs at f.inside in
      let z : all_of (is_free q) (row_first row ∷ []) ≡ true = rw bs at f.free in
      record { buffers = bs; inside = ltb-true _ _ (and_left (ltb (row_first row) size) true i); free = eqb-true _ _ (and_left (is_free q (row_first row)) true z) }

  pub fits_double : 64 ≤ e → Double size q row
  unfolding all_of different among
  fits_double h =
      let bs : buffers_of row ≡ row_second row ∷ row_first row ∷ [] = two_buffers row (f.count ∙ rw (le-ltb e 64 h)) in
      let i : all_of (λ b. ltb b size) (row_second row ∷ row_first row ∷ []) ≡ true = rw bs at f.inside in
      let z : all_of (is_free q) (row_second row ∷ row_first row ∷ []) ≡ true = rw bs at f.free in
      let d : different (row_second row ∷ row_first row ∷ []) ≡ true = rw bs at f.differ in
      let i2 : all_of (λ b. ltb b size) (row_first row ∷ []) ≡ true = and_right (ltb (row_second row) size) _ i in
      let z2 : all_of (is_free q) (row_first row ∷ []) ≡ true = and_right (is_free q (row_second row)) _ z in
      record {
        buffers = bs;
        low = ltb-true _ _ (and_left (ltb (row_first row) size) true i2);
        high = ltb-true _ _ (and_left (ltb (row_second row) size) _ i);
        differ = λ same. true_not_false d (rw (eq-eqb _ _ same));
        first = eqb-true _ _ (and_left (is_free q (row_first row)) true z2);
        second = eqb-true _ _ (and_left (is_free q (row_second row)) _ z);
      }
