-- The planner's proposal is accepted, and no accepted proposal has a smaller size: whoever serves the same openings has as many buffers busy at the
-- same moments, and a lowest free buffer b is taken where b are busy. Assumes nothing.
use mathlib.Core.Path.{◌≡◌, refl, sym, ap, ap₂, ◌∙◌}
use mathlib.Core.Bool.{Bool, true, false, cond}
use mathlib.Core.List.{List, [], ◌∷◌, map}
use Prim.Native.Nat.{ℕ, ◌+◌, ◌*◌, ◌%◌, ◌/◌, ◌≤◌, ◌<◌, max}
use native.Mathlib.Omega.{arith}
use borrow.Author.Tests.{eq-eqb, ne_eqb, lt-ltb, le-ltb, ltb-true, ltb-false}
use lib.Dec.{eqb, ltb}
use lib.ListN.{length, get_or, set, length-set, length-map, get_or-map}
use lib.Seq.{get_or-set_same, get_or-set_other}
use Rattle.area.specs.Lists.{count_of, all_of}
use Rattle.area.proofs.Walks.{by_test}
use Rattle.planner.specs.Events.{file_of, opens}
use Rattle.planner.specs.Rows.{row_count, row_file, row_first, row_second, buffers_of, among, different}
use Rattle.planner.specs.Walk.{accepted, mark, leave, claimed, released, check_from}
use Rattle.planner.specs.Greedy.{first_free, taken, owners_after, row_of, wants, size_from, rows_from}
use Rattle.planner.proofs.Faults.{one_buffer, two_buffers, claimed_one, claimed_two}
use Rattle.planner.proofs.Counts.{busy, count_set, count_released, free_busy, free_long, free_is, busy_below}
use Rattle.planner.proofs.Fits.{Fits, closing_accepted, accepted_closing, opening_missing, opening_accepted, accepted_opening, fits_single, fits_double}

-- ---- the planner's owners o beside the owners q of some accepted proposal of size s

pub record Twin (s : ℕ) (o q : List ℕ) : Type 0 where
  pub same : (p : ℕ → Bool) → count_of p o ≡ count_of p q
  pub within : (b : ℕ) → s ≤ b → get_or q b 0 ≡ 0
  pub longo : length o ≡ 64
  pub longq : length q ≡ 64
  pub small : s ≤ 64

-- what nobody owns stays so when a file leaves
leave_zero : (v : ℕ) → leave v 0 ≡ 0
leave_zero v = by_test (λ t. ◌≡◌ {A = ℕ} (cond t 0 0) 0) (eqb 0 v) (λ _. refl) (λ _. refl)

pub get_d_released : (v : ℕ) (q : List ℕ) (b : ℕ) → get_or (released v q) b 0 ≡ leave v (get_or q b 0)
unfolding released
get_d_released v q b = ap (λ (d : ℕ). get_or (map (leave v) q) b d) (sym (leave_zero v)) ∙ get_or-map (leave v) q b 0

module _ (s : ℕ) (o q : List ℕ) (t : Twin s o q) where
  -- another buffer below s is free, so the lowest free one of the planner's is below s
  pub room : (b : ℕ) → b < s → get_or q b 0 ≡ 0 → first_free o < s
  room b h z =
      let more : count_of busy (set q b 1) + 0 ≡ count_of busy q + 1 = rw z at (count_set busy q b 1 (omega (arith, t.longq, t.small))) in
      let most : count_of busy (set q b 1) ≤ s = busy_below s (set q b 1) (λ x l. get_or-set_other q b x 1 0 (λ w. omega arith) ∙ t.within x l) in
      omega (arith, free_busy o, t.same busy)

  pub twin_taken : (v b : ℕ) → b < s → get_or q b 0 ≡ 0 → Twin s (taken v o) (set q b v)
  unfolding taken
  twin_taken v b h z =
      let r : first_free o < s = room b h z in
      let free : get_or o (first_free o) 0 ≡ 0 = free_is o (omega (arith, t.longo, t.small)) in
      record {
        same = λ p.
            let l : count_of p (set o (first_free o) v) + cond (p 0) 1 0 ≡ count_of p o + cond (p v) 1 0 = rw free at (count_set p o (first_free o) v (omega (arith, t.longo, t.small))) in
            let m : count_of p (set q b v) + cond (p 0) 1 0 ≡ count_of p q + cond (p v) 1 0 = rw z at (count_set p q b v (omega (arith, t.longq, t.small))) in
            omega (arith, t.same p);
        within = λ x l. get_or-set_other q b x v 0 (λ w. omega arith) ∙ t.within x l;
        longo = length-set o (first_free o) v ∙ t.longo;
        longq = length-set q b v ∙ t.longq;
        small = t.small;
      }

  pub twin_released : (v : ℕ) → Twin s (released v o) (released v q)
  unfolding released
  twin_released v = record {
    same = λ p.
        let l : cond (p v) (count_of (λ x. eqb x v) o) 0 ≡ cond (p v) (count_of (λ x. eqb x v) q) 0 = ap (λ (n : ℕ). cond (p v) n 0) (t.same (λ x. eqb x v)) in
        let m : cond (p 0) (count_of (λ x. eqb x v) o) 0 ≡ cond (p 0) (count_of (λ x. eqb x v) q) 0 = ap (λ (n : ℕ). cond (p 0) n 0) (t.same (λ x. eqb x v)) in
        omega (arith, count_released p v o, count_released p v q, t.same p);
    within = λ x l. get_d_released v q x ∙ (ap (leave v) (t.within x l) ∙ leave_zero v);
    longo = length-map o (leave v) ∙ t.longo;
    longq = length-map q (leave v) ∙ t.longq;
    small = t.small;
  }

-- ---- no accepted proposal is smaller

-- what an event wants, case by case
module _ (e : ℕ) (o : List ℕ) where
  wants_none : opens e ≡ false → wants e o ≡ 0
  unfolding wants
  wants_none w = rw w

  wants_one : e < 64 → wants e o ≡ first_free o + 1
  unfolding wants
  wants_one h =
      let w : opens e ≡ true = lt-ltb e 128 (omega arith) in
      rw (w, lt-ltb e 64 h)

  wants_two : opens e ≡ true → 64 ≤ e → wants e o ≡ max (first_free o + 1) (first_free (taken (mark e) o) + 1)
  unfolding wants
  wants_two w h = rw (w, le-ltb e 64 h)

  owners_closing : opens e ≡ false → owners_after e o ≡ released (mark e) o
  unfolding owners_after
  owners_closing w = rw w

  owners_single : e < 64 → owners_after e o ≡ taken (mark e) o
  unfolding owners_after
  owners_single h =
      let w : opens e ≡ true = lt-ltb e 128 (omega arith) in
      rw (w, lt-ltb e 64 h)

  owners_double : opens e ≡ true → 64 ≤ e → owners_after e o ≡ taken (mark e) (taken (mark e) o)
  unfolding owners_after
  owners_double w h = rw (w, le-ltb e 64 h)

-- the planner's part in an opening that a row serves: it wants no more than s, and the owners stay twins
module _ (s : ℕ) (o q : List ℕ) (t : Twin s o q) (e row : ℕ) (f : Fits s q e row) (w : opens e ≡ true) where
  pub twin_opening : (wants e o ≤ s) × Twin s (owners_after e o) (claimed (mark e) (buffers_of row) q)
  twin_opening = by_test
      (λ b. ltb e 64 ≡ b → (wants e o ≤ s) × Twin s (owners_after e o) (claimed (mark e) (buffers_of row) q)) (ltb e 64)
      (λ _ z. one (ltb-true e 64 z))
      (λ _ z. two (ltb-false e 64 z)) refl
    where
      one : e < 64 → (wants e o ≤ s) × Twin s (owners_after e o) (claimed (mark e) (buffers_of row) q)
      one h =
          let g = fits_single s q e row f h in (
            omega (arith, wants_one e o h, room s o q t (row_first row) g.inside g.free),
            rw (owners_single e o h, g.buffers, claimed_one (mark e) q (row_first row) 0) (twin_taken s o q t (mark e) (row_first row) g.inside g.free),
          )

      two : 64 ≤ e → (wants e o ≤ s) × Twin s (owners_after e o) (claimed (mark e) (buffers_of row) q)
      two h =
          let g = fits_double s q e row f h in
          let t1 = twin_taken s o q t (mark e) (row_first row) g.low g.first in
          let z : get_or (set q (row_first row) (mark e)) (row_second row) 0 ≡ 0 = get_or-set_other q (row_first row) (row_second row) (mark e) 0 g.differ ∙ g.second in (
            omega (arith, wants_two e o w h, room s o q t (row_first row) g.low g.first, room s _ _ t1 (row_second row) g.high z),
            rw (owners_double e o w h, g.buffers, claimed_two (mark e) q (row_first row) (row_second row)) (twin_taken s _ _ t1 (mark e) (row_second row) g.high z),
          )

pub smallest : (s : ℕ) (o q : List ℕ) (n : ℕ) (events rows : List ℕ) → 1 ≤ s → Twin s o q → check_from s q n events rows ≡ accepted → size_from o events ≤ s
unfolding size_from
smallest s o q n [] rows h t a = h
smallest s o q n (e ∷ es) [] h t a =
    by_test (λ b. opens e ≡ b → max (wants e o) (size_from (owners_after e o) es) ≤ s) (opens e)
    (λ _ w. absurd (opening_missing s q n e es w a))
    (λ _ w. let rest : size_from (released (mark e) o) es ≤ s = smallest s (released (mark e) o) (released (mark e) q) (n + 0) es [] h (twin_released s o q t (mark e)) (closing_accepted s q n e es [] w a) in
    rw (owners_closing e o w) (omega (arith, wants_none e o w))) refl
smallest s o q n (e ∷ es) (r ∷ rs) h t a =
    by_test (λ b. opens e ≡ b → max (wants e o) (size_from (owners_after e o) es) ≤ s) (opens e)
    (λ _ w. let f = opening_accepted s q n e es w r rs a in
    let g = twin_opening s o q t e r f.0 w in
    omega (arith, g.0, smallest s (owners_after e o) (claimed (mark e) (buffers_of r) q) (n + 1) es rs h g.1 f.1))
    (λ _ w. let rest : size_from (released (mark e) o) es ≤ s = smallest s (released (mark e) o) (released (mark e) q) (n + 0) es (r ∷ rs) h (twin_released s o q t (mark e)) (closing_accepted s q n e es (r ∷ rs) w a) in
    rw (owners_closing e o w) (omega (arith, wants_none e o w))) refl

-- ---- the planner's own proposal is accepted

-- what its rows say
module _ (e : ℕ) (o : List ℕ) (long : length o ≡ 64) where
  low : first_free o ≤ 64
  low = omega (arith, free_long o)

  high : first_free (taken (mark e) o) ≤ 64
  unfolding taken
  high = omega (arith, free_long (taken (mark e) o), length-set o (first_free o) (mark e))

  row_one : e < 64 → row_of e o ≡ 16777216 + file_of e * 65536 + first_free o
  unfolding row_of
  row_one h = rw (lt-ltb e 64 h)

  row_two : 64 ≤ e → row_of e o ≡ 33554432 + file_of e * 65536 + first_free (taken (mark e) o) * 256 + first_free o
  unfolding row_of
  row_two h = rw (le-ltb e 64 h)

taken_is : (v : ℕ) (o : List ℕ) → taken v o ≡ set o (first_free o) v
unfolding taken
taken_is v o = refl

pub nothing_left : (s : ℕ) (o : List ℕ) (n : ℕ) → check_from s o n [] [] ≡ accepted
unfolding check_from
nothing_left s o n = refl

-- four bytes, taken apart again
bytes : (c f b a : ℕ) → f < 256 → b < 256 → a < 256 → (r : ℕ) → r ≡ c * 16777216 + f * 65536 + b * 256 + a
    → (r / 16777216 ≡ c) × (r / 65536 % 256 ≡ f) × (r / 256 % 256 ≡ b) × (r % 256 ≡ a)
bytes c f b a hf hb ha r e = (omega arith, omega arith, omega arith, omega arith)

module _ (s : ℕ) (o : List ℕ) (long : length o ≡ 64) (small : s ≤ 64) (e : ℕ) where
  single_bytes : e < 64 → (row_count (row_of e o) ≡ 1) × (row_file (row_of e o) ≡ file_of e) × (row_second (row_of e o) ≡ 0) × (row_first (row_of e o) ≡ first_free o)
  single_bytes h = bytes 1 (file_of e) 0 (first_free o) (omega arith) (omega arith) (omega (arith, low e o long)) (row_of e o) (omega (arith, row_one e o long h))

  double_bytes : 64 ≤ e → (row_count (row_of e o) ≡ 2) × (row_file (row_of e o) ≡ file_of e) × (row_second (row_of e o) ≡ first_free (taken (mark e) o)) × (row_first (row_of e o) ≡ first_free o)
  double_bytes h = bytes 2 (file_of e) (first_free (taken (mark e) o)) (first_free o) (omega arith) (omega (arith, high e o long)) (omega (arith, low e o long)) (row_of e o) (omega (arith, row_two e o long h))

  own_single : wants e o ≤ s → e < 64 → Fits s o e (row_of e o)
  unfolding all_of different among
  own_single l h =
      let m = single_bytes h in
      let bs : buffers_of (row_of e o) ≡ first_free o ∷ [] = one_buffer (row_of e o) m.0 ∙ ap (λ (b : ℕ). b ∷ []) m.3 in
      let in_size : first_free o < s = omega (arith, wants_one e o h) in
      let free : get_or o (first_free o) 0 ≡ 0 = free_is o (omega arith) in
      record {
        file = m.1;
        count = m.0 ∙ sym (rw (lt-ltb e 64 h));
        inside = rw (bs, lt-ltb (first_free o) s in_size);
        differ = rw bs;
        free = rw (bs, eq-eqb _ _ free);
      }

  own_double : opens e ≡ true → wants e o ≤ s → 64 ≤ e → Fits s o e (row_of e o)
  unfolding all_of different among taken
  own_double w l h =
      let m = double_bytes h in
      let a = first_free o in
      let b = first_free (taken (mark e) o) in
      let bs : buffers_of (row_of e o) ≡ b ∷ a ∷ [] = two_buffers (row_of e o) m.0 ∙ ap₂ (λ (y x : ℕ). y ∷ x ∷ []) m.2 m.3 in
      let a_in : a < s = omega (arith, wants_two e o w h) in
      let b-in : b < s = omega (arith, wants_two e o w h) in
      let a-free : get_or o a 0 ≡ 0 = free_is o (omega arith) in
      let b-left : get_or (taken (mark e) o) b 0 ≡ 0 = free_is (taken (mark e) o) (omega (arith, length-set o a (mark e))) in
      let a-now : get_or (taken (mark e) o) a 0 ≡ mark e = get_or-set_same o a (mark e) 0 (omega arith) in
      let ne : b ≡ a → ⊥ = λ z. let x : get_or (taken (mark e) o) b 0 ≡ get_or (taken (mark e) o) a 0 = ap (λ (y : ℕ). get_or (taken (mark e) o) y 0) z in omega arith in
      let b-free : get_or o b 0 ≡ 0 = sym (get_or-set_other o a b (mark e) 0 ne) ∙ b-left in
      record {
        file = m.1;
        count = m.0 ∙ sym (rw (le-ltb e 64 h));
        inside = rw (bs, lt-ltb a s a_in, lt-ltb b s b-in);
        differ = rw (bs, ne_eqb b a ne);
        free = rw (bs, eq-eqb _ _ a-free, eq-eqb _ _ b-free);
      }

  -- and its owners are those that the check comes to
  own_owners : opens e ≡ true → claimed (mark e) (buffers_of (row_of e o)) o ≡ owners_after e o
  own_owners w = by_test (λ b. ltb e 64 ≡ b → claimed (mark e) (buffers_of (row_of e o)) o ≡ owners_after e o) (ltb e 64)
      (λ _ z. one (ltb-true e 64 z))
      (λ _ z. two (ltb-false e 64 z)) refl
    where
      as_set : (v : ℕ) (x : List ℕ) → taken v x ≡ set x (first_free x) v
      as_set v x = taken_is v x

      one : e < 64 → claimed (mark e) (buffers_of (row_of e o)) o ≡ owners_after e o
      one h =
          let m = single_bytes h in
          rw (one_buffer (row_of e o) m.0, m.3, claimed_one (mark e) o (first_free o) 0, owners_single e o h) (sym (as_set (mark e) o))

      two : 64 ≤ e → claimed (mark e) (buffers_of (row_of e o)) o ≡ owners_after e o
      two h =
          let m = double_bytes h in
          rw (two_buffers (row_of e o) m.0, m.2, m.3, claimed_two (mark e) o (first_free o) (first_free (taken (mark e) o)), owners_double e o w h)
          (sym (as_set (mark e) (taken (mark e) o) ∙ ap (λ (x : List ℕ). set x (first_free (taken (mark e) o)) (mark e)) (as_set (mark e) o)))

  pub own_row : opens e ≡ true → wants e o ≤ s → Fits s o e (row_of e o)
  own_row w l = by_test (λ b. ltb e 64 ≡ b → Fits s o e (row_of e o)) (ltb e 64)
      (λ _ z. own_single l (ltb-true e 64 z))
      (λ _ z. own_double w l (ltb-false e 64 z)) refl

-- the owners stay 64
owners_long : (e : ℕ) (o : List ℕ) → length o ≡ 64 → length (owners_after e o) ≡ 64
unfolding owners_after taken released
owners_long e o long =
    by_test (λ b. length (cond b (cond (ltb e 64) (taken (mark e) o) (taken (mark e) (taken (mark e) o))) (released (mark e) o)) ≡ 64) (opens e)
    (λ _. by_test (λ b. length (cond b (taken (mark e) o) (taken (mark e) (taken (mark e) o))) ≡ 64) (ltb e 64)
    (λ _. length-set o (first_free o) (mark e) ∙ long)
    (λ _. length-set (taken (mark e) o) (first_free (taken (mark e) o)) (mark e) ∙ (length-set o (first_free o) (mark e) ∙ long)))
    (λ _. length-map o (leave (mark e)) ∙ long)

pub own : (s : ℕ) (o : List ℕ) (n : ℕ) (events : List ℕ) → length o ≡ 64 → s ≤ 64 → size_from o events ≤ s → check_from s o n events (rows_from o events) ≡ accepted
unfolding size_from rows_from
own s o n [] long small h = nothing_left s o n
own s o n (e ∷ es) long small h =
    by_test
    (λ b. opens e ≡ b
    → check_from s o n (e ∷ es) (cond b (row_of e o ∷ rows_from (owners_after e o) es) (rows_from (owners_after e o) es)) ≡ accepted)
    (opens e)
    (λ _ w. let rest : check_from s (owners_after e o) (n + 1) es (rows_from (owners_after e o) es) ≡ accepted = own s (owners_after e o) (n + 1) es (owners_long e o long) small (omega arith) in
    accepted_opening s o n e es w (row_of e o) (rows_from (owners_after e o) es) (own_row s o long small e w (omega arith)) (rw (own_owners s o long small e w) rest))
    (λ _ w. let rest : check_from s (owners_after e o) (n + 0) es (rows_from (owners_after e o) es) ≡ accepted = own s (owners_after e o) (n + 0) es (owners_long e o long) small (omega arith) in
    accepted_closing s o n e es (rows_from (owners_after e o) es) w (rw (← owners_closing e o w) rest)) refl
