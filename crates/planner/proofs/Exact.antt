-- The check accepts exactly the proposals that are accepted by the plain statement: whom each buffer serves (the walk's owners q) and what each file
-- holds (the statement's desk d) say the same from event to event. Assumes nothing.
use mathlib.Core.Path.{◌≡◌, refl, sym, ap, ◌∙◌}
use mathlib.Core.Bool.{Bool, true, false, cond}
use mathlib.Core.List.{List, [], ◌∷◌, ◌++◌}
use Prim.Native.Nat.{ℕ, zero, suc, ◌+◌, ◌-◌, ◌≤◌, ◌<◌}
use native.Mathlib.Nat.{not-suc-le-zero}
use native.Mathlib.Omega.{arith}
use borrow.Author.Tests.{ltb-true, lt-ltb, eqb-true, eqb-false, eq-eqb, ne_eqb}
use lib.Dec.{eqb, ltb, leb}
use lib.ListN.{length, get_or, set, length-set, length-map}
use lib.Seq.{get_or-set_same, get_or-set_other}
use Rattle.area.specs.Lists.{all_of}
use Rattle.area.proofs.Walks.{by_test, true_not_false, and_left, and_right, and_both, or_left}
use Rattle.std.proofs.Common.{Err}
use Rattle.planner.specs.declared.Fault.TheVariants.{Openings}
use Rattle.planner.specs.declared.Rejection.TheVariants.{Row}
use Rattle.planner.specs.Events.{file_limit, file_of, opens, wrong_event, opened_after, judge_from, is_good}
use Rattle.planner.specs.Rows.{buffers_of, among, different}
use Rattle.planner.specs.Acceptable.{openings, Desk, opened, closed, desk_after, Apart, Served}
use Rattle.planner.specs.Walk.{accepted, mark, leave, is_free, claimed, released, used, check_from}
use Rattle.planner.proofs.Turns.{good_from}
use Rattle.planner.proofs.Fits.{Fits, closing_accepted, accepted_closing, opening_missing, opening_accepted, accepted_opening}
use Rattle.planner.proofs.Smallest.{get_d_released}

-- ---- the owners and the desk say the same

abbrev pub Link : List ℕ → Desk → Type 0
Link q d = (f b : ℕ) → among b (d f) ≡ eqb (get_or q b 0) (f + 1)

pub link_apart : (q : List ℕ) (d : Desk) → Link q d → Apart d
link_apart q d l f g b ne x y =
    let p : get_or q b 0 ≡ f + 1 = eqb-true _ _ (sym (l f b) ∙ x) in
    let r : get_or q b 0 ≡ g + 1 = eqb-true _ _ (sym (l g b) ∙ y) in
    ne (omega arith)

-- ---- a claim

length_claimed : (v : ℕ) (bs q : List ℕ) → length (claimed v bs q) ≡ length q
unfolding claimed
length_claimed v [] q = refl
length_claimed v (b ∷ bs) q = length-set (claimed v bs q) b v ∙ length_claimed v bs q

length_released : (v : ℕ) (q : List ℕ) → length (released v q) ≡ length q
unfolding released
length_released v q = length-map q (leave v)

claimed_other : (v b : ℕ) (bs q : List ℕ) → among b bs ≡ false → get_or (claimed v bs q) b 0 ≡ get_or q b 0
unfolding claimed among
claimed_other v b [] q = λ e. refl
claimed_other v b (x ∷ xs) q =
    by_test (λ t. eqb b x ≡ t → cond t true (among b xs) ≡ false → get_or (set (claimed v xs q) x v) b 0 ≡ get_or q b 0) (eqb b x)
    (λ _ w e. true_not_false refl e)
    (λ _ w e. get_or-set_other (claimed v xs q) x b v 0 (eqb-false b x w) ∙ claimed_other v b xs q e) refl

-- all of some buffers, one by one
all_among : (p : ℕ → Bool) (bs : List ℕ) → all_of p bs ≡ true → (b : ℕ) → among b bs ≡ true → p b ≡ true
unfolding all_of among
all_among p [] a b = λ e. true_not_false e refl
all_among p (x ∷ xs) a b =
    by_test (λ t. eqb b x ≡ t → cond t true (among b xs) ≡ true → p b ≡ true) (eqb b x)
    (λ _ w e. ap p (eqb-true b x w) ∙ and_left (p x) (all_of p xs) a)
    (λ _ w e. all_among p xs (and_right (p x) (all_of p xs) a) b e) refl

among_all : (p : ℕ → Bool) (bs : List ℕ) → ((b : ℕ) → among b bs ≡ true → p b ≡ true) → all_of p bs ≡ true
unfolding all_of among
among_all p [] h = refl
among_all p (x ∷ xs) h =
    and_both (p x) (all_of p xs) (h x (rw (eq-eqb x x refl)))
    (among_all p xs (λ b e. h b (by_test (λ t. cond t true (among b xs) ≡ true) (eqb b x) (λ _. refl) (λ _. e))))

-- the desk after an opening, for the file itself and for another
module _ (f : ℕ) (bs : List ℕ) (d : Desk) where
  opened_own : (g : ℕ) → g ≡ f → opened f bs d g ≡ bs ++ d g
  unfolding opened
  opened_own g e = rw (eq-eqb g f e)

  opened_other : (g : ℕ) → (g ≡ f → ⊥) → opened f bs d g ≡ d g
  unfolding opened
  opened_other g ne = rw (ne_eqb g f ne)

-- file f gets buffer x, which was free
module _ (f x : ℕ) (q : List ℕ) (d d' : Desk) (l : Link q d) (h : x < length q) (z : get_or q x 0 ≡ 0)
    (own : (g b : ℕ) → g ≡ f → among b (d' g) ≡ cond (eqb b x) true (among b (d g))) (other : (g b : ℕ) → (g ≡ f → ⊥) → among b (d' g) ≡ among b (d g)) where
  link_one : Link (set q x (f + 1)) d'
  link_one g b =
      by_test (λ t. eqb g f ≡ t → among b (d' g) ≡ eqb (get_or (set q x (f + 1)) b 0) (g + 1)) (eqb g f)
      (λ _ w. by_test (λ t. eqb b x ≡ t → among b (d' g) ≡ eqb (get_or (set q x (f + 1)) b 0) (g + 1)) (eqb b x)
      (λ _ u. own g b (eqb-true g f w) ∙ rw u (sym (eq-eqb _ _ (here b (eqb-true b x u) ∙ ap (λ (y : ℕ). y + 1) (sym (eqb-true g f w))))))
      (λ _ u. own g b (eqb-true g f w) ∙ rw u (l g b ∙ ap (λ (y : ℕ). eqb y (g + 1)) (sym (there b (eqb-false b x u))))) refl)
      (λ _ w. by_test (λ t. eqb b x ≡ t → among b (d' g) ≡ eqb (get_or (set q x (f + 1)) b 0) (g + 1)) (eqb b x)
      (λ _ u. let no : eqb (get_or (set q x (f + 1)) b 0) (g + 1) ≡ false = ne_eqb (get_or (set q x (f + 1)) b 0) (g + 1) (λ y. eqb-false g f w (omega (arith, here b (eqb-true b x u)))) in
      other g b (eqb-false g f w) ∙ (l g b ∙ (ne_eqb (get_or q b 0) (g + 1) (λ y. omega (arith, empty b (eqb-true b x u))) ∙ sym no)))
      (λ _ u. other g b (eqb-false g f w) ∙ (l g b ∙ ap (λ (y : ℕ). eqb y (g + 1)) (sym (there b (eqb-false b x u))))) refl) refl
    where
      here : (b : ℕ) → b ≡ x → get_or (set q x (f + 1)) b 0 ≡ f + 1
      here b e = ap (λ (y : ℕ). get_or (set q x (f + 1)) y 0) e ∙ get_or-set_same q x (f + 1) 0 h

      there : (b : ℕ) → (b ≡ x → ⊥) → get_or (set q x (f + 1)) b 0 ≡ get_or q b 0
      there b ne = get_or-set_other q x b (f + 1) 0 ne

      empty : (b : ℕ) → b ≡ x → get_or q b 0 ≡ 0
      empty b e = ap (λ (y : ℕ). get_or q y 0) e ∙ z

pub link_claimed : (f : ℕ) (bs q : List ℕ) (d : Desk) → Link q d → all_of (λ b. ltb b (length q)) bs ≡ true → different bs ≡ true → all_of (is_free q) bs ≡ true
    → Link (claimed (f + 1) bs q) (opened f bs d)
unfolding claimed all_of different among
link_claimed f [] q d l h n z = λ g b.
    by_test (λ t. eqb g f ≡ t → among b (opened f [] d g) ≡ eqb (get_or q b 0) (g + 1)) (eqb g f)
    (λ _ w. rw (opened_own f [] d g (eqb-true g f w)) (l g b))
    (λ _ w. rw (opened_other f [] d g (eqb-false g f w)) (l g b)) refl
link_claimed f (x ∷ xs) q d l h n z =
    let alone : (among x xs ≡ false) × (different xs ≡ true) = by_test (λ t. cond t false (different xs) ≡ true → (t ≡ false) × (different xs ≡ true)) (among x xs) (λ _ w. true_not_false w refl) (λ _ w. (refl, w)) n in
    let rest = link_claimed f xs q d l (and_right (ltb x (length q)) (all_of (λ b. ltb b (length q)) xs) h) alone.1 (and_right (is_free q x) (all_of (is_free q) xs) z) in
    let fits : x < length (claimed (f + 1) xs q) = omega (arith, ltb-true x (length q) (and_left (ltb x (length q)) (all_of (λ b. ltb b (length q)) xs) h), length_claimed (f + 1) xs q) in
    let free : get_or (claimed (f + 1) xs q) x 0 ≡ 0 = claimed_other (f + 1) x xs q alone.0 ∙ eqb-true (get_or q x 0) 0 (and_left (is_free q x) (all_of (is_free q) xs) z) in
    link_one f x (claimed (f + 1) xs q) (opened f xs d) (opened f (x ∷ xs) d) rest fits free
    (λ g b e. rw (opened_own f (x ∷ xs) d g e, opened_own f xs d g e))
    (λ g b ne. rw (opened_other f (x ∷ xs) d g ne, opened_other f xs d g ne))

-- ---- a closing

module _ (f : ℕ) (d : Desk) where
  closed_own : (g : ℕ) → g ≡ f → closed f d g ≡ []
  unfolding closed
  closed_own g e = rw (eq-eqb g f e)

  closed_other : (g : ℕ) → (g ≡ f → ⊥) → closed f d g ≡ d g
  unfolding closed
  closed_other g ne = rw (ne_eqb g f ne)

-- an owner that leaves, for the file itself and for another
left_own : (f g y : ℕ) → g ≡ f → eqb (leave (f + 1) y) (g + 1) ≡ false
left_own f g y e =
    by_test (λ t. eqb y (f + 1) ≡ t → eqb (cond t 0 y) (g + 1) ≡ false) (eqb y (f + 1))
    (λ _ w. ne_eqb 0 (g + 1) (λ z. omega arith))
    (λ _ w. ne_eqb y (g + 1) (λ z. eqb-false y (f + 1) w (omega arith))) refl

left_other : (f g y : ℕ) → (g ≡ f → ⊥) → eqb (leave (f + 1) y) (g + 1) ≡ eqb y (g + 1)
left_other f g y ne =
    by_test (λ t. eqb y (f + 1) ≡ t → eqb (cond t 0 y) (g + 1) ≡ eqb y (g + 1)) (eqb y (f + 1))
    (λ _ w. ne_eqb 0 (g + 1) (λ z. omega arith) ∙ sym (ne_eqb y (g + 1) (λ z. ne (omega (arith, eqb-true y (f + 1) w)))))
    (λ _ w. refl) refl

pub link_released : (f : ℕ) (q : List ℕ) (d : Desk) → Link q d → Link (released (f + 1) q) (closed f d)
unfolding among
link_released f q d l g b =
    by_test (λ t. eqb g f ≡ t → among b (closed f d g) ≡ eqb (get_or (released (f + 1) q) b 0) (g + 1)) (eqb g f)
    (λ _ w. rw (closed_own f d g (eqb-true g f w), get_d_released (f + 1) q b) (sym (left_own f g (get_or q b 0) (eqb-true g f w))))
    (λ _ w. rw (closed_other f d g (eqb-false g f w), get_d_released (f + 1) q b) (l g b ∙ sym (left_other f g (get_or q b 0) (eqb-false g f w)))) refl

-- ---- the plain statement, event by event

pub record Fine (size : ℕ) (events rows : List ℕ) (d : Desk) : Type 0 where
  pub whole : length rows ≡ length (openings events)
  pub each : (i : ℕ) → i < length (openings events) → Served size (get_or (openings events) i 0) (get_or rows i 0)
  pub apart : (k : ℕ) → Apart (desk_after k events rows d)

-- no events
stays : (k : ℕ) (rows : List ℕ) (d : Desk) → desk_after k [] rows d ≡ d
unfolding desk_after
stays zero rows d = refl
stays (suc k) rows d = refl

fine_none : (size : ℕ) (rows : List ℕ) (d : Desk) → length rows ≡ 0 → Apart d → Fine size [] rows d
unfolding openings
fine_none size rows d e a = record { whole = e; each = λ i h. absurd (not-suc-le-zero h); apart = λ k. rw (stays k rows d) a }

none_fine : (size : ℕ) (rows : List ℕ) (d : Desk) → Fine size [] rows d → length rows ≡ 0
unfolding openings
none_fine size rows d f = f.whole

-- a closing
module _ (size e : ℕ) (es rows : List ℕ) (d : Desk) (w : opens e ≡ false) where
  same_openings : openings (e ∷ es) ≡ openings es
  unfolding openings
  same_openings = rw w

  desk_closing : (k : ℕ) → desk_after (suc k) (e ∷ es) rows d ≡ desk_after k es rows (closed (file_of e) d)
  unfolding desk_after
  desk_closing k = rw w

  closing_apart : Apart d → ((k : ℕ) → Apart (desk_after k es rows (closed (file_of e) d))) → (k : ℕ) → Apart (desk_after k (e ∷ es) rows d)
  unfolding desk_after
  closing_apart a f zero = a
  closing_apart a f (suc k) = rw w (f k)

  fine_closing : Apart d → Fine size es rows (closed (file_of e) d) → Fine size (e ∷ es) rows d
  fine_closing a f = record { whole = rw same_openings f.whole; each = rw same_openings f.each; apart = closing_apart a f.apart }

  closing_fine : Fine size (e ∷ es) rows d → Fine size es rows (closed (file_of e) d)
  closing_fine f = record { whole = rw same_openings at f.whole; each = rw same_openings at f.each; apart = λ k. rw (desk_closing k) at (f.apart (suc k)) }

-- an opening
module _ (size e : ℕ) (es : List ℕ) (d : Desk) (w : opens e ≡ true) where
  more_openings : openings (e ∷ es) ≡ e ∷ openings es
  unfolding openings
  more_openings = rw w

  opening_none : Fine size (e ∷ es) [] d → ⊥
  opening_none f = let z : 0 ≡ suc (length (openings es)) = rw more_openings at f.whole in omega arith

  module _ (r : ℕ) (rs : List ℕ) where
    desk_opening : (k : ℕ) → desk_after (suc k) (e ∷ es) (r ∷ rs) d ≡ desk_after k es rs (opened (file_of e) (buffers_of r) d)
    unfolding desk_after
    desk_opening k = rw w

    opening_each : Served size e r → ((i : ℕ) → i < length (openings es) → Served size (get_or (openings es) i 0) (get_or rs i 0))
        → (i : ℕ) → i < length (e ∷ openings es) → Served size (get_or (e ∷ openings es) i 0) (get_or (r ∷ rs) i 0)
    opening_each a f zero h = a
    opening_each a f (suc i) h = f i (omega arith)

    opening_apart : Apart d → ((k : ℕ) → Apart (desk_after k es rs (opened (file_of e) (buffers_of r) d))) → (k : ℕ) → Apart (desk_after k (e ∷ es) (r ∷ rs) d)
    unfolding desk_after
    opening_apart a f zero = a
    opening_apart a f (suc k) = rw w (f k)

    fine_opening : Apart d → Served size e r → Fine size es rs (opened (file_of e) (buffers_of r) d) → Fine size (e ∷ es) (r ∷ rs) d
    fine_opening a v f = record {
      whole = rw more_openings (ap suc f.whole);
      each = rw more_openings (opening_each v f.each);
      apart = opening_apart a f.apart;
    }

    opening_served : Fine size (e ∷ es) (r ∷ rs) d → Served size e r
    opening_served f =
        let each : (i : ℕ) → i < length (e ∷ openings es) → Served size (get_or (e ∷ openings es) i 0) (get_or (r ∷ rs) i 0) = rw more_openings at f.each in
        each 0 (omega arith)

    -- at the moment after it
    first_apart : Fine size (e ∷ es) (r ∷ rs) d → Apart (opened (file_of e) (buffers_of r) d)
    unfolding desk_after
    first_apart f = rw w at (f.apart 1)

    opening_fine : Fine size (e ∷ es) (r ∷ rs) d → Fine size es rs (opened (file_of e) (buffers_of r) d)
    opening_fine f =
        let each : (i : ℕ) → i < length (e ∷ openings es) → Served size (get_or (e ∷ openings es) i 0) (get_or (r ∷ rs) i 0) = rw more_openings at f.each in
        let whole : suc (length rs) ≡ suc (length (openings es)) = rw more_openings at f.whole in
        record { whole = omega arith; each = λ i h. each (suc i) (omega arith); apart = λ k. rw (desk_opening k) at (f.apart (suc k)) }

-- ---- what the check accepts is accepted by the statement

fits_served : (size : ℕ) (q : List ℕ) (e row : ℕ) → Fits size q e row → Served size e row
fits_served size q e row f = record {
  file = f.file;
  count = f.count;
  differ = f.differ;
  inside = λ b m. ltb-true b size (all_among (λ b. ltb b size) (buffers_of row) f.inside b m);
}

end_accepted : (s : ℕ) (q : List ℕ) (n : ℕ) (rows : List ℕ) → check_from s q n [] rows ≡ accepted → length rows ≡ 0
unfolding check_from
end_accepted s q n rows a =
    by_test (λ t. eqb (length rows) 0 ≡ t → cond t accepted (Err (Row Openings n)) ≡ accepted → length rows ≡ 0) (eqb (length rows) 0)
    (λ _ w z. eqb-true _ _ w)
    (λ _ w z. absurd (let x : ◌≡◌ {A = ℕ} 0 1 = cc in omega arith)) refl a

below_more : (s t : ℕ) (bs : List ℕ) → s ≤ t → all_of (λ b. ltb b s) bs ≡ true → all_of (λ b. ltb b t) bs ≡ true
below_more s t bs h a = among_all (λ b. ltb b t) bs (λ b m. let l : b < s = ltb-true b s (all_among (λ b. ltb b s) bs a b m) in lt-ltb b t (omega arith))

pub sound : (s : ℕ) (q : List ℕ) (n : ℕ) (events rows : List ℕ) (d : Desk) → s ≤ length q → Link q d → check_from s q n events rows ≡ accepted → Fine s events rows d
sound s q n [] rows d h l a = fine_none s rows d (end_accepted s q n rows a) (link_apart q d l)
sound s q n (e ∷ es) [] d h l a =
    by_test (λ b. opens e ≡ b → Fine s (e ∷ es) [] d) (opens e)
    (λ _ w. absurd (opening_missing s q n e es w a))
    (λ _ w. fine_closing s e es [] d w (link_apart q d l)
    (sound s (released (mark e) q) (n + 0) es [] (closed (file_of e) d) (omega (arith, length_released (mark e) q)) (link_released (file_of e) q d l) (closing_accepted s q n e es [] w a))) refl
sound s q n (e ∷ es) (r ∷ rs) d h l a =
    by_test (λ b. opens e ≡ b → Fine s (e ∷ es) (r ∷ rs) d) (opens e)
    (λ _ w. let f = opening_accepted s q n e es w r rs a in
    fine_opening s e es d w r rs (link_apart q d l) (fits_served s q e r f.0)
    (sound s (claimed (mark e) (buffers_of r) q) (n + 1) es rs (opened (file_of e) (buffers_of r) d) (omega (arith, length_claimed (mark e) (buffers_of r) q))
    (link_claimed (file_of e) (buffers_of r) q d l (below_more s (length q) (buffers_of r) h f.0.inside) f.0.differ f.0.free) f.1))
    (λ _ w. fine_closing s e es (r ∷ rs) d w (link_apart q d l)
    (sound s (released (mark e) q) (n + 0) es (r ∷ rs) (closed (file_of e) d) (omega (arith, length_released (mark e) q)) (link_released (file_of e) q d l) (closing_accepted s q n e es (r ∷ rs) w a))) refl

-- ---- what the statement accepts the check accepts, for a good list

-- a file that is not open holds nothing
abbrev pub Idle : List Bool → Desk → Type 0
Idle flags d = (g : ℕ) → g < 64 → get_or flags g false ≡ false → (b : ℕ) → among b (d g) ≡ false

idle_opened : (e : ℕ) (bs : List ℕ) (flags : List Bool) (d : Desk) → length flags ≡ 64 → opens e ≡ true → Idle flags d → Idle (opened_after flags e) (opened (file_of e) bs d)
unfolding opened_after
idle_opened e bs flags d long w idle g h shut b =
    by_test (λ t. eqb g (file_of e) ≡ t → among b (opened (file_of e) bs d g) ≡ false) (eqb g (file_of e))
    (λ _ u. let yes : get_or (set flags (file_of e) true) g false ≡ true = ap (λ (x : ℕ). get_or (set flags (file_of e) true) x false) (eqb-true g (file_of e) u) ∙ get_or-set_same flags (file_of e) true false (omega arith) in
    true_not_false yes (rw w at shut))
    (λ _ u. rw (opened_other (file_of e) bs d g (eqb-false g (file_of e) u)) (idle g h (sym (get_or-set_other flags (file_of e) g (opens e) false (eqb-false g (file_of e) u)) ∙ shut) b)) refl

idle_closed : (e : ℕ) (flags : List Bool) (d : Desk) → Idle flags d → Idle (opened_after flags e) (closed (file_of e) d)
unfolding opened_after among
idle_closed e flags d idle g h shut b =
    by_test (λ t. eqb g (file_of e) ≡ t → among b (closed (file_of e) d g) ≡ false) (eqb g (file_of e))
    (λ _ u. rw (closed_own (file_of e) d g (eqb-true g (file_of e) u)))
    (λ _ u. rw (closed_other (file_of e) d g (eqb-false g (file_of e) u)) (idle g h (sym (get_or-set_other flags (file_of e) g (opens e) false (eqb-false g (file_of e) u)) ∙ shut) b)) refl

among_left : (b : ℕ) (xs ys : List ℕ) → among b xs ≡ true → among b (xs ++ ys) ≡ true
unfolding among
among_left b [] ys = λ e. true_not_false e refl
among_left b (x ∷ xs) ys =
    by_test (λ t. cond t true (among b xs) ≡ true → cond t true (among b (xs ++ ys)) ≡ true) (eqb b x)
    (λ _ e. refl)
    (λ _ e. among_left b xs ys e)

-- the buffers of an opening are free, if they are apart after it from what the others hold
module _ (q : List ℕ) (d : Desk) (l : Link q d) (f : ℕ) (bs : List ℕ) (idle : (b : ℕ) → among b (d f) ≡ false) (apart : Apart (opened f bs d)) where
  apart_free : all_of (is_free q) bs ≡ true
  apart_free = among_all (is_free q) bs (λ b m. by_test (λ t. eqb (get_or q b 0) 0 ≡ t → eqb (get_or q b 0) 0 ≡ true) (eqb (get_or q b 0) 0) (λ _ w. w) (λ _ w. absurd (taken_by_lem b m (eqb-false (get_or q b 0) 0 w))) refl)
    where
      taken_by_lem : (b : ℕ) → among b bs ≡ true → (get_or q b 0 ≡ 0 → ⊥) → ⊥
      taken_by_lem b m ne =
          let g = get_or q b 0 - 1 in
          let has : among b (d g) ≡ true = l g b ∙ eq-eqb (get_or q b 0) (g + 1) (omega arith) in
          by_test (λ t. eqb g f ≡ t → ⊥) (eqb g f)
          (λ _ w. true_not_false has (ap (λ (x : ℕ). among b (d x)) (eqb-true g f w) ∙ idle b))
          (λ _ w. apart f g b (λ z. eqb-false g f w (sym z))
          (rw (opened_own f bs d f refl) (among_left b bs (d f) m))
          (rw (opened_other f bs d g (eqb-false g f w)) has)) refl

served_fits : (size : ℕ) (q : List ℕ) (e row : ℕ) → Served size e row → all_of (is_free q) (buffers_of row) ≡ true → Fits size q e row
served_fits size q e row v z = record {
  file = v.file;
  count = v.count;
  inside = among_all (λ b. ltb b size) (buffers_of row) (λ b m. lt-ltb b size (v.inside b m));
  differ = v.differ;
  free = z;
}

end_right : (s : ℕ) (q : List ℕ) (n : ℕ) (rows : List ℕ) → length rows ≡ 0 → check_from s q n [] rows ≡ accepted
unfolding check_from
end_right s q n rows e = rw (eq-eqb (length rows) 0 e)

-- an opening of a good list finds its file closed
opening_closed : (flags : List Bool) (m e : ℕ) → opens e ≡ true → wrong_event flags m e ≡ false → get_or flags (file_of e) false ≡ false
unfolding wrong_event
opening_closed flags m e w z = or_left (get_or flags (file_of e) false) (leb file_limit m) (rw w at z)

length_opened : (flags : List Bool) (e : ℕ) → length (opened_after flags e) ≡ length flags
unfolding opened_after
length_opened flags e = length-set flags (file_of e) (opens e)

module _ (s : ℕ) where
  pub complete : (q : List ℕ) (n : ℕ) (events rows : List ℕ) (d : Desk) (flags : List Bool) (m i : ℕ) → s ≤ length q → length flags ≡ 64 → Link q d → Idle flags d
      → is_good (judge_from flags m i events) ≡ true → Fine s events rows d → check_from s q n events rows ≡ accepted
  complete q n [] rows d flags m i h long l idle g f = end_right s q n rows (none_fine s rows d f)
  complete q n (e ∷ es) [] d flags m i h long l idle g f =
      by_test (λ b. opens e ≡ b → check_from s q n (e ∷ es) [] ≡ accepted) (opens e)
      (λ _ w. absurd (opening_none s e es d w f))
      (λ _ w. accepted_closing s q n e es [] w
      (complete (released (mark e) q) (n + 0) es [] (closed (file_of e) d) (opened_after flags e) (m + used e) (i + 1) (omega (arith, length_released (mark e) q)) (length_opened flags e ∙ long)
      (link_released (file_of e) q d l) (idle_closed e flags d idle) (good_from flags m i e es g).1 (closing_fine s e es [] d w f))) refl
  complete q n (e ∷ es) (r ∷ rs) d flags m i h long l idle g f =
      by_test (λ b. opens e ≡ b → check_from s q n (e ∷ es) (r ∷ rs) ≡ accepted) (opens e)
      (λ _ w. let shut : get_or flags (file_of e) false ≡ false = opening_closed flags m e w (good_from flags m i e es g).0 in
      let z : all_of (is_free q) (buffers_of r) ≡ true = apart_free q d l (file_of e) (buffers_of r) (idle (file_of e) (omega arith) shut) (first_apart s e es d w r rs f) in
      let fits : Fits s q e r = served_fits s q e r (opening_served s e es d w r rs f) z in
      accepted_opening s q n e es w r rs fits
      (complete (claimed (mark e) (buffers_of r) q) (n + 1) es rs (opened (file_of e) (buffers_of r) d) (opened_after flags e) (m + used e) (i + 1) (omega (arith, length_claimed (mark e) (buffers_of r) q)) (length_opened flags e ∙ long)
      (link_claimed (file_of e) (buffers_of r) q d l (below_more s (length q) (buffers_of r) h fits.inside) fits.differ z) (idle_opened e (buffers_of r) flags d long w idle) (good_from flags m i e es g).1 (opening_fine s e es d w r rs f)))
      (λ _ w. accepted_closing s q n e es (r ∷ rs) w
      (complete (released (mark e) q) (n + 0) es (r ∷ rs) (closed (file_of e) d) (opened_after flags e) (m + used e) (i + 1) (omega (arith, length_released (mark e) q)) (length_opened flags e ∙ long)
      (link_released (file_of e) q d l) (idle_closed e flags d idle) (good_from flags m i e es g).1 (closing_fine s e es (r ∷ rs) d w f))) refl
