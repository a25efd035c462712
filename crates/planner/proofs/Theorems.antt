-- What M-111 asks, as theorems over the definitions that the contracts cite. Assumes nothing.
use mathlib.Core.Path.{◌≡◌, refl, sym, ap, ◌∙◌}
use mathlib.Core.Bool.{true, false, cond, ◌&&◌}
use mathlib.Core.List.{List}
use Prim.Native.Nat.{ℕ, ◌+◌, ◌≤◌, ◌<◌}
use native.Mathlib.Omega.{arith}
use borrow.Author.Tests.{leb-true, leb-false, le-leb, lt-leb, eq-eqb, ne_eqb}
use lib.Dec.{leb, eqb}
use lib.ListN.{get_or, replicate, get_or-replicate, get_or-eq_default}
use Rattle.area.proofs.Walks.{by_test, true_not_false, and_left, and_right, and_both}
use Rattle.std.proofs.Common.{Err}
use Rattle.planner.specs.declared.Rejection.TheVariants.{BadList, Size}
use Rattle.planner.specs.declared.ListFault.TheVariants.{Limit}
use Rattle.planner.specs.Events.{file_limit, limit_fits, judge_from, judge_of, is_good}
use Rattle.planner.specs.Rows.{among}
use Rattle.planner.specs.Acceptable.{none_open, Acceptable}
use Rattle.planner.specs.Walk.{Verdict, accepted, nobody, check_of}
use Rattle.planner.specs.Greedy.{size_from, rows_from, plan_refusal, plan_size, plan_rows}
use Rattle.planner.proofs.Turns.{size_one, verdict_refused, verdict_sized, verdict_size}
use Rattle.planner.proofs.Smallest.{Twin, smallest, own}
use Rattle.planner.proofs.Exact.{Link, Idle, Fine, sound, complete}

-- ---- at first no buffer serves anybody, and no file holds any

nobody_owns : (b : ℕ) → get_or nobody b 0 ≡ 0
nobody_owns b =
    by_test (λ t. leb 64 b ≡ t → get_or nobody b 0 ≡ 0) (leb 64 b)
    (λ _ w. get_or-eq_default nobody 0 {n = b} (leb-true 64 b w))
    (λ _ w. get_or-replicate 64 b 0 0 (leb-false 64 b w)) refl

link_first : Link nobody none_open
unfolding among
link_first f b = sym (ap (λ (x : ℕ). eqb x (f + 1)) (nobody_owns b) ∙ ne_eqb 0 (f + 1) (λ z. omega arith))

idle_first : Idle (replicate file_limit false) none_open
unfolding among
idle_first g h shut b = refl

-- ---- a good list has a limit of 1 to 64

module _ (limit : ℕ) (events : List ℕ) (good : is_good (judge_of limit events) ≡ true) where
  good_limit : limit_fits limit ≡ true
  unfolding judge_of
  good_limit =
      by_test (λ b. is_good (cond b (judge_from (replicate file_limit false) 0 0 events) (Err Limit)) ≡ true → b ≡ true) (limit_fits limit)
      (λ _ w. refl)
      (λ _ w. true_not_false w refl) good

  good_events : is_good (judge_from (replicate file_limit false) 0 0 events) ≡ true
  unfolding judge_of
  good_events = rw good_limit at good

  most : limit ≤ 64
  most = leb-true limit 64 (and_right (leb 1 limit) (leb limit 64) good_limit)

  -- ---- "A separate check accepts a proposal only if .., whoever proposed it; it accepts every such one."

  pub accepted_only : (size : ℕ) (rows : List ℕ) → check_of limit events size rows ≡ accepted → Acceptable limit events size rows
  accepted_only size rows a =
      by_test (λ b. (leb 1 size && leb size limit) ≡ b → Acceptable limit events size rows) (leb 1 size && leb size limit)
      (λ _ w. let low : 1 ≤ size = leb-true 1 size (and_left (leb 1 size) (leb size limit) w) in
      let high : size ≤ limit = leb-true size limit (and_right (leb 1 size) (leb size limit) w) in
      let f = sound size nobody 0 events rows none_open (omega (arith, most)) link_first (verdict_sized limit events size rows good w ∙ a) in
      record { least = low; most = high; whole = f.whole; each = f.each; apart = f.apart })
      (λ _ w. absurd (let z : ◌≡◌ {A = Verdict} (Err Size) accepted = verdict_size limit events size rows good w ∙ a in cc)) refl

  pub accepted_every : (size : ℕ) (rows : List ℕ) → Acceptable limit events size rows → check_of limit events size rows ≡ accepted
  accepted_every size rows p =
      let w : (leb 1 size && leb size limit) ≡ true = and_both (leb 1 size) (leb size limit) (le-leb 1 size p.least) (le-leb size limit p.most) in
      let f : Fine size events rows none_open = record { whole = p.whole; each = p.each; apart = p.apart } in
      sym (verdict_sized limit events size rows good w)
      ∙ complete size nobody 0 events rows none_open (replicate file_limit false) 0 0 (omega (arith, p.most, most)) refl link_first idle_first good_events f

  -- ---- "The planner's own size is the smallest that any accepted proposal can have"

  no_smaller : (size : ℕ) (rows : List ℕ) → Acceptable limit events size rows → size_from nobody events ≤ size
  no_smaller size rows p =
      let w : (leb 1 size && leb size limit) ≡ true = and_both (leb 1 size) (leb size limit) (le-leb 1 size p.least) (le-leb size limit p.most) in
      let first : Twin size nobody nobody = record { same = λ t. refl; within = λ b l. nobody_owns b; longo = refl; longq = refl; small = omega (arith, p.most, most) } in
      smallest size nobody nobody 0 events rows p.least first (verdict_sized limit events size rows good w ∙ accepted_every size rows p)

  fits_itself : size_from nobody events ≤ limit → check_of limit events (size_from nobody events) (rows_from nobody events) ≡ accepted
  fits_itself h =
      let w : (leb 1 (size_from nobody events) && leb (size_from nobody events) limit) ≡ true = and_both (leb 1 (size_from nobody events)) (leb (size_from nobody events) limit) (le-leb 1 (size_from nobody events) (size_one nobody events)) (le-leb (size_from nobody events) limit h) in
      sym (verdict_sized limit events (size_from nobody events) (rows_from nobody events) good w)
      ∙ own (size_from nobody events) nobody 0 events refl (omega (arith, most)) (omega arith)

  -- ---- the refusal of a good list: 0 or 19, by its size

  refusal_fits : size_from nobody events ≤ limit → plan_refusal limit events ≡ 0
  unfolding plan_refusal
  refusal_fits h = rw (good, le-leb (size_from nobody events) limit h)

  refusal_wants : limit < size_from nobody events → plan_refusal limit events ≡ 19
  unfolding plan_refusal
  refusal_wants h = rw (good, lt-leb (size_from nobody events) limit h)

  by_size : (P : Type 0) → (size_from nobody events ≤ limit → P) → (limit < size_from nobody events → P) → P
  by_size P yes-so no-so =
      by_test (λ b. leb (size_from nobody events) limit ≡ b → P) (leb (size_from nobody events) limit)
      (λ _ w. yes-so (leb-true (size_from nobody events) limit w))
      (λ _ w. no-so (leb-false (size_from nobody events) limit w)) refl

  -- ---- "or a refusal 19 exactly if no proposal within the limit would be accepted"

  pub refused_19_none : plan_refusal limit events ≡ 19 → (size : ℕ) (rows : List ℕ) → check_of limit events size rows ≡ accepted → ⊥
  refused_19_none r size rows a =
      let p = accepted_only size rows a in
      by_size ⊥ (λ h. omega (arith, refusal_fits h)) (λ h. omega (arith, no_smaller size rows p, p.most))

  pub none_refused_19 : ((size : ℕ) (rows : List ℕ) → check_of limit events size rows ≡ accepted → ⊥) → plan_refusal limit events ≡ 19
  none_refused_19 none = by_size (plan_refusal limit events ≡ 19) (λ h. absurd (none _ _ (fits_itself h))) refusal_wants

-- ---- the same of the planner's answer

module _ (limit : ℕ) (events : List ℕ) where
  -- 1 exactly for a list at fault: then the check refuses too, whatever is proposed
  pub refused_1 : is_good (judge_of limit events) ≡ false → plan_refusal limit events ≡ 1
  unfolding plan_refusal
  refused_1 g = rw g

  pub refused_1_only : plan_refusal limit events ≡ 1 → is_good (judge_of limit events) ≡ false
  refused_1_only r =
      by_test (λ b. is_good (judge_of limit events) ≡ b → is_good (judge_of limit events) ≡ false) (is_good (judge_of limit events))
      (λ _ g. by_size limit events g _ (λ h. absurd (omega (arith, refusal_fits limit events g h))) (λ h. absurd (omega (arith, refusal_wants limit events g h))))
      (λ _ g. g) refl

  -- 19 only for a good list
  pub refused_19_good : plan_refusal limit events ≡ 19 → is_good (judge_of limit events) ≡ true
  refused_19_good r =
      by_test (λ b. is_good (judge_of limit events) ≡ b → is_good (judge_of limit events) ≡ true) (is_good (judge_of limit events))
      (λ _ g. g)
      (λ _ g. absurd (omega (arith, refused_1 g))) refl

  pub check_refused : is_good (judge_of limit events) ≡ false → (size : ℕ) (rows : List ℕ) → check_of limit events size rows ≡ Err BadList
  check_refused g size rows = sym (verdict_refused limit events size rows g)

  -- what is proposed is the proposal of the walk, of a good list, within the limit
  module _ (r : plan_refusal limit events ≡ 0) where
    proposed_good : is_good (judge_of limit events) ≡ true
    proposed_good =
        by_test (λ b. is_good (judge_of limit events) ≡ b → is_good (judge_of limit events) ≡ true) (is_good (judge_of limit events))
        (λ _ g. g)
        (λ _ g. absurd (omega (arith, refused_1 g))) refl

    proposed_size : plan_size limit events ≡ size_from nobody events
    unfolding plan_size
    proposed_size = rw (eq-eqb (plan_refusal limit events) 0 r)

    proposed_rows : plan_rows limit events ≡ rows_from nobody events
    unfolding plan_rows
    proposed_rows = rw (eq-eqb (plan_refusal limit events) 0 r)

    proposed_fits : size_from nobody events ≤ limit
    proposed_fits = by_size limit events proposed_good (size_from nobody events ≤ limit) (λ h. h) (λ h. absurd (omega (arith, refusal_wants limit events proposed_good h)))

    -- the check accepts it
    pub plan_accepted : check_of limit events (plan_size limit events) (plan_rows limit events) ≡ accepted
    plan_accepted = rw (proposed_size, proposed_rows) (fits_itself limit events proposed_good proposed_fits)

    -- and no accepted proposal has a smaller size
    pub plan_smallest : (size : ℕ) (rows : List ℕ) → check_of limit events size rows ≡ accepted → plan_size limit events ≤ size
    plan_smallest size rows a = rw proposed_size (no_smaller limit events proposed_good size rows (accepted_only limit events proposed_good size rows a))
