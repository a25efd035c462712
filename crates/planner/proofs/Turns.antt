-- One turn of each walk over a list, at index i, and its end. Assumes nothing.
use mathlib.Core.Path.{◌≡◌, refl, sym, ◌∙◌}
use mathlib.Core.Bool.{Bool, true, false, cond, ◌&&◌}
use mathlib.Core.List.{List, [], ◌∷◌, ◌++◌, append_assoc}
use Prim.Native.Nat.{ℕ, suc, ◌+◌, ◌≤◌, ◌<◌, max}
use native.Mathlib.Nat.{add-zero}
use native.Mathlib.Numerals.{add-one}
use native.Mathlib.Omega.{arith}
use borrow.Author.Tests.{leb-false, le-leb, lt-leb, eq-eqb, ne_eqb}
use lib.Dec.{eqb, leb}
use lib.ListN.{length, get_or, take, drop, set, replicate, drop_of_length-le, length-drop}
use lib.Seq.{drop-cons, drop-drop, get_or-drop, take-suc-set, take-set-le}
use Rattle.area.specs.Lists.{count_of}
use Rattle.area.proofs.Marks.{cond_true, cond_false}
use Rattle.area.proofs.Walks.{by_test, true_not_false, or_right}
use Rattle.std.proofs.Common.{Ok, Err, is_err}
use Rattle.planner.specs.declared.ListFault.TheVariants.{Limit, Event}
use Rattle.planner.specs.declared.Fault.{Fault}
use Rattle.planner.specs.declared.Fault.TheVariants.{Openings}
use Rattle.planner.specs.declared.Rejection.TheVariants.{BadList, Size, Row}
use Rattle.planner.specs.Events.{file_limit, file_of, opens, limit_fits, wrong_event, opened_after, Judged, judge_from, judge_of, is_good}
use Rattle.planner.specs.Rows.{buffers_of}
use Rattle.planner.specs.Walk.{Verdict, accepted, nobody, mark, claimed, released, row_fault, used, event_fault, owners_next, check_from, check_of}
use Rattle.planner.specs.Greedy.{first_free, owners_after, row_of, wants, size_from, rows_from, plan_refusal, plan_size, plan_rows}

-- ---- the judgement

module _ (events : List ℕ) (i : ℕ) (h : i < length events) (opened : List Bool) (n : ℕ) where
  pub judge_stop : wrong_event opened n (get_or events i 0) ≡ true → judge_from opened n i (drop i events) ≡ Err (Event i)
  unfolding judge_from
  judge_stop e = rw (drop-cons events i 0 h, e)

  pub judge_go : wrong_event opened n (get_or events i 0) ≡ false
      → judge_from opened n i (drop i events) ≡ judge_from (opened_after opened (get_or events i 0)) (n + used (get_or events i 0)) (i + 1) (drop (i + 1) events)
  unfolding judge_from
  judge_go e = rw (drop-cons events i 0 h, e, add-one i)

pub judge_end : (events : List ℕ) (i : ℕ) → length events ≤ i → (opened : List Bool) (n : ℕ) → judge_from opened n i (drop i events) ≡ Ok tt
unfolding judge_from
judge_end events i h opened n = rw (drop_of_length-le events h)

-- ---- the check

module _ (events : List ℕ) (i : ℕ) (h : i < length events) (size : ℕ) (q : List ℕ) (n : ℕ) (rows : List ℕ) where
  pub check_stop : (f : Fault) → event_fault size q (get_or events i 0) rows ≡ Err f → check_from size q n (drop i events) rows ≡ Err (Row f n)
  unfolding check_from
  check_stop f e = rw (drop-cons events i 0 h, e)

  pub check_go : event_fault size q (get_or events i 0) rows ≡ Ok tt
      → check_from size q n (drop i events) rows
      ≡ check_from size (owners_next (get_or events i 0) rows q) (n + used (get_or events i 0)) (drop (i + 1) events) (drop (used (get_or events i 0)) rows)
  unfolding check_from
  check_go e = rw (add-one, drop-cons events i 0 h, e)

pub check_end : (events : List ℕ) (i : ℕ) → length events ≤ i → (size : ℕ) (q : List ℕ) (n : ℕ) (rows : List ℕ)
    → check_from size q n (drop i events) rows ≡ cond (eqb (length rows) 0) accepted (Err (Row Openings n))
unfolding check_from
check_end events i h size q n rows = rw (drop_of_length-le events h)

-- ---- the planner

module _ (events : List ℕ) (i : ℕ) (h : i < length events) (o : List ℕ) where
  pub size_go : size_from o (drop i events) ≡ max (wants (get_or events i 0) o) (size_from (owners_after (get_or events i 0) o) (drop (i + 1) events))
  unfolding size_from
  size_go = rw (add-one, drop-cons events i 0 h)

  rows_go : rows_from o (drop i events)
      ≡ cond (opens (get_or events i 0)) (row_of (get_or events i 0) o ∷ rows_from (owners_after (get_or events i 0) o) (drop (i + 1) events)) (rows_from (owners_after (get_or events i 0) o) (drop (i + 1) events))
  unfolding rows_from
  rows_go = rw (add-one, drop-cons events i 0 h)

  -- the row goes to place n, also of a closing, which then does not count it
  pub rows_put : (rows : List ℕ) (n : ℕ) → n + used (get_or events i 0) ≤ length rows
      → take (n + used (get_or events i 0)) (set rows n (row_of (get_or events i 0) o)) ++ rows_from (owners_after (get_or events i 0) o) (drop (i + 1) events)
      ≡ take n rows ++ rows_from o (drop i events)
  rows_put rows n = rw rows_go (put (opens (get_or events i 0)))
    where
      put : (b : Bool) → n + cond b 1 0 ≤ length rows
          → take (n + cond b 1 0) (set rows n (row_of (get_or events i 0) o)) ++ rows_from (owners_after (get_or events i 0) o) (drop (i + 1) events)
          ≡ take n rows ++ cond b (row_of (get_or events i 0) o ∷ rows_from (owners_after (get_or events i 0) o) (drop (i + 1) events)) (rows_from (owners_after (get_or events i 0) o) (drop (i + 1) events))
      put true room =
          let here : n < length rows = omega arith in
          rw (add-one n, take-suc-set rows n (row_of (get_or events i 0) o) here, append_assoc)
      put false room = rw (add-zero n, take-set-le n rows n (row_of (get_or events i 0) o) (omega arith))

pub size_end : (events : List ℕ) (i : ℕ) → length events ≤ i → (o : List ℕ) → size_from o (drop i events) ≡ 1
unfolding size_from
size_end events i h o = rw (drop_of_length-le events h)

pub rows_end : (events : List ℕ) (i : ℕ) → length events ≤ i → (o : List ℕ) → rows_from o (drop i events) ≡ []
unfolding rows_from
rows_end events i h o = rw (drop_of_length-le events h)

-- ---- the lowest free buffer

module _ (owner : List ℕ) (i : ℕ) where
  pub free_stop : i < length owner → get_or owner i 0 ≡ 0 → first_free (drop i owner) ≡ 0
  unfolding first_free
  free_stop h e = rw (drop-cons owner i 0 h, e)

  pub free_go : i < length owner → eqb (get_or owner i 0) 0 ≡ false → first_free (drop i owner) ≡ suc (first_free (drop (i + 1) owner))
  unfolding first_free
  free_go h e = rw (add-one, drop-cons owner i 0 h, e)

  pub free_end : length owner ≤ i → first_free (drop i owner) ≡ 0
  unfolding first_free
  free_end h = rw (drop_of_length-le owner h)

-- ---- the check: one event, and the end, with the rows from row n on

module _ (size : ℕ) (q : List ℕ) (e : ℕ) where
  pub fault_closing : (rows : List ℕ) → opens e ≡ false → Ok tt ≡ event_fault size q e rows
  unfolding event_fault
  fault_closing rows w = rw w

  module _ (rows : List ℕ) (n : ℕ) (w : opens e ≡ true) where
    pub fault_missing : length rows ≤ n → Err Openings ≡ event_fault size q e (drop n rows)
    unfolding event_fault
    fault_missing h = rw (w, drop_of_length-le rows h)

    pub fault_row : n < length rows → row_fault size q e (get_or rows n 0) ≡ event_fault size q e (drop n rows)
    unfolding event_fault
    fault_row h =
        let some : eqb (length (drop n rows)) 0 ≡ false = ne_eqb (length (drop n rows)) 0 (λ z. omega (arith, length-drop n rows)) in
        rw (w, some, get_or-drop n rows 0 0, add-zero n)

module _ (q : List ℕ) (e v : ℕ) (own : v ≡ mark e) where
  pub next_closing : (rows : List ℕ) → opens e ≡ false → released v q ≡ owners_next e rows q
  unfolding owners_next
  next_closing rows w = rw (w, own)

  module _ (rows : List ℕ) (n : ℕ) (w : opens e ≡ true) where
    pub next_missing : length rows ≤ n → claimed v (buffers_of 0) q ≡ owners_next e (drop n rows) q
    unfolding owners_next
    next_missing h = rw (w, own, drop_of_length-le rows h)

    pub next_row : claimed v (buffers_of (get_or rows n 0)) q ≡ owners_next e (drop n rows) q
    unfolding owners_next
    next_row = rw (w, own, get_or-drop n rows 0 0, add-zero n)

module _ (events : List ℕ) (i size : ℕ) (q : List ℕ) (n : ℕ) (rows : List ℕ) (whole : Verdict) (inv : check_from size q n (drop i events) (drop n rows) ≡ whole) where
  pub check_fault : (f : Fault) → i < length events → event_fault size q (get_or events i 0) (drop n rows) ≡ Err f → Err (Row f n) ≡ whole
  check_fault f h e = sym (check_stop events i h size q n (drop n rows) f e) ∙ inv

  pub check_turn : (n' : ℕ) (q' : List ℕ) → i < length events → event_fault size q (get_or events i 0) (drop n rows) ≡ Ok tt
      → q' ≡ owners_next (get_or events i 0) (drop n rows) q → n' ≡ n + used (get_or events i 0)
      → check_from size q' n' (drop (i + 1) events) (drop n' rows) ≡ whole
  check_turn n' q' h e own next =
      rw (own, next, ← drop-drop (used (get_or events i 0)) n rows) (sym (check_go events i h size q n (drop n rows) e) ∙ inv)

  pub check_left : length events ≤ i → n < length rows → Err (Row Openings n) ≡ whole
  check_left h l =
      let some : eqb (length (drop n rows)) 0 ≡ false = ne_eqb (length (drop n rows)) 0 (λ z. omega (arith, length-drop n rows)) in
      sym (cond_false accepted (Err (Row Openings n)) some) ∙ (sym (check_end events i h size q n (drop n rows)) ∙ inv)

  pub check_done : length events ≤ i → length rows ≤ n → accepted ≡ whole
  check_done h l =
      let none : eqb (length (drop n rows)) 0 ≡ true = eq-eqb (length (drop n rows)) 0 (omega (arith, length-drop n rows)) in
      sym (cond_true accepted (Err (Row Openings n)) none) ∙ (sym (check_end events i h size q n (drop n rows)) ∙ inv)

-- ---- the verdict and the plan, case by case

-- the planner's answer is the one that the definitions give
pub record Planned (limit : ℕ) (events : List ℕ) (refusal size : ℕ) (rows : List ℕ) : Type 0 where
  pub refused : refusal ≡ plan_refusal limit events
  pub sized : size ≡ plan_size limit events
  pub served : rows ≡ plan_rows limit events

-- the list is good, and a fault of it
pub list_good : (j w : Judged) → j ≡ w → is_err j ≡ false → is_good w ≡ true
list_good (Ok t) w e n = rw (← e) refl
list_good (Err fault) w e n = absurd (cc)

pub list_bad : (j w : Judged) → j ≡ w → is_err j ≡ true → is_good w ≡ false
list_bad (Ok t) w e n = absurd (cc)
list_bad (Err fault) w e n = rw (← e) refl

module _ (limit : ℕ) (events : List ℕ) (size : ℕ) (rows : List ℕ) where
  pub verdict_refused : is_good (judge_of limit events) ≡ false → Err BadList ≡ check_of limit events size rows
  unfolding check_of
  verdict_refused g = rw g

  pub verdict_sized : is_good (judge_of limit events) ≡ true → (leb 1 size && leb size limit) ≡ true → check_from size nobody 0 events rows ≡ check_of limit events size rows
  unfolding check_of
  verdict_sized g s = rw (g, s)

  pub verdict_size : is_good (judge_of limit events) ≡ true → (leb 1 size && leb size limit) ≡ false → Err Size ≡ check_of limit events size rows
  unfolding check_of
  verdict_size g s = rw (g, s)

module _ (limit : ℕ) (events : List ℕ) where
  pub plan_refused : is_good (judge_of limit events) ≡ false → Planned limit events 1 0 []
  unfolding plan_refusal plan_size plan_rows
  plan_refused g = record { refused = rw g; sized = rw g; served = rw g }

  pub plan_wanting : is_good (judge_of limit events) ≡ true → limit < size_from nobody events → Planned limit events 19 0 []
  unfolding plan_refusal plan_size plan_rows
  plan_wanting g l =
      let no : leb (size_from nobody events) limit ≡ false = lt-leb (size_from nobody events) limit l in
      record { refused = rw (g, no); sized = rw (g, no); served = rw (g, no) }

  pub plan_proposed : is_good (judge_of limit events) ≡ true → size_from nobody events ≤ limit → Planned limit events 0 (size_from nobody events) (rows_from nobody events)
  unfolding plan_refusal plan_size plan_rows
  plan_proposed g l =
      let yes : leb (size_from nobody events) limit ≡ true = le-leb (size_from nobody events) limit l in
      record { refused = rw (g, yes); sized = rw (g, yes); served = rw (g, yes) }

-- the size is at least 1
pub size_one : (o events : List ℕ) → 1 ≤ size_from o events
unfolding size_from
size_one o [] = omega arith
size_one o (e ∷ es) = omega (arith, size_one (owners_after e o) es)

-- ---- a good list has at most 64 openings

pub good_from : (opened : List Bool) (n i e : ℕ) (es : List ℕ) → is_good (judge_from opened n i (e ∷ es)) ≡ true
    → (wrong_event opened n e ≡ false) × (is_good (judge_from (opened_after opened e) (n + used e) (i + 1) es) ≡ true)
unfolding judge_from
good_from opened n i e es g =
    by_test (λ b. is_good (cond b (Err (Event i)) (judge_from (opened_after opened e) (n + used e) (i + 1) es)) ≡ true → (b ≡ false) × (is_good (judge_from (opened_after opened e) (n + used e) (i + 1) es) ≡ true))
    (wrong_event opened n e)
    (λ _ w. true_not_false w refl)
    (λ _ w. (refl, w)) g

pub openings_fit : (opened : List Bool) (n i : ℕ) (events : List ℕ) → n ≤ 64 → is_good (judge_from opened n i events) ≡ true → n + count_of opens events ≤ 64
unfolding count_of wrong_event
openings_fit opened n i [] h g = omega arith
openings_fit opened n i (e ∷ es) h g =
    by_test (λ b. opens e ≡ b → n + (cond (opens e) 1 0 + count_of opens es) ≤ 64) (opens e)
    (λ _ w. let room : leb file_limit n ≡ false = or_right (get_or opened (file_of e) false) (leb file_limit n) (rw w at (good_from opened n i e es g).0) in
    let rest : n + used e + count_of opens es ≤ 64 = openings_fit (opened_after opened e) (n + used e) (i + 1) es (rw w (omega (arith, leb-false file_limit n room))) (good_from opened n i e es g).1 in
    omega arith)
    (λ _ w. let rest : n + used e + count_of opens es ≤ 64 = openings_fit (opened_after opened e) (n + used e) (i + 1) es (rw w (omega arith)) (good_from opened n i e es g).1 in
    omega arith) refl

pub list_fits : (limit : ℕ) (events : List ℕ) → is_good (judge_of limit events) ≡ true → count_of opens events ≤ 64
unfolding judge_of
list_fits limit events g =
    by_test (λ b. is_good (cond b (judge_from (replicate file_limit false) 0 0 events) (Err Limit)) ≡ true → count_of opens events ≤ 64) (limit_fits limit)
    (λ _ w. omega (arith, openings_fit (replicate file_limit false) 0 0 events (omega arith) w))
    (λ _ w. true_not_false w refl) g

-- ---- the judgement, as its loop meets it

module _ (limit : ℕ) (events : List ℕ) where
  pub judge_limit : limit_fits limit ≡ false → Err Limit ≡ judge_of limit events
  unfolding judge_of
  judge_limit w = rw w

  pub judge_first : limit_fits limit ≡ true → judge_from (replicate file_limit false) 0 0 events ≡ judge_of limit events
  unfolding judge_of
  judge_first w = rw w

module _ (events : List ℕ) (opened : List Bool) (n i : ℕ) (whole : Judged) (inv : judge_from opened n i (drop i events) ≡ whole) where
  pub judge_fault : i < length events → wrong_event opened n (get_or events i 0) ≡ true → Err (Event i) ≡ whole
  judge_fault h w = sym (judge_stop events i h opened n w) ∙ inv

  pub judge_turn_lem : (opened' : List Bool) (n' : ℕ) → i < length events → wrong_event opened n (get_or events i 0) ≡ false
      → opened' ≡ opened_after opened (get_or events i 0) → n' ≡ n + used (get_or events i 0)
      → judge_from opened' n' (i + 1) (drop (i + 1) events) ≡ whole
  judge_turn_lem opened' n' h w own next = rw (own, next) (sym (judge_go events i h opened n w) ∙ inv)
