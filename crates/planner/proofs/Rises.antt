-- The planner's own steps: an event case by case, one turn of its loop, and its answer. Assumes nothing.
use mathlib.Core.Path.{◌≡◌, refl, sym, ap, ◌∙◌}
use mathlib.Core.Bool.{true, false}
use mathlib.Core.List.{List, [], ◌++◌, append-nil}
use Prim.Native.Nat.{ℕ, ◌+◌, ◌*◌, ◌≤◌, ◌<◌, max}
use native.Mathlib.Omega.{arith}
use borrow.Author.Tests.{lt-ltb, le-ltb}
use lib.ListN.{length, get_or, take, drop, set}
use Rattle.area.specs.Lists.{count_of}
use Rattle.area.proofs.Walks.{count_step}
use Rattle.planner.specs.declared.Proposal.{Proposal}
use Rattle.planner.specs.Events.{file_of, opens, judge_of, is_good}
use Rattle.planner.specs.Walk.{nobody, released, used}
use Rattle.planner.specs.Greedy.{first_free, taken, owners_after, row_of, wants, size_from, rows_from, plan_refusal, plan_size, plan_rows, Made}
use Rattle.planner.proofs.Turns.{size_go, size_end, size_one, rows_put, rows_end, Planned, plan_wanting, plan_proposed}

-- ---- an event, case by case

module _ (o : List ℕ) (e : ℕ) where
  module _ (f : ℕ) (own : f ≡ file_of e) where
    pub after_closing : opens e ≡ false → released (f + 1) o ≡ owners_after e o
    unfolding owners_after
    after_closing w = rw (w, own)

    pub after_single : e < 64 → taken (f + 1) o ≡ owners_after e o
    unfolding owners_after
    after_single h =
        let w : opens e ≡ true = lt-ltb e 128 (omega arith) in
        rw (w, lt-ltb e 64 h, own)

    pub after_double : opens e ≡ true → 64 ≤ e → taken (f + 1) (taken (f + 1) o) ≡ owners_after e o
    unfolding owners_after
    after_double w h = rw (w, le-ltb e 64 h, own)

    pub row_single : (a : ℕ) → a ≡ first_free o → e < 64 → 16777216 + f * 65536 + a ≡ row_of e o
    unfolding row_of
    row_single a p h = rw (lt-ltb e 64 h, own, p)

    pub row_double : (a b : ℕ) → a ≡ first_free o → b ≡ first_free (taken (f + 1) o) → 64 ≤ e → 33554432 + f * 65536 + b * 256 + a ≡ row_of e o
    unfolding row_of
    row_double a b p q h = rw (le-ltb e 64 h, q, own, p)

    pub wants_double : (a b : ℕ) → a ≡ first_free o → b ≡ first_free (taken (f + 1) o) → opens e ≡ true → 64 ≤ e → max (a + 1) (b + 1) ≡ wants e o
    unfolding wants
    wants_double a b p q w h = rw (w, le-ltb e 64 h, q, own, p)

  pub wants_closing : opens e ≡ false → 0 ≡ wants e o
  unfolding wants
  wants_closing w = rw w

  pub wants_single : (a : ℕ) → a ≡ first_free o → e < 64 → a + 1 ≡ wants e o
  unfolding wants
  wants_single a p h =
      let w : opens e ≡ true = lt-ltb e 128 (omega arith) in
      rw (w, lt-ltb e 64 h, p)

-- ---- the loop: what is made so far, with what is left, is the whole

pub record Upto (events o rows : List ℕ) (size n i : ℕ) : Type 0 where
  pub room : n + count_of opens (drop i events) ≤ 64
  pub some : 1 ≤ size
  pub sized : max size (size_from o (drop i events)) ≡ size_from nobody events
  pub served : take n rows ++ rows_from o (drop i events) ≡ rows_from nobody events

pub upto_start : (events rows : List ℕ) → count_of opens events ≤ 64 → Upto events nobody rows 1 0 0
upto_start events rows h =
    record { room = omega arith; some = omega arith; sized = omega (arith, size_one nobody events); served = refl }

module _ (events o rows : List ℕ) (size n i : ℕ) (u : Upto events o rows size n i) where
  pub upto_turn : (size' n' : ℕ) (rows' o' : List ℕ) → i < length events → length rows ≡ 64
      → size' ≡ max size (wants (get_or events i 0) o) → rows' ≡ set rows n (row_of (get_or events i 0) o)
      → o' ≡ owners_after (get_or events i 0) o → n' ≡ n + used (get_or events i 0)
      → Upto events o' rows' size' n' (i + 1)
  upto_turn size' n' rows' o' h long s r p m =
      let left : count_of opens (drop i events) ≡ used (get_or events i 0) + count_of opens (drop (i + 1) events) = count_step opens events 0 i h in
      let fits : n + used (get_or events i 0) ≤ length rows = omega (arith, u.room) in
      record {
        room = omega (arith, u.room);
        some = omega (arith, u.some);
        sized = rw (p, s) (omega (arith, u.sized, size_go events i h o));
        served = rw (p, r, m) (rows_put events i h o rows n fits ∙ u.served);
      }

  pub upto_end : length events ≤ i → Made events size (take n rows)
  upto_end h = record {
    sized = omega (arith, u.some, u.sized, size_end events i h o);
    served = sym (append-nil (take n rows)) ∙ (ap (λ (l : List ℕ). take n rows ++ l) (sym (rows_end events i h o)) ∙ u.served);
  }

-- ---- the answer

module _ (limit : ℕ) (events : List ℕ) where
  pub planned_wanting : is_good (judge_of limit events) ≡ true → {size : ℕ} {rows : List ℕ} → Made events size rows → limit < size → Planned limit events 19 0 []
  planned_wanting g m l = plan_wanting limit events g (omega (arith, m.sized))

  pub planned_proposed : (p : Proposal) → is_good (judge_of limit events) ≡ true → Made events p.size (take p.count p.rows) → p.size ≤ limit
      → Planned limit events 0 p.size (take p.count p.rows)
  planned_proposed p g m l = rw (m.sized, m.served) (plan_proposed limit events g (omega (arith, m.sized)))

-- as the contract says it
pub told : {limit : ℕ} {events : List ℕ} {refusal size : ℕ} {rows : List ℕ} → Planned limit events refusal size rows
    → (refusal ≡ plan_refusal limit events) × ((size ≡ plan_size limit events) × (rows ≡ plan_rows limit events))
told p = (p.refused, (p.sized, p.served))
