-- A look after a report that answers: if nothing was left to enter before it, it can enter only the routine that the report made due, so that what waits elsewhere
-- need not be looked at. Assumes nothing.
use mathlib.Core.Path.{◌≡◌, refl, sym, ap, ◌∙◌}
use mathlib.Core.Bool.{Bool, true, false, not, ◌&&◌}
use Prim.Native.Nat.{ℕ, ◌≤◌, ◌<◌}
use native.Mathlib.Omega.{arith}
use borrow.Author.Tests.{ltb-true, ltb-false, leb-true, le-ltb, eqb-true, eqb-false}
use lib.Dec.{ltb, leb, eqb}
use Rattle.area.proofs.Walks.{or_either}
use Rattle.routines.specs.declared.Due.{Due}
use Rattle.routines.specs.declared.Program.{Program}
use Rattle.routines.specs.declared.Programs.{Programs}
use Rattle.routines.specs.Ranks.{depth, waiting_at}
use Rattle.routines.specs.Waits.{Waits, is_unit, due_at, with_due, highest}
use Rattle.routines.specs.Schedule.{enters, look_of}
use Rattle.routines.specs.Right.{is_settled}
use Rattle.routines.proofs.Laws.Highest.{highest_keeps, highest_rank, highest_only, with_other, with_same}
use Rattle.routines.proofs.Laws.Schedule.{look_stays, frozen_enters}

-- nothing enters that is not above what runs
pub low_stays : (p : Programs) (frozen : Bool) (best : Program) → best.rank ≤ p.running.rank → enters p frozen best ≡ false
unfolding enters
low_stays p frozen best h = go (not frozen) (ltb p.count depth)
  where
    go : (a c : Bool) → (a && (ltb p.running.rank best.rank && c)) ≡ false
    go false c = refl
    go true c = rw (le-ltb p.running.rank best.rank h)

-- "With a full list, depth four here, nothing is interrupted"
pub full_stays : (p : Programs) (frozen : Bool) (best : Program) → depth ≤ p.count → enters p frozen best ≡ false
unfolding enters
full_stays p frozen best h = go (not frozen) (ltb p.running.rank best.rank)
  where
    go : (a b : Bool) → (a && (b && ltb p.count depth)) ≡ false
    go false b = refl
    go true false = refl
    go true true = le-ltb p.count depth h

-- where nothing is left to enter, a further look enters nothing
pub settled_stays : (p : Programs) (frozen : Bool) (best : Program) → is_settled p frozen best ≡ true → enters p frozen best ≡ false
unfolding is_settled
settled_stays p true best e = frozen_enters p best
settled_stays p false best e = or_either (leb depth p.count) _ e (λ f. full_stays p false best (leb-true _ _ f)) (λ f. low_stays p false best (leb-true _ _ f))

module _ (p : Programs) (w : Waits) (c u : ℕ) (d : Due) (unit : is_unit w c u ≡ true) where
  -- where nothing that waits is above what runs
  module _ (low : (highest w).rank ≤ p.running.rank) where
    other_low : (k v : ℕ) → (k ≡ c → v ≡ u → ⊥) → (due_at (with_due w c u d) k v).rank ≤ p.running.rank
    other_low k v f = let e : (due_at (with_due w c u d) k v).rank ≡ (due_at w k v).rank = ap (λ (x : Due). x.rank) (with_other w c u d k v f) in let l = highest_rank w k v in omega arith

    -- the routine that becomes due is the highest if it is above what runs
    own_highest : p.running.rank < d.rank → highest (with_due w c u d) ≡ waiting_at c u d
    own_highest h =
        let same : due_at (with_due w c u d) c u ≡ d = with_same w c u d unit in
        let rank : (due_at (with_due w c u d) c u).rank ≡ d.rank = ap (λ (x : Due). x.rank) same in
        highest_only (with_due w c u d) c u (omega arith) (λ k v f. let l = other_low k v f in omega arith) ∙ ap (waiting_at c u) same

    -- and if it is not, nothing is
    none_high : d.rank ≤ p.running.rank → (highest (with_due w c u d)).rank ≤ p.running.rank
    none_high h = highest_keeps (λ q. q.rank ≤ p.running.rank) (with_due w c u d) (omega arith) (λ k v i j. each k v (eqb k c) refl (eqb v u) refl)
      where
        each : (k v : ℕ) (a : Bool) → eqb k c ≡ a → (b : Bool) → eqb v u ≡ b → (due_at (with_due w c u d) k v).rank ≤ p.running.rank
        each k v false e b f = other_low k v (λ x. λ y. eqb-false k c e x)
        each k v true e false f = other_low k v (λ x. λ y. eqb-false v u f y)
        each k v true e true f =
            let x : k ≡ c = eqb-true k c e in
            let y : v ≡ u = eqb-true v u f in
            let same : (due_at (with_due w c u d) c u).rank ≡ d.rank = ap (λ (z : Due). z.rank) (with_same w c u d unit) in
            rw (x, y, same) h

    low_own : (frozen : Bool) → look_of p frozen (highest (with_due w c u d)) ≡ look_of p frozen (waiting_at c u d)
    low_own frozen = go (ltb p.running.rank d.rank) refl
      where
        go : (b : Bool) → ltb p.running.rank d.rank ≡ b → look_of p frozen (highest (with_due w c u d)) ≡ look_of p frozen (waiting_at c u d)
        go true e = ap (look_of p frozen) (own_highest (ltb-true _ _ e))
        go false e =
            let l = ltb-false p.running.rank d.rank e in
            look_stays p frozen _ (low_stays p frozen _ (none_high l)) ∙ sym (look_stays p frozen (waiting_at c u d) (low_stays p frozen (waiting_at c u d) l))

  -- "When nothing is frozen a report's look can enter only the routine that this report made due"; and in a freeze, or over a full list, none
  pub look_own : (frozen : Bool) → is_settled p frozen (highest w) ≡ true → look_of p frozen (highest (with_due w c u d)) ≡ look_of p frozen (waiting_at c u d)
  unfolding is_settled
  look_own true e = look_stays p true _ (frozen_enters p _) ∙ sym (look_stays p true (waiting_at c u d) (frozen_enters p (waiting_at c u d)))
  look_own false e =
      or_either (leb depth p.count) _ e
      (λ f. look_stays p false _ (full_stays p false _ (leb-true _ _ f)) ∙ sym (look_stays p false (waiting_at c u d) (full_stays p false (waiting_at c u d) (leb-true _ _ f))))
      (λ f. low_own (leb-true _ _ f) false)
