-- The race that a waiting request runs: what keeps every other unit from a second turn of its kind before it. Assumes nothing.
use mathlib.Core.Path.{◌≡◌, refl, sym, ◌∙◌, subst}
use mathlib.Core.Logic.{◌≢◌}
use mathlib.Core.Bool.{Bool, true, false}
use Prim.Native.Nat.{ℕ, ◌<◌}
use native.Mathlib.Decide.{ℕ_discrete}
use native.Mathlib.Omega.{arith}
use Rattle.area.proofs.Walks.{true_not_false}
use Rattle.channel.specs.declared.Position.{Position}
use Rattle.channel.specs.declared.Turn.{Turn}
use Rattle.channel.specs.declared.Turn.TheVariants.{Idle}
use Rattle.channel.specs.declared.Channel.{Channel}
use Rattle.channel.specs.Units.{size, turn_at, with_unit, with_turn, with_marks}
use Rattle.channel_turns.specs.Scans.{next_unit, begin_of, Before}
use Rattle.channel_turns.proofs.Laws.Scans.{next_below, begin_here}
use Rattle.channel_theorems.proofs.Theorems.Order.{next_is, before_not_last, before_trans}
use Rattle.channel_theorems.proofs.Theorems.Turning.{held_as, works_as, mark_as, mark_with, size_with, at_set, busy_inside}
use Rattle.channel_theorems.proofs.Theorems.Starts.{turn_wants, turn_works, turn_busy, Started, is_frozen, is_busy, is_quiet, begins}
use Rattle.channel_theorems.proofs.Theorems.Sound.{Sound}

-- ---- the race of kind k, priority or ordinary: D is the units whose operation of that kind has ended since u asked

-- No unit of D comes before u, and u still holds its request. So each other unit ends one operation of the kind at most before u does.
pub record Race (k : Bool) (n u : ℕ) (D : ℕ → Bool) (c : Channel) : Type 0 where
  pub long : size c ≡ n
  pub self : D u ≡ false
  pub mine : held_as k (turn_at c u) ≡ true
  pub ahead : (x : ℕ) → Before (begin_of n (mark_as k c)) u x → D x ≡ false
  pub work : (x : ℕ) → works_as k (turn_at c x) ≡ true → x ≢ u → (D x ≡ false) × ((y : ℕ) → Before (next_unit n x) u y → D y ≡ false)

-- u is one of the units
pub race_inside : {k : Bool} {n u : ℕ} {D : ℕ → Bool} {c : Channel} → Race k n u D c → u < n
race_inside {k} {n} {u} {D} {c} h = let l = busy_inside c u (turn_busy k (turn_at c u) h.mine) in omega (arith, h.long)

pub race_start : (k : Bool) (n u : ℕ) (D : ℕ → Bool) (c : Channel) (f : Bool) (d : Channel) → Race k n u D c → Started c f d → Race k n u D d
race_start k n u D c f d h (is_frozen e) = h
race_start k n u D c f d h (is_busy x e) = h
race_start k n u D c f d h (is_quiet g) = h
race_start k n u D c f d h (begins x t b) = record {
  long = size_with c x t _ ∙ h.long;
  self = h.self;
  mine = held_on u refl;
  ahead = subst (λ (m : ℕ). (y : ℕ) → Before (begin_of n m) u y → D y ≡ false) (sym (mark_with k c x t _)) h.ahead;
  work = at_set c x t b.within (λ y i. works_as k i.turn ≡ true → y ≢ u → Fair y) begun_fair (λ y ne i m. h.work y i m);
}
  where
    Fair : ℕ → Type 0
    Fair x = (D x ≡ false) × ((y : ℕ) → Before (next_unit n x) u y → D y ≡ false)

    held_on : (y : ℕ) → y ≡ u → held_as k (turn_at (with_turn c x t) y) ≡ true
    held_on =
        at_set c x t b.within (λ y i. y ≡ u → held_as k i.turn ≡ true)
        (λ e. b.same_turn k ∙ (rw e h.mine))
        (λ y ne e. rw e h.mine)

    begun_fair : works_as k t ≡ true → x ≢ u → Fair x
    begun_fair w ne =
        let turn : Before (begin_of (size c) (mark_as k c)) u x = b.in_turn k w u (turn_wants k (turn_at c u) h.mine (b.was_idle u)) (λ e. ne (sym e)) in
        let a : Before (begin_of n (mark_as k c)) u x = rw h.long at turn in
        (h.ahead x a, λ y j. h.ahead y (before_trans (race_inside h) (next_is n x) a j))

-- a change at one unit by which no operation of the kind begins and u's request stays
pub race_set : (k : Bool) (n u : ℕ) (D : ℕ → Bool) (c : Channel) (x : ℕ) (t : Turn) (stood : Position) → Race k n u D c → x < size c
    → (x ≡ u → held_as k t ≡ true) → (works_as k t ≡ true → works_as k (turn_at c x) ≡ true) → Race k n u D (with_unit c x t stood)
race_set k n u D c x t stood h l m w = record {
  long = size_with c x t _ ∙ h.long;
  self = h.self;
  mine = at_set c x t l (λ y i. y ≡ u → held_as k i.turn ≡ true) m (λ y ne e. rw e h.mine) u refl;
  ahead = subst (λ (j : ℕ). (y : ℕ) → Before (begin_of n j) u y → D y ≡ false) (sym (mark_with k c x t _)) h.ahead;
  work =
      at_set c x t l (λ y i. works_as k i.turn ≡ true → y ≢ u → (D y ≡ false) × ((z : ℕ) → Before (next_unit n y) u z → D z ≡ false))
      (λ i j. h.work x (w i) j)
      (λ y ne i j. h.work y i j);
}

-- marks say nothing of the units: the race goes by the mark of its own kind
pub race_marks : (k : Bool) (n u : ℕ) (D : ℕ → Bool) (c : Channel) (m p : ℕ) → mark_as k (with_marks c m p) ≡ mark_as k c → Race k n u D c
    → Race k n u D (with_marks c m p)
race_marks k n u D c m p e h = record {
  long = h.long;
  self = h.self;
  mine = h.mine;
  ahead = subst (λ (j : ℕ). (y : ℕ) → Before (begin_of n j) u y → D y ≡ false) (sym e) h.ahead;
  work = h.work;
}

-- ---- the units that have ended, and one more

abbrev if_yes : {A : Type 0} → Dec A → Bool → Bool
if_yes (yes a) b = true
if_yes (no h) b = b

pub also : ℕ → (ℕ → Bool) → ℕ → Bool
also x D y = if_yes (ℕ_discrete y x) (D y)

pub also_same : (x : ℕ) (D : ℕ → Bool) → also x D x ≡ true
unfolding also
also_same x D = go (ℕ_discrete x x)
  where
    go : (d : Dec (x ≡ x)) → if_yes d (D x) ≡ true
    go (yes e) = refl
    go (no h) = absurd (h refl)

pub also_other : (x : ℕ) (D : ℕ → Bool) (y : ℕ) → y ≢ x → also x D y ≡ D y
unfolding also
also_other x D y ne = go (ℕ_discrete y x)
  where
    go : (d : Dec (y ≡ x)) → if_yes d (D y) ≡ D y
    go (yes e) = absurd (ne e)
    go (no h) = refl

-- no turn of an idle unit is worked for
pub idle_not : {A : Type 0} (k : Bool) → works_as k Idle ≡ true → A
idle_not true e = true_not_false e refl
idle_not false e = true_not_false e refl

-- the operation of x, not u, ends, and is of the kind: the scan begins above x
pub race_ended : (k : Bool) (n u : ℕ) (D : ℕ → Bool) (c : Channel) (x m p : ℕ) (stood : Position) → Sound c → Race k n u D c → x < size c → x ≢ u
    → works_as k (turn_at c x) ≡ true → mark_as k (with_marks (with_unit c x Idle stood) m p) ≡ next_unit n x
    → Race k n u (also x D) (with_marks (with_unit c x Idle stood) m p)
race_ended k n u D c x m p stood s h l ne t moved = record {
  long = size_with c x Idle _ ∙ h.long;
  self = also_other x D u (λ e. ne (sym e)) ∙ h.self;
  mine = at_set c x Idle l (λ y i. y ≡ u → held_as k i.turn ≡ true) (λ e. absurd (ne e)) (λ y i e. rw e h.mine) u refl;
  ahead =
      subst (λ (j : ℕ). (y : ℕ) → Before (begin_of n j) u y → also x D y ≡ false) (sym moved)
      (λ y a. not_ended y (rw (begin_here n (next_unit n x) (next_below n x (omega (arith, race_inside h)))) at a));
  work =
      at_set c x Idle l
      (λ y i. works_as k i.turn ≡ true → y ≢ u → (also x D y ≡ false) × ((z : ℕ) → Before (next_unit n y) u z → also x D z ≡ false))
      (λ i m. idle_not k i)
      (λ y i j m. absurd (i (s.one y x (turn_works k (turn_at c y) j) (turn_works k (turn_at c x) t))));
}
  where
    not_ended : (y : ℕ) → Before (next_unit n x) u y → also x D y ≡ false
    not_ended y a =
        also_other x D y (λ e. before_not_last (race_inside h) (next_is n x) (subst (λ (z : ℕ). Before (next_unit n x) u z) e a))
        ∙ (h.work x t ne).1 y a
