-- A unit's answers, and the request that it holds, are its accepted requests. Assumes nothing.
use mathlib.Core.Path.{◌≡◌, refl, ap, sym, ◌∙◌, subst}
use mathlib.Core.Logic.{◌≢◌}
use mathlib.Core.Bool.{Bool, true, false, ◌&&◌, and-false}
use mathlib.Core.Option.{Option, none, some}
use mathlib.Core.List.{List, [], ◌∷◌}
use Prim.Native.Nat.{ℕ, ◌+◌, ◌≤◌, ◌<◌}
use native.Mathlib.Decide.{ℕ_discrete}
use native.Mathlib.Omega.{arith}
use lib.Dec.{eqb}
use Rattle.channel.specs.declared.Position.{Position}
use Rattle.channel.specs.declared.Request.{Request}
use Rattle.channel.specs.declared.Turn.{Turn}
use Rattle.channel.specs.declared.Turn.TheVariants.{Idle, Waiting}
use Rattle.channel.specs.declared.Channel.{Channel}
use Rattle.channel.specs.Units.{size, turn_at, position_at, with_unit, with_turn, is_idle}
use Rattle.channel_turns.specs.Starts.{start_of, new_request}
use Rattle.channel_theorems.specs.History.{Station, Event, Step, step, run, count, a_request_of, an_answer_to}
use Rattle.area.specs.Lists.{one_if}
use Rattle.channel_theorems.proofs.Theorems.Turning.{held, at_set, busy_inside, declared_inside}
use Rattle.channel_theorems.proofs.Theorems.Starts.{Started, is_frozen, is_busy, is_quiet, begins, started}
use Rattle.channel_theorems.proofs.Theorems.Calls.{ended_at, Took, refuses, asks, repeats, ends, freezes, thaws, took, incomplete_held, no_answer_lem, no_request_lem, of_unit, of_other}

-- ---- answered at most once: a unit's answers and the request that it holds are its accepted requests

abbrev pub one_held : Option Request → ℕ
one_held none = 0
one_held (some q) = 1

-- 1 if unit u holds a request, else 0
abbrev pub holding : Channel → ℕ → ℕ
holding c u = one_held (held (turn_at c u))

pub holding_most : (h : Option Request) → one_held h ≤ 1
holding_most none = omega arith
holding_most (some q) = omega arith

holding_start : (c : Channel) (f : Bool) (u : ℕ) → holding (start_of c f) u ≡ holding c u
holding_start c f u = go (start_of c f) (started c f)
  where
    go : (d : Channel) → Started c f d → holding d u ≡ holding c u
    go d (is_frozen e) = refl
    go d (is_busy x e) = refl
    go d (is_quiet g) = refl
    go d (begins x t b) = at_set c x t b.within (λ y k. one_held (held k.turn) ≡ holding c y) (ap one_held b.same) (λ y ne. refl) u

holding_here : (c : Channel) (x u : ℕ) (t : Turn) (stood : Position) → x < size c → x ≡ u → holding (with_unit c x t stood) u ≡ one_held (held t)
holding_here c x u t stood l e =
    at_set c x t l (λ y k. x ≡ y → one_held (held k.turn) ≡ one_held (held t)) (λ i. refl) (λ y ne i. absurd (ne (sym i))) u e

holding_other : (c : Channel) (x u : ℕ) (t : Turn) (stood : Position) → x < size c → x ≢ u → holding (with_unit c x t stood) u ≡ holding c u
holding_other c x u t stood l n =
    at_set c x t l (λ y k. x ≢ y → one_held (held k.turn) ≡ holding c y) (λ i. absurd (i refl)) (λ y ne i. refl) u n

-- what a call does to u's balance
Balanced : ℕ → Channel → Event → Step → Type 0
Balanced u c e o = one_if (an_answer_to u e o.answer) + holding o.after.channel u ≡ holding c u + one_if (a_request_of u e o.answer)

balanced : (u : ℕ) (s : Station) (e : Event) (o : Step) → Took s e o → Balanced u s.channel e o
unfolding Balanced
balanced u s e o refuses = rw (no_answer_lem u e, no_request_lem u e) (omega arith)
balanced u s e o (asks x op p d i) = go (ℕ_discrete x u)
  where
    c : Channel
    c = s.channel

    t : Turn
    t = Waiting (new_request op p)

    l : x < size c
    l = declared_inside c x d

    go : Dec (x ≡ u) → 0 + holding (start_of (with_turn c x t) s.frozen) u ≡ holding c u + one_if (eqb x u && true)
    go (yes q) =
        let a : holding (with_turn c x t) u ≡ 1 = holding_here c x u t _ l q in
        let b : holding c u ≡ 0 = subst (λ (y : ℕ). holding c y ≡ 0) q (ap (λ (k : Turn). one_held (held k)) i) in
        rw (of_unit q) (omega (arith, holding_start (with_turn c x t) s.frozen u))
    go (no n) = rw (of_other n) (omega (arith, holding_start (with_turn c x t) s.frozen u, holding_other c x u t (position_at c x) l n))
balanced u s e o (repeats x oc len r q t stood i j m stands) = go (ℕ_discrete x u)
  where
    c : Channel
    c = s.channel

    l : x < size c
    l = busy_inside c x (ap is_idle i)

    go : Dec (x ≡ u) → one_if (eqb x u && false) + holding (start_of (with_unit c x t stood) s.frozen) u ≡ holding c u + 0
    go (yes k) =
        let a : holding (with_unit c x t stood) u ≡ 1 = holding_here c x u t _ l k ∙ ap one_held (incomplete_held q t m) in
        let b : holding c u ≡ 1 = subst (λ (y : ℕ). holding c y ≡ 1) k (ap (λ (z : Turn). one_held (held z)) i) in
        rw (and-false (eqb x u)) (omega (arith, holding_start (with_unit c x t stood) s.frozen u))
    go (no n) = rw (and-false (eqb x u)) (omega (arith, holding_start (with_unit c x t stood) s.frozen u, holding_other c x u t stood l n))
balanced u s e o (ends x oc len r how stood i judged stands) = go (ℕ_discrete x u)
  where
    c : Channel
    c = s.channel

    l : x < size c
    l = busy_inside c x (ap is_idle i)

    go : Dec (x ≡ u) → one_if (eqb x u && true) + holding (start_of (ended_at c x stood) s.frozen) u ≡ holding c u + 0
    go (yes q) =
        let a : holding (ended_at c x stood) u ≡ 0 = holding_here c x u Idle _ l q in
        let b : holding c u ≡ 1 = subst (λ (y : ℕ). holding c y ≡ 1) q (ap (λ (k : Turn). one_held (held k)) i) in
        rw (of_unit q) (omega (arith, holding_start (ended_at c x stood) s.frozen u))
    go (no n) =
        let a : holding (ended_at c x stood) u ≡ holding c u = holding_other c x u Idle _ l n in
        rw (of_other n) (omega (arith, holding_start (ended_at c x stood) s.frozen u))
balanced u s e o freezes = omega arith
balanced u s e o thaws = omega (arith, holding_start s.channel false u)

pub balance : (u : ℕ) (s : Station) (h : List Event) → count (an_answer_to u) s h + holding (run s h).channel u ≡ holding s.channel u + count (a_request_of u) s h
unfolding count run
balance u s [] = omega arith
balance u s (e ∷ h) =
    let a : one_if (an_answer_to u e (step s e).answer) + holding (step s e).after.channel u ≡ holding s.channel u + one_if (a_request_of u e (step s e).answer) =
    unfold Balanced in balanced u s e (step s e) (took s e) in
    let b = balance u (step s e).after h in
    omega arith
