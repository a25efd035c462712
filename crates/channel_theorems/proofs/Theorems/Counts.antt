-- The declared units and the priority requests, counted over the units. Assumes nothing.
use mathlib.Core.Path.{◌≡◌, refl, ap, sym, ◌∙◌}
use mathlib.Core.Bool.{Bool, true, false, cond}
use mathlib.Core.Option.{Option, none, some}
use mathlib.Core.List.{List}
use Prim.Native.Nat.{ℕ, ◌≤◌}
use native.Mathlib.Omega.{arith}
use lib.ListN.{length, get_or}
use Rattle.area.specs.Lists.{count_of, one_if}
use Rattle.channel.specs.declared.Request.{Request}
use Rattle.channel.specs.declared.Turn.{Turn}
use Rattle.channel.specs.declared.Turn.TheVariants.{Idle, Waiting, Displaced, Working}
use Rattle.channel.specs.declared.Unit.{Unit}
use Rattle.channel.specs.declared.Channel.{Channel}
use Rattle.channel.specs.Units.{size, idle_unit, declared_at, turn_at, fresh_with}
use Rattle.channel_turns.specs.Starts.{start_of}
use Rattle.channel_turns.specs.Turns.{holds_priority}
use Rattle.channel_theorems.specs.History.{urgent_in, declared_in}
use Rattle.channel_theorems.proofs.Laws.Sums.{sum, sum_le, count_sum}
use Rattle.channel_theorems.proofs.Theorems.Turning.{held, at_set}
use Rattle.channel_theorems.proofs.Theorems.Starts.{Started, is_frozen, is_busy, is_quiet, begins, started}
use Rattle.channel_theorems.proofs.Theorems.Fresh.{fresh_unit, SameUnits}

-- ---- what is counted over the units

one_cond : (b : Bool) → one_if b ≤ cond b 1 0
one_cond true = omega arith
one_cond false = omega arith

-- the declared units are those of the fresh start
pub declared_most : (n : ℕ) (l : List Bool) (c : Channel) → n ≡ length l → SameUnits (fresh_with l) c → sum n (λ x. one_if (declared_at c x)) ≤ declared_in l
unfolding declared_in
declared_most n l c long k =
    let a = sum_le n (λ x. one_if (declared_at c x)) (λ x. cond (get_or l x false) 1 0) (λ x h. at x) in
    let b : count_of (λ (y : Bool). y) l ≡ sum (length l) (λ x. cond (get_or l x false) 1 0) = count_sum (λ (y : Bool). y) false l in
    let e : sum n (λ x. cond (get_or l x false) 1 0) ≡ count_of (λ (y : Bool). y) l = ap (λ (m : ℕ). sum m (λ x. cond (get_or l x false) 1 0)) long ∙ sym b in
    omega arith
  where
    at : (x : ℕ) → one_if (declared_at c x) ≤ cond (get_or l x false) 1 0
    at x =
        let e : declared_at c x ≡ get_or l x false = k.known x ∙ ap (λ (y : Unit). y.declared) (fresh_unit l x) in
        rw e (one_cond (get_or l x false))

-- the priority requests of another channel whose units hold the same priorities
pub urgent_most : (n : ℕ) (c d : Channel) → size c ≡ n → ((x : ℕ) → holds_priority (turn_at d x) ≡ holds_priority (turn_at c x))
    → sum n (λ x. one_if (holds_priority (turn_at d x))) ≤ urgent_in c
unfolding urgent_in
urgent_most n c d long same =
    let a = sum_le n (λ x. one_if (holds_priority (turn_at d x))) (λ x. cond (holds_priority (turn_at c x)) 1 0)
    (λ x h. rw (same x) (one_cond (holds_priority (turn_at c x)))) in
    let b : count_of (λ (y : Unit). holds_priority y.turn) c.units ≡ sum (size c) (λ x. cond (holds_priority (turn_at c x)) 1 0) =
    count_sum (λ (y : Unit). holds_priority y.turn) (idle_unit false) c.units in
    let e : count_of (λ (y : Unit). holds_priority y.turn) c.units ≡ sum n (λ x. cond (holds_priority (turn_at c x)) 1 0) =
    b ∙ ap (λ (k : ℕ). sum k (λ x. cond (holds_priority (turn_at c x)) 1 0)) long in
    omega arith

-- a priority is that of the request held
abbrev urgent : Option Request → Bool
urgent none = false
urgent (some q) = q.priority

holds_urgent : (t : Turn) → holds_priority t ≡ urgent (held t)
holds_urgent Idle = refl
holds_urgent (Waiting q) = refl
holds_urgent (Displaced q) = refl
holds_urgent (Working q) = refl

pub priority_start : (c : Channel) (f : Bool) (x : ℕ) → holds_priority (turn_at (start_of c f) x) ≡ holds_priority (turn_at c x)
priority_start c f x = go (start_of c f) (started c f)
  where
    go : (d : Channel) → Started c f d → holds_priority (turn_at d x) ≡ holds_priority (turn_at c x)
    go d (is_frozen e) = refl
    go d (is_busy y e) = refl
    go d (is_quiet g) = refl
    go d (begins y t b) =
        at_set c y t b.within (λ z k. holds_priority k.turn ≡ holds_priority (turn_at c z))
        (holds_urgent t ∙ ap urgent b.same ∙ sym (holds_urgent (turn_at c y)))
        (λ z ne. refl) x
