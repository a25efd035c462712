-- The reports that can still be made before a waiting request is answered. Assumes nothing.
use mathlib.Core.Path.{◌≡◌, refl, sym}
use mathlib.Core.Logic.{◌≢◌}
use mathlib.Core.Bool.{Bool, true, false, not, cond}
use mathlib.Core.Option.{Option, none, some}
use Prim.Native.Nat.{ℕ, ◌+◌, ◌-◌, ◌*◌, ◌≤◌, ◌<◌}
use native.Mathlib.Omega.{arith}
use Rattle.area.proofs.Walks.{true_not_false}
use Rattle.channel.specs.declared.Op.{Op}
use Rattle.channel.specs.declared.Position.{Position}
use Rattle.channel.specs.declared.Request.{Request}
use Rattle.channel.specs.declared.Turn.{Turn}
use Rattle.channel.specs.declared.Turn.TheVariants.{Idle, Waiting, Displaced, Working}
use Rattle.channel.specs.declared.Channel.{Channel}
use Rattle.channel_outcomes.specs.Rules.{most_reports}
use Rattle.channel.specs.Units.{size, declared_at, turn_at, position_at, with_unit}
use Rattle.channel_turns.specs.Turns.{holds_priority}
use Rattle.channel_turns.specs.Starts.{new_request}
use Rattle.area.specs.Lists.{one_if}
use Rattle.channel_theorems.proofs.Laws.Sums.{sum, sum_at, sum_le, sum_mul, sum_times, sum_term}
use Rattle.channel_theorems.proofs.Theorems.Turning.{held_as, held, at_set, busy_inside}
use Rattle.channel_theorems.proofs.Theorems.Starts.{turn_busy, Started, is_frozen, is_busy, is_quiet, begins}
use Rattle.channel_theorems.proofs.Theorems.Sound.{Counted, reports_most, Again, HoldOk, InRanges}
use Rattle.channel_theorems.proofs.Theorems.Race.{Race}

-- ---- the budget: the reports that can still be made before u is answered, one for each attempt and one for each noise record

abbrev pub left : Request → ℕ
left q = most_reports + 1 - (q.attempts + q.noise)

-- by its own turn among those of the kind: what is left of its request of the kind, or all of one to come
abbrev pub own : Bool → Option Request → ℕ
own k none = most_reports
own true (some q) = cond q.priority (left q) most_reports
own false (some q) = cond q.priority most_reports (left q)

abbrev urge : Option Request → ℕ
urge none = 0
urge (some q) = cond q.priority (left q) 0

-- what a unit can still take before a request of kind k: unless it has ended in its turn, by its own turn; and before an ordinary one by priority
unfoldable pub weight : Bool → Bool → Bool → Option Request → ℕ
weight k done false h = 0
weight k done true h = cond k 0 (urge h) + cond done 0 (own k h)

unfoldable pub budget : Bool → ℕ → (ℕ → Bool) → Channel → ℕ
budget k n D c = sum n (λ x. weight k (D x) (declared_at c x) (held (turn_at c x)))

-- a change at one unit
pub budget_at : (k : Bool) (n : ℕ) (D E : ℕ → Bool) (c : Channel) (x : ℕ) (t : Turn) (stood : Position) (a b : ℕ) → size c ≡ n → x < size c → ((y : ℕ) → y ≢ x → E y ≡ D y)
    → weight k (E x) (declared_at c x) (held t) + a ≤ weight k (D x) (declared_at c x) (held (turn_at c x)) + b
    → budget k n E (with_unit c x t stood) + a ≤ budget k n D c + b
unfolding budget
budget_at k n D E c x t stood a b long l f e = sum_at n F G x a b (omega arith) others here
  where
    F : ℕ → ℕ
    F y = weight k (E y) (declared_at (with_unit c x t stood) y) (held (turn_at (with_unit c x t stood) y))

    G : ℕ → ℕ
    G y = weight k (D y) (declared_at c y) (held (turn_at c y))

    others : (y : ℕ) → y ≢ x → F y ≤ G y
    others =
        at_set c x t l (λ y j. y ≢ x → weight k (E y) j.declared (held j.turn) ≤ G y) (λ i. absurd (i refl)) (λ y ne i. rw (f y ne) (omega arith))

    here : F x + a ≤ G x + b
    here =
        at_set c x t l (λ y j. y ≡ x → weight k (E y) j.declared (held j.turn) + a ≤ G y + b) (λ i. e) (λ y ne i. absurd (ne i)) x refl

pub budget_start : (k : Bool) (n : ℕ) (D : ℕ → Bool) (c : Channel) (f : Bool) (d : Channel) → size c ≡ n → Started c f d → budget k n D d ≤ budget k n D c
budget_start k n D c f d long (is_frozen e) = omega arith
budget_start k n D c f d long (is_busy x e) = omega arith
budget_start k n D c f d long (is_quiet g) = omega arith
budget_start k n D c f d long (begins x t b) =
    let i = budget_at k n D D c x t (position_at c x) 0 0 long b.within (λ y ne. refl) (rw b.same (omega arith)) in
    omega arith

-- ---- what a call does to the weight of its unit, before an ordinary request

pub weight_asked : (d t : Bool) (g : Option Request) (op : Op) (p : Bool) → t ≡ true → g ≡ none
    → weight false d t (some (new_request op p)) + 0 ≤ weight false d t g + most_reports * one_if p
unfolding weight
weight_asked d t g op p i j = rw (i, j) (go d p)
  where
    go : (d p : Bool) → weight false d true (some (new_request op p)) + 0 ≤ weight false d true none + most_reports * one_if p
    go true true = omega arith
    go true false = omega arith
    go false true = omega arith
    go false false = omega arith

-- a priority operation ends
pub weight_urgent : (d t : Bool) (g : Option Request) (r : Request) → t ≡ true → g ≡ some r → r.priority ≡ true → r.attempts + r.noise ≤ most_reports
    → weight false d t none + 1 ≤ weight false d t g + 0
unfolding weight
weight_urgent d t g r i j e l = rw (i, j, e) (go d)
  where
    go : (d : Bool) → 0 + cond d 0 most_reports + 1 ≤ left r + cond d 0 most_reports + 0
    go true = omega arith
    go false = omega arith

-- an ordinary one ends, and its unit joins D
pub weight_ended : (d t : Bool) (g : Option Request) (r : Request) → t ≡ true → g ≡ some r → r.priority ≡ false → r.attempts + r.noise ≤ most_reports → d ≡ false
    → weight false true t none + 1 ≤ weight false d t g + 0
unfolding weight
weight_ended d t g r i j e l k = rw (i, j, k, e) (omega arith)

-- an operation is repeated
pub weight_again : (d t : Bool) (g : Option Request) (r q : Request) → t ≡ true → g ≡ some r → Again r q → q.attempts + q.noise ≤ most_reports
    → (r.priority ≡ false → d ≡ false) → weight false d t (some q) + 1 ≤ weight false d t g + 0
unfolding weight
weight_again d t g r q i j a l f = rw (i, j) (go d r.priority refl f)
  where
    go : (d b : Bool) → r.priority ≡ b → (b ≡ false → d ≡ false) → weight false d true (some q) + 1 ≤ weight false d true (some r) + 0
    go true true e f = rw (a.alike, e) (omega (arith, a.more))
    go false true e f = rw (a.alike, e) (omega (arith, a.more))
    go true false e f = true_not_false refl (f refl)
    go false false e f = rw (a.alike, e) (omega (arith, a.more))

-- ---- the same before a priority request: an ordinary operation takes nothing of it

pub urgent_asked : (d t : Bool) (g : Option Request) (op : Op) (p : Bool) → g ≡ none → weight true d t (some (new_request op p)) + 0 ≤ weight true d t g + 0
unfolding weight
urgent_asked d t g op p j = rw j (go d t p)
  where
    go : (d t p : Bool) → weight true d t (some (new_request op p)) + 0 ≤ weight true d t none + 0
    go d false p = omega arith
    go true true p = omega arith
    go false true true = omega arith
    go false true false = omega arith

pub urgent_again : (d t : Bool) (g : Option Request) (r q : Request) → t ≡ true → g ≡ some r → Again r q → q.attempts + q.noise ≤ most_reports → r.priority ≡ true
    → d ≡ false → weight true d t (some q) + 1 ≤ weight true d t g + 0
unfolding weight
urgent_again d t g r q i j a l e f = rw (i, j, f, a.alike, e) (omega (arith, a.more))

pub urgent_ended : (d t : Bool) (g : Option Request) (r : Request) → t ≡ true → g ≡ some r → r.priority ≡ true → r.attempts + r.noise ≤ most_reports → d ≡ false
    → weight true true t none + 1 ≤ weight true d t g + 0
unfolding weight
urgent_ended d t g r i j e l f = rw (i, j, f, e) (omega arith)

pub urgent_past : (d t : Bool) (g h : Option Request) (r : Request) → g ≡ some r → r.priority ≡ false → own true h ≡ most_reports
    → weight true d t h + 0 ≤ weight true d t g + 0
unfolding weight
urgent_past d t g h r j e i = rw j (go d t)
  where
    go : (d t : Bool) → weight true d t h + 0 ≤ weight true d t (some r) + 0
    go d false = omega arith
    go true true = omega arith
    go false true = rw (i, e) (omega arith)

-- ---- the budget at first: all attempts of each declared unit, and of each priority request

most_held : (q : Request) (b : Bool) → q.priority ≡ b → Counted q → weight false false true (some q) ≤ most_reports * (1 + one_if q.priority)
unfolding weight
most_held q true e k = rw e (omega (arith, k.from))
most_held q false e k = rw e (omega (arith, k.from))

weight_most : (d : Bool) (t : Turn) → HoldOk d (held t) → weight false false d (held t) ≤ most_reports * (one_if d + one_if (holds_priority t))
unfolding weight
weight_most false t o = omega arith
weight_most true Idle o = omega arith
weight_most true (Waiting q) o = most_held q q.priority refl o.1
weight_most true (Displaced q) o = most_held q q.priority refl o.1
weight_most true (Working q) o = most_held q q.priority refl o.1

pub budget_most : (n : ℕ) (c : Channel) → InRanges c
    → budget false n (λ x. false) c ≤ most_reports * (sum n (λ x. one_if (declared_at c x)) + sum n (λ x. one_if (holds_priority (turn_at c x))))
unfolding budget
budget_most n c ok =
    let a = sum_le n (λ x. weight false false (declared_at c x) (held (turn_at c x))) (λ x. most_reports * (one_if (declared_at c x) + one_if (holds_priority (turn_at c x))))
    (λ x l. weight_most (declared_at c x) (turn_at c x) (ok x)) in
    let b = sum_mul n most_reports (λ x. one_if (declared_at c x)) (λ x. one_if (holds_priority (turn_at c x))) in
    omega arith

-- and before a priority request: all attempts of each declared unit
urgent_held_lem : (q : Request) (b : Bool) → q.priority ≡ b → Counted q → weight true false true (some q) ≤ most_reports * 1
unfolding weight
urgent_held_lem q true e k = rw e (omega (arith, k.from))
urgent_held_lem q false e k = rw e (omega arith)

urgent_weight : (d : Bool) (t : Turn) → HoldOk d (held t) → weight true false d (held t) ≤ most_reports * one_if d
unfolding weight
urgent_weight false t o = omega arith
urgent_weight true Idle o = omega arith
urgent_weight true (Waiting q) o = urgent_held_lem q q.priority refl o.1
urgent_weight true (Displaced q) o = urgent_held_lem q q.priority refl o.1
urgent_weight true (Working q) o = urgent_held_lem q q.priority refl o.1

pub budget_urgent : (n : ℕ) (c : Channel) → InRanges c → budget true n (λ x. false) c ≤ most_reports * sum n (λ x. one_if (declared_at c x))
unfolding budget
budget_urgent n c ok =
    let a = sum_le n (λ x. weight true false (declared_at c x) (held (turn_at c x))) (λ x. most_reports * one_if (declared_at c x))
    (λ x l. urgent_weight (declared_at c x) (turn_at c x) (ok x)) in
    let b = sum_times n most_reports (λ x. one_if (declared_at c x)) in
    omega arith

-- ... and while u waits: an attempt is left
not_false : (b : Bool) → not b ≡ true → b ≡ false
not_false true e = sym e
not_false false e = refl

least_ordinary : (d : Bool) (q : Request) → not q.priority ≡ true → HoldOk d (some q) → 1 ≤ weight false false d (some q)
unfolding weight
least_ordinary d q h o = rw (o.0, not_false q.priority h) (omega (arith, reports_most q o.1))

least_urgent : (d : Bool) (q : Request) → q.priority ≡ true → HoldOk d (some q) → 1 ≤ weight true false d (some q)
unfolding weight
least_urgent d q h o = rw (o.0, h) (omega (arith, reports_most q o.1))

weight_least : (k d : Bool) (t : Turn) → held_as k t ≡ true → HoldOk d (held t) → 1 ≤ weight k false d (held t)
weight_least true d Idle h o = true_not_false h refl
weight_least true d (Waiting q) h o = least_urgent d q h o
weight_least true d (Displaced q) h o = least_urgent d q h o
weight_least true d (Working q) h o = least_urgent d q h o
weight_least false d Idle h o = true_not_false h refl
weight_least false d (Waiting q) h o = least_ordinary d q h o
weight_least false d (Displaced q) h o = least_ordinary d q h o
weight_least false d (Working q) h o = least_ordinary d q h o

pub budget_least : (k : Bool) (n u : ℕ) (D : ℕ → Bool) (c : Channel) → InRanges c → Race k n u D c → 1 ≤ budget k n D c
unfolding budget
budget_least k n u D c ok h =
    let w = weight_least k (declared_at c u) (turn_at c u) h.mine (ok u) in
    let l = busy_inside c u (turn_busy k (turn_at c u) h.mine) in
    let t : weight k (D u) (declared_at c u) (held (turn_at c u)) ≤ _ =
    sum_term n (λ x. weight k (D x) (declared_at c x) (held (turn_at c x))) u (omega (arith, h.long)) in
    let v : 1 ≤ weight k (D u) (declared_at c u) (held (turn_at c u)) = rw h.self w in
    omega arith
