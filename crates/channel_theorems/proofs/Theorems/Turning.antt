-- How a unit's turn stands to the scans, and what another turn at one unit changes. Assumes nothing.
use mathlib.Core.Path.{◌≡◌, refl, ap, ◌∙◌}
use mathlib.Core.Logic.{◌≢◌}
use mathlib.Core.Bool.{Bool, true, false, not}
use mathlib.Core.Option.{Option, none, some}
use Prim.Native.Nat.{ℕ, ◌<◌}
use native.Mathlib.Decide.{ℕ_discrete, dec_lt}
use native.Mathlib.Omega.{arith}
use lib.Dec.{eqb}
use lib.ListN.{get_or, set, length-set}
use lib.Seq.{get_or-set_same, get_or-set_other}
use Rattle.area.proofs.Walks.{true_not_false}
use Rattle.channel.specs.declared.Position.{Position}
use Rattle.channel.specs.declared.Request.{Request}
use Rattle.channel.specs.declared.Turn.{Turn}
use Rattle.channel.specs.declared.Turn.TheVariants.{Idle, Waiting, Displaced, Working}
use Rattle.channel.specs.declared.Unit.{Unit}
use Rattle.channel.specs.declared.Channel.{Channel}
use Rattle.channel.specs.Units.{is_working, size, idle_unit, unit_at, declared_at, turn_at, with_unit, is_idle}
use Rattle.channel_turns.specs.Scans.{waiting_as, standing_of, working, priority, ordinary, begin_of, working_in, priority_in, ordinary_in, Scanned}
use Rattle.channel_turns.specs.Turns.{is_ordinary, holds_priority}
use Rattle.channel.proofs.Laws.Units.{unit_beyond}
use Rattle.channel_theorems.proofs.Theorems.Scan.{scan_is, scanned_as}

-- ---- a unit's turn

-- it waits for a start, as a priority request or as an ordinary one
abbrev pub wants_priority : Turn → Bool
wants_priority Idle = false
wants_priority (Waiting q) = q.priority
wants_priority (Displaced q) = q.priority
wants_priority (Working q) = false

abbrev pub wants_turn : Turn → Bool
wants_turn Idle = false
wants_turn (Waiting q) = not q.priority
wants_turn (Displaced q) = not q.priority
wants_turn (Working q) = false

-- an ordinary request that is worked for
abbrev pub works_turn : Turn → Bool
works_turn Idle = false
works_turn (Waiting q) = false
works_turn (Displaced q) = false
works_turn (Working q) = not q.priority

-- a priority request that is worked for
abbrev pub works_priority : Turn → Bool
works_priority Idle = false
works_priority (Waiting q) = false
works_priority (Displaced q) = false
works_priority (Working q) = q.priority

-- by kind: priority requests, or ordinary ones
abbrev pub held_as : Bool → Turn → Bool
held_as true = holds_priority
held_as false = is_ordinary

abbrev pub wants_as : Bool → Turn → Bool
wants_as true = wants_priority
wants_as false = wants_turn

abbrev pub works_as : Bool → Turn → Bool
works_as true = works_priority
works_as false = works_turn

-- the request that a unit holds
abbrev pub held : Turn → Option Request
held Idle = none
held (Waiting q) = some q
held (Displaced q) = some q
held (Working q) = some q

-- how each stands to the scans
waits_working : (b : Bool) → eqb (waiting_as b) working ≡ false
waits_working true = refl
waits_working false = refl

waits_priority : (b : Bool) → eqb (waiting_as b) priority ≡ b
waits_priority true = refl
waits_priority false = refl

waits_ordinary : (b : Bool) → eqb (waiting_as b) ordinary ≡ not b
waits_ordinary true = refl
waits_ordinary false = refl

pub stands_working : (t : Turn) → eqb (standing_of t) working ≡ is_working t
stands_working Idle = refl
stands_working (Waiting q) = waits_working q.priority
stands_working (Displaced q) = waits_working q.priority
stands_working (Working q) = refl

pub stands_priority : (t : Turn) → eqb (standing_of t) priority ≡ wants_priority t
stands_priority Idle = refl
stands_priority (Waiting q) = waits_priority q.priority
stands_priority (Displaced q) = waits_priority q.priority
stands_priority (Working q) = refl

pub stands_ordinary : (t : Turn) → eqb (standing_of t) ordinary ≡ wants_turn t
stands_ordinary Idle = refl
stands_ordinary (Waiting q) = waits_ordinary q.priority
stands_ordinary (Displaced q) = waits_ordinary q.priority
stands_ordinary (Working q) = refl

-- ---- the three scans

-- each kind has a mark of its own, at which its scan begins
abbrev pub mark_as : Bool → Channel → ℕ
mark_as true c = c.urgent
mark_as false c = c.mark

abbrev pub begin_as : Bool → Channel → ℕ
begin_as k c = begin_of (size c) (mark_as k c)

pub working_scan : (c : Channel) → Scanned (λ x. is_working (turn_at c x)) (size c) (begin_of (size c) 0) (working_in c)
unfolding working_in
working_scan c = scanned_as (λ x. stands_working (turn_at c x)) (scan_is c working 0)

-- "Priority requests are now scanned as ordinary ones are, with a mark of their own on each channel."
pub priority_scan : (c : Channel) → Scanned (λ x. wants_priority (turn_at c x)) (size c) (begin_as true c) (priority_in c)
unfolding priority_in
priority_scan c = scanned_as (λ x. stands_priority (turn_at c x)) (scan_is c priority c.urgent)

pub ordinary_scan : (c : Channel) → Scanned (λ x. wants_turn (turn_at c x)) (size c) (begin_as false c) (ordinary_in c)
unfolding ordinary_in
ordinary_scan c = scanned_as (λ x. stands_ordinary (turn_at c x)) (scan_is c ordinary c.mark)

-- ---- another turn at a unit, wherever its reel then stands

pub size_with : (c : Channel) (x : ℕ) (t : Turn) (stood : Position) → size (with_unit c x t stood) ≡ size c
unfolding with_unit
size_with c x t stood = length-set c.units x (record { declared = declared_at c x; turn = t; position = stood })

-- it leaves both marks
pub mark_with : (k : Bool) (c : Channel) (x : ℕ) (t : Turn) (stood : Position) → mark_as k (with_unit c x t stood) ≡ mark_as k c
unfolding with_unit
mark_with true c x t stood = refl
mark_with false c x t stood = refl

-- what holds of the changed unit, and of the others as they were, holds of each
pub at_set : (c : Channel) (x : ℕ) (t : Turn) {stood : Position} → x < size c → (P : ℕ → Unit → Type 0)
    → P x (record { declared = declared_at c x; turn = t; position = stood }) → ((y : ℕ) → y ≢ x → P y (unit_at c y))
    → (y : ℕ) → P y (unit_at (with_unit c x t stood) y)
unfolding with_unit
at_set c x t {stood} l P here others y = go (ℕ_discrete y x)
  where
    new : Unit
    new = record { declared = declared_at c x; turn = t; position = stood }

    go : Dec (y ≡ x) → P y (get_or (set c.units x new) y (idle_unit false))
    go (yes e) = rw (e, get_or-set_same c.units x new (idle_unit false) l) here
    go (no ne) = rw (get_or-set_other c.units x y new (idle_unit false) ne) (others y ne)

-- a test that fails on every unit of the channel, and on an idle one that is not declared, fails everywhere
pub everywhere : (c : Channel) (test : Unit → Bool) → test (idle_unit false) ≡ false → ((x : ℕ) → x < size c → test (unit_at c x) ≡ false)
    → (x : ℕ) → test (unit_at c x) ≡ false
everywhere c test e f x = go (dec_lt x (size c))
  where
    go : Dec (x < size c) → test (unit_at c x) ≡ false
    go (yes l) = f x l
    go (no l) = ap test (unit_beyond c x (omega (arith, l))) ∙ e

-- a unit that passes such a test is one of the channel's
pub inside : (c : Channel) (test : Unit → Bool) → test (idle_unit false) ≡ false → (x : ℕ) → test (unit_at c x) ≡ true → x < size c
inside c test e x h = go (dec_lt x (size c))
  where
    go : Dec (x < size c) → x < size c
    go (yes l) = l
    go (no l) = true_not_false h (ap test (unit_beyond c x (omega (arith, l))) ∙ e)

pub busy_inside : (c : Channel) (x : ℕ) → is_idle (turn_at c x) ≡ false → x < size c
busy_inside c x e = inside c (λ (k : Unit). not (is_idle k.turn)) refl x (ap not e)

pub declared_inside : (c : Channel) (x : ℕ) → declared_at c x ≡ true → x < size c
declared_inside c x e = inside c (λ (k : Unit). k.declared) refl x e
