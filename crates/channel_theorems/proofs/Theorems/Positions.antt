-- Where the reel of each unit stands after a call, and that its counts are held. Assumes nothing.
use mathlib.Core.Path.{◌≡◌, refl, sym, ◌∙◌}
use mathlib.Core.Logic.{◌≢◌}
use mathlib.Core.Bool.{Bool, true, false, cond}
use Prim.Native.Nat.{ℕ, ◌+◌, ◌≤◌, ◌<◌}
use native.Mathlib.Omega.{arith}
use lib.Dec.{eqb, ltb}
use borrow.Author.Tests.{eq-eqb, ne_eqb, ltb-true}
use Rattle.area.proofs.Walks.{by_test}
use Rattle.area.proofs.Marks.{cond_true, cond_false}
use Rattle.channel.specs.declared.Op.{Op}
use Rattle.channel.specs.declared.Op.TheVariants.{Read, Write, Mark}
use Rattle.channel.specs.declared.Position.{Position}
use Rattle.channel.specs.declared.Request.{Request}
use Rattle.channel.specs.declared.Turn.{Turn}
use Rattle.channel.specs.declared.Turn.TheVariants.{Idle, Waiting}
use Rattle.channel.specs.declared.Channel.{Channel}
use Rattle.channel_outcomes.specs.declared.Ending.{Ending}
use Rattle.channel_outcomes.specs.declared.Ending.TheVariants.{Good, Opposite, MarkRead, MediumEnd, LostRedundancy, LostIncomplete}
use Rattle.channel_outcomes.specs.Positions.{most_passed, one_more, record_passed, mark_passed, position_after, noted_by}
use Rattle.channel.specs.Units.{size, turn_at, position_at, operation_at, with_unit, with_turn}
use Rattle.channel_turns.specs.Starts.{start_of, new_request}
use Rattle.channel_turns.specs.Turns.{goes_on, incomplete_turn, repeat_of, end_of}
use Rattle.channel_theorems.specs.History.{Station, ask, Step}
use Rattle.channel_theorems.proofs.Theorems.Turning.{at_set, declared_inside}
use Rattle.channel_theorems.proofs.Theorems.Starts.{Started, is_frozen, is_busy, is_quiet, begins, started}
use Rattle.channel_theorems.proofs.Theorems.Calls.{ended_at, Took, refuses, asks}
use Rattle.std.specs.declared.option.Option.{Option}
use Rattle.std.specs.declared.option.Option.TheVariants.{Some, None}

-- ---- "each held at 32,767"

one_held_lem : (n : ℕ) → one_more n ≤ most_passed
one_held_lem n = by_test (λ b. cond b (n + 1) most_passed ≤ most_passed) (ltb n most_passed) (λ e. let l = ltb-true n most_passed e in omega arith) (λ e. omega arith)

pub record Held (p : Position) : Type 0 where
  pub marks : p.marks ≤ most_passed
  pub records : p.records ≤ most_passed

record_held : (p : Position) → Held p → Held (record_passed p)
unfolding record_passed
record_held p h = record { marks = h.marks; records = one_held_lem p.records }

mark_held : (p : Position) → Held p → Held (mark_passed p)
unfolding mark_passed
mark_held p h = record { marks = one_held_lem p.marks; records = omega arith }

op_held_lem : (op : Op) (e : Ending) (p : Position) → Held p → Held (position_after (Some op) e p)
op_held_lem Read Good p h = record_held p h
op_held_lem Read Opposite p h = record_held p h
op_held_lem Read MarkRead p h = mark_held p h
op_held_lem Read MediumEnd p h = h
op_held_lem Read LostRedundancy p h = h
op_held_lem Read LostIncomplete p h = h
op_held_lem Write Good p h = record_held p h
op_held_lem Write Opposite p h = h
op_held_lem Write MarkRead p h = h
op_held_lem Write MediumEnd p h = record_held p h
op_held_lem Write LostRedundancy p h = h
op_held_lem Write LostIncomplete p h = h
op_held_lem Mark Good p h = mark_held p h
op_held_lem Mark Opposite p h = h
op_held_lem Mark MarkRead p h = h
op_held_lem Mark MediumEnd p h = mark_held p h
op_held_lem Mark LostRedundancy p h = h
op_held_lem Mark LostIncomplete p h = h

pub after_held_lem : (x : Option Op) (e : Ending) (p : Position) → Held p → Held (position_after x e p)
after_held_lem (Some op) e p h = op_held_lem op e p h
after_held_lem None e p h = h

pub noted_held : (p : Position) (q : Request) → Held p → Held (noted_by p q)
unfolding noted_by
noted_held p q h = record { marks = h.marks; records = h.records }

-- ---- where each reel stands

stands_start : (c : Channel) (f : Bool) (y : ℕ) → position_at (start_of c f) y ≡ position_at c y
stands_start c f y = go (start_of c f) (started c f)
  where
    go : (d : Channel) → Started c f d → position_at d y ≡ position_at c y
    go d (is_frozen e) = refl
    go d (is_busy x e) = refl
    go d (is_quiet g) = refl
    go d (begins x t b) = at_set c x t b.within (λ z k. k.position ≡ position_at c z) refl (λ z ne. refl) y

stands_set : (c : Channel) (x : ℕ) (t : Turn) (p : Position) (y : ℕ) → x < size c → position_at (with_unit c x t p) y ≡ cond (eqb y x) p (position_at c y)
stands_set c x t p y l =
    at_set c x t l (λ z k. k.position ≡ cond (eqb z x) p (position_at c z))
    (sym (cond_true p (position_at c x) (eq-eqb x x refl)))
    (λ z ne. sym (cond_false p (position_at c z) (ne_eqb z x ne))) y

-- an ask moves none
pub ask_stands : (s : Station) (u : ℕ) (op : Op) (p : Bool) (o : Step) → Took s (ask u op p) o → (y : ℕ) → position_at o.after.channel y ≡ position_at s.channel y
ask_stands s u op p o refuses y = refl
ask_stands s u op p o (asks x q b d i) y =
    stands_start (with_turn s.channel x (Waiting (new_request q b))) s.frozen y
    ∙ at_set s.channel x (Waiting (new_request q b)) (declared_inside s.channel x d) (λ z k. k.position ≡ position_at s.channel z) refl (λ z ne. refl) y

-- nor does a thaw
pub thaw_stands : (c : Channel) (y : ℕ) → position_at (start_of c false) y ≡ position_at c y
thaw_stands c y = stands_start c false y

-- a report moves that of its own unit alone
module _ (c : Channel) (u : ℕ) (l : u < size c) (frozen : Bool) (y : ℕ) where
  pub repeat_stands : (q : Request) → position_at (repeat_of c u q frozen) y ≡ cond (eqb y u) (noted_by (position_at c u) q) (position_at c y)
  unfolding repeat_of
  repeat_stands q =
      stands_start (with_unit c u (incomplete_turn (goes_on c q.priority frozen) q) (noted_by (position_at c u) q)) frozen y
      ∙ stands_set c u (incomplete_turn (goes_on c q.priority frozen) q) (noted_by (position_at c u) q) y l

  pub end_stands : (e : Ending) → position_at (end_of c u e frozen) y ≡ cond (eqb y u) (position_after (operation_at c u) e (position_at c u)) (position_at c y)
  unfolding end_of
  end_stands e =
      stands_start (ended_at c u (position_after (operation_at c u) e (position_at c u))) frozen y
      ∙ stands_set c u Idle (position_after (operation_at c u) e (position_at c u)) y l
