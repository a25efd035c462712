-- Which calls start a unit, from what, and which leave the one that works. Assumes nothing.
use mathlib.Core.Path.{◌≡◌, refl, sym, ap, ◌∙◌}
use mathlib.Core.Logic.{◌≢◌}
use mathlib.Core.Bool.{Bool, true, false}
use Prim.Native.Nat.{ℕ, ◌<◌}
use native.Mathlib.Omega.{arith}
use Rattle.area.proofs.Walks.{true_not_false}
use Rattle.channel.specs.declared.Op.{Op}
use Rattle.channel.specs.declared.Position.{Position}
use Rattle.channel.specs.declared.Request.{Request}
use Rattle.channel.specs.declared.Turn.{Turn}
use Rattle.channel.specs.declared.Turn.TheVariants.{Idle, Waiting, Displaced, Working}
use Rattle.channel.specs.declared.Channel.{Channel}
use Rattle.channel.specs.Units.{size, turn_at, position_at, operation_at, with_unit, with_turn, is_idle, is_working}
use Rattle.channel_outcomes.specs.declared.Ending.{Ending}
use Rattle.channel_outcomes.specs.Positions.{position_after, noted_by}
use Rattle.channel_turns.specs.Starts.{start_of, new_request}
use Rattle.channel_turns.specs.Turns.{goes_on, repeat_of, end_of}
use Rattle.channel_theorems.specs.History.{Station, Event, ask, accepted, Step}
use Rattle.channel_theorems.proofs.Theorems.Turning.{held, at_set, busy_inside, declared_inside}
use Rattle.channel_theorems.proofs.Theorems.Calls.{ended_at, Took, refuses, asks, repeats, ends, freezes, thaws}
use Rattle.channel_theorems.proofs.Theorems.Sound.{OneWorks}
use Rattle.channel_theorems.proofs.Theorems.Bookings.{Quiet, Busy, urgent_held, wants_priority_lem, quiet_set, set_aside, start_busy, start_frozen}

-- ---- a start from a channel on which no unit works

pub record StartedFrom (d : Channel) : Type 0 where
  pub quietly : Channel
  pub quiet : Quiet quietly
  pub is : start_of quietly false ≡ d

-- an ask makes no unit work by itself
waits_quiet : (c : Channel) (u : ℕ) (q : Request) → u < size c → Quiet c → Quiet (with_turn c u (Waiting q))
waits_quiet c u q l quiet = at_set c u (Waiting q) l (λ y k. is_working k.turn ≡ false) refl (λ y ne. quiet y)

pub ask_starts : (s : Station) (u : ℕ) (op : Op) (p : Bool) (o : Step) → Took s (ask u op p) o → o.answer ≡ accepted → Quiet s.channel
    → s.frozen ≡ false → StartedFrom o.after.channel
ask_starts s u op p o refuses e quiet f = absurd (let z : ◌≡◌ {A = ℕ} 0 1 = cc in omega arith)
ask_starts s u op p o (asks x q b d i) e quiet f = record {
  quietly = with_turn s.channel x (Waiting (new_request q b));
  quiet = waits_quiet s.channel x (new_request q b) (declared_inside s.channel x d) quiet;
  is = ap (start_of (with_turn s.channel x (Waiting (new_request q b)))) (sym f);
}

module _ (c : Channel) (one : OneWorks c) (u : ℕ) (r : Request) (at : turn_at c u ≡ Working r) where
  inside_u : u < size c
  inside_u = busy_inside c u (ap is_idle at)

  stopped : (t : Turn) (stood : Position) → is_working t ≡ false → Quiet (with_unit c u t stood)
  stopped t stood w = quiet_set c u t _ one (ap is_working at) w inside_u

  -- where the reel stands after the end of an operation, and while it is repeated
  abbrev ending : Ending → Position
  ending e = position_after (operation_at c u) e (position_at c u)

  abbrev going : Request → Position
  going q = noted_by (position_at c u) q

  -- the end of an operation
  pub end_starts : (e : Ending) → StartedFrom (end_of c u e false)
  unfolding end_of
  end_starts e = record { quietly = ended_at c u (ending e); quiet = stopped Idle _ refl; is = refl }

  pub end_halts : (e : Ending) → Quiet (end_of c u e true)
  unfolding end_of
  end_halts e y = ap (λ (d : Channel). is_working (turn_at d y)) (start_frozen (ended_at c u (ending e))) ∙ stopped Idle _ refl y

  -- an operation that is repeated while a priority request of another unit waits
  pub aside_starts : (q : Request) → q.priority ≡ false → (y : ℕ) → y ≢ u → urgent_held (held (turn_at c y)) ≡ true → StartedFrom (repeat_of c u q false)
  aside_starts q p y ne w = record {
    quietly = with_unit c u (Displaced q) (going q);
    quiet = stopped (Displaced q) _ refl;
    is = sym (set_aside c u r q at p y (wants_priority_lem (turn_at c y) (rests (is_working (turn_at c y)) refl) ∙ w));
  }
    where
      rests : (b : Bool) → is_working (turn_at c y) ≡ b → b ≡ false
      rests true e = absurd (ne (one y u e (ap is_working at)))
      rests false e = refl

  -- "an incomplete operation then waits like a displaced one"
  pub repeat_halts : (q : Request) → Quiet (repeat_of c u q true)
  unfolding repeat_of goes_on
  repeat_halts q y = ap (λ (d : Channel). is_working (turn_at d y)) (start_frozen (with_unit c u (Displaced q) (going q))) ∙ stopped (Displaced q) _ refl y

-- ---- "Freeze stops starts": whoever works after a call in a freeze worked before it

pub no_start : (s : Station) (e : Event) (o : Step) → Took s e o → o.after.frozen ≡ true → (u : ℕ)
    → is_working (turn_at o.after.channel u) ≡ true → is_working (turn_at s.channel u) ≡ true
no_start s e o refuses f u w = w
no_start s e o (asks x op p d i) f u w =
    at_set s.channel x (Waiting (new_request op p)) (declared_inside s.channel x d)
    (λ y k. is_working k.turn ≡ true → is_working (turn_at s.channel y) ≡ true) (λ h. true_not_false h refl) (λ y ne h. h) u
    (sym (ap (λ (c : Channel). is_working (turn_at c u))
    (ap (start_of (with_turn s.channel x (Waiting (new_request op p)))) f ∙ start_frozen (with_turn s.channel x (Waiting (new_request op p))))) ∙ w)
no_start s e o (repeats x oc len r q t stood i j m stands) f u w =
    at_set s.channel x t (busy_inside s.channel x (ap is_idle i))
    (λ y k. is_working k.turn ≡ true → is_working (turn_at s.channel y) ≡ true) (λ h. ap is_working i) (λ y ne h. h) u
    (sym (ap (λ (c : Channel). is_working (turn_at c u)) (ap (start_of (with_unit s.channel x t stood)) f ∙ start_frozen (with_unit s.channel x t stood))) ∙ w)
no_start s e o (ends x oc len r how stood i judged stands) f u w =
    at_set s.channel x Idle (busy_inside s.channel x (ap is_idle i))
    (λ y k. is_working k.turn ≡ true → is_working (turn_at s.channel y) ≡ true) (λ h. ap is_working i) (λ y ne h. h) u
    (sym (ap (λ (c : Channel). is_working (turn_at c u)) (ap (start_of (ended_at s.channel x stood)) f ∙ start_frozen (ended_at s.channel x stood))) ∙ w)
no_start s e o freezes f u w = w
no_start s e o thaws f u w = true_not_false f refl

-- ---- an ask on a channel that works leaves the one that works

pub ask_busy : (s : Station) (x : ℕ) (op : Op) (p : Bool) (o : Step) → Took s (ask x op p) o → Busy s.channel → (u : ℕ)
    → is_working (turn_at o.after.channel u) ≡ is_working (turn_at s.channel u)
ask_busy s x op p o refuses b u = refl
ask_busy s x op p o (asks v q pr d i) b u =
    ap (λ (c : Channel). is_working (turn_at c u)) (start_busy waiting s.frozen b.unit (same b.unit ∙ b.works)) ∙ same u
  where
    waiting : Channel
    waiting = with_turn s.channel v (Waiting (new_request q pr))

    same : (y : ℕ) → is_working (turn_at waiting y) ≡ is_working (turn_at s.channel y)
    same =
        at_set s.channel v (Waiting (new_request q pr)) (declared_inside s.channel v d)
        (λ y k. is_working k.turn ≡ is_working (turn_at s.channel y)) (sym (ap is_working i)) (λ y ne. refl)
