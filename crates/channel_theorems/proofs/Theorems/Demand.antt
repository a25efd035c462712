-- Demand 3 over one channel, and what M-112's bound for priority requests shares with it, for every number of units and every history from a fresh start. Assumes nothing.
use mathlib.Core.Path.{◌≡◌, refl, ap, sym, ◌∙◌}
use mathlib.Core.Bool.{Bool, true, false}
use mathlib.Core.List.{List, [], ◌∷◌}
use Prim.Native.Nat.{ℕ, ◌+◌, ◌*◌, ◌≤◌, ◌<◌}
use native.Mathlib.Omega.{arith}
use Rattle.area.proofs.Walks.{true_not_false}
use Rattle.channel.specs.declared.Op.{Op}
use Rattle.channel.specs.declared.Turn.{Turn}
use Rattle.channel.specs.declared.Turn.TheVariants.{Idle, Waiting, Displaced, Working}
use Rattle.channel.specs.declared.Channel.{Channel}
use Rattle.channel_outcomes.specs.Rules.{most_reports}
use Rattle.channel.specs.Units.{size, declared_at, turn_at, with_turn, fresh_with, is_idle}
use Rattle.channel_turns.specs.Turns.{holds_priority}
use Rattle.channel_turns.specs.Starts.{start_of, new_request}
use Rattle.channel_theorems.specs.History.{Station, Event, ask, accepted, Step, step, fresh, run, count, a_report, a_priority, an_answer_to, declared_in, urgent_in, KeptWithin, Kept}
use Rattle.area.specs.Lists.{one_if}
use Rattle.channel_theorems.proofs.Laws.Sums.{sum}
use Rattle.channel_theorems.proofs.Theorems.Turning.{held_as, held, size_with, at_set, declared_inside}
use Rattle.channel_theorems.proofs.Theorems.Starts.{turn_busy, started}
use Rattle.channel_theorems.proofs.Theorems.Calls.{Took, refuses, asks, took}
use Rattle.channel_theorems.proofs.Theorems.Sound.{Sound, sound_step, sound_run}
use Rattle.channel_theorems.proofs.Theorems.Progress.{Awake, awake_kept, awake_run}
use Rattle.channel_theorems.proofs.Theorems.Race.{Race, race_start}
use Rattle.channel_theorems.proofs.Theorems.Budget.{budget, budget_most, budget_least}
use Rattle.channel_theorems.proofs.Theorems.Raced.{raced}
use Rattle.channel_theorems.proofs.Theorems.Fresh.{fresh_size, sound_fresh, awake_fresh, SameUnits, units_trans, units_step, units_run}
use Rattle.channel_theorems.proofs.Theorems.Balance.{one_held, holding_most, balance}
use Rattle.channel_theorems.proofs.Theorems.Counts.{declared_most, urgent_most, priority_start}

-- ---- a history in which u is not answered

record Paid (n u : ℕ) (D : ℕ → Bool) (s : Station) (h : List Event) : Type 0 where
  served : ℕ → Bool
  race : Race false n u served (run s h).channel
  pays : budget false n served (run s h).channel + count a_report s h ≤ budget false n D s.channel + most_reports * count a_priority s h

pub one_zero : (b : Bool) (n : ℕ) → one_if b + n ≡ 0 → b ≡ false
one_zero true n e = absurd (omega arith)
one_zero false n e = refl

paid : (n u : ℕ) (D : ℕ → Bool) (s : Station) (h : List Event) → Sound s.channel → Race false n u D s.channel → count (an_answer_to u) s h ≡ 0 → Paid n u D s h
unfolding run count
paid n u D s [] k r e = record { served = D; race = r; pays = omega arith }
paid n u D s (e ∷ h) k r z =
    let p = raced n u D s e (step s e) k r (took s e) (one_zero (an_answer_to u e (step s e).answer) (count (an_answer_to u) (step s e).after h) z) in
    let q = paid n u p.served (step s e).after h (sound_step s e k) p.race (omega arith) in
    record { served = q.served; race = q.race; pays = omega (arith, p.pays, q.pays) }

-- ---- the request is accepted

new_held : (k : Bool) (op : Op) → held_as k (Waiting (new_request op k)) ≡ true
new_held true op = refl
new_held false op = refl

-- the race that it runs, among the requests of its kind
pub enters : (k : Bool) (s : Station) (u : ℕ) (op : Op) (o : Step) → Took s (ask u op k) o → o.answer ≡ accepted
    → Race k (size s.channel) u (λ x. false) o.after.channel
enters k s u op o refuses e = absurd (let z : ◌≡◌ {A = ℕ} 0 1 = cc in omega arith)
enters k s u op o (asks x q b d i) e =
    race_start b (size s.channel) x (λ y. false) new s.frozen (start_of new s.frozen) first (started new s.frozen)
  where
    new : Channel
    new = with_turn s.channel x (Waiting (new_request q b))

    first : Race b (size s.channel) x (λ y. false) new
    first = record {
      long = size_with s.channel x (Waiting (new_request q b)) _;
      self = refl;
      mine =
          at_set s.channel x (Waiting (new_request q b)) (declared_inside s.channel x d) (λ y j. y ≡ x → held_as b j.turn ≡ true)
          (λ j. new_held b q) (λ y ne j. absurd (ne j)) x refl;
      ahead = λ y j. refl;
      work = λ y j m. (refl, λ z w. refl);
    }

-- an ordinary one leaves the priority requests
urgents : (s : Station) (u : ℕ) (op : Op) (o : Step) → Took s (ask u op false) o → (y : ℕ)
    → holds_priority (turn_at o.after.channel y) ≡ holds_priority (turn_at s.channel y)
urgents s u op o refuses y = refl
urgents s u op o (asks x q b d i) y = priority_start (with_turn s.channel x (Waiting (new_request q false))) s.frozen y ∙ asked y
  where
    asked : (y : ℕ) → holds_priority (turn_at (with_turn s.channel x (Waiting (new_request q false))) y) ≡ holds_priority (turn_at s.channel y)
    asked =
        at_set s.channel x (Waiting (new_request q false)) (declared_inside s.channel x d)
        (λ y k. holds_priority k.turn ≡ holds_priority (turn_at s.channel y))
        (sym (ap holds_priority i)) (λ y ne. refl)

-- ---- what both kinds keep, while u holds its request until the answer

turn_holding : (t : Turn) → is_idle t ≡ false → one_held (held t) ≡ 1
turn_holding Idle e = true_not_false refl e
turn_holding (Waiting q) e = refl
turn_holding (Displaced q) e = refl
turn_holding (Working q) e = refl

pub keeps_within : (most u : ℕ) (d : Station) (later : List Event) → Awake d → is_idle (turn_at d.channel u) ≡ false
    → (count (an_answer_to u) d later ≡ 0 → (is_idle (turn_at (run d later).channel u) ≡ false) × (count a_report d later < most))
    → KeptWithin most u d later
keeps_within most u d later awake at_first until = record {
  once =
      let a = balance u d later in
      let b = holding_most (held (turn_at d.channel u)) in
      omega arith;
  alive = λ z. awake_run d later awake u (until z).0;
  sole = λ z.
      let a = balance u d later in
      let b = holding_most (held (turn_at (run d later).channel u)) in
      let h = turn_holding (turn_at d.channel u) at_first in
      omega arith;
  soon = λ z. (until z).1;
}

-- the state in which a request was accepted, and the one after it
module _ (k : Bool) (declared : List Bool) (before : List Event) (u : ℕ) (op : Op)
    (e : (step (run (fresh declared) before) (ask u op k)).answer ≡ accepted) where
  abbrev s : Station
  s = run (fresh declared) before

  abbrev d : Station
  d = (step s (ask u op k)).after

  abbrev n : ℕ
  n = size s.channel

  pub same : SameUnits (fresh_with declared) s.channel
  unfolding fresh
  same = units_run (fresh declared) before

  pub race : Race k n u (λ x. false) d.channel
  race = enters k s u op (step s (ask u op k)) (took s (ask u op k)) e

  pub sound : Sound d.channel
  unfolding fresh
  sound = sound_step s (ask u op k) (sound_run (fresh declared) before (sound_fresh declared))

  pub awake : Awake d
  awake = awake_kept s (ask u op k) (step s (ask u op k)) (awake_run (fresh declared) before (awake_fresh declared)) (took s (ask u op k))

  pub few : sum n (λ x. one_if (declared_at d.channel x)) ≤ declared_in declared
  few = declared_most n declared d.channel (same.long ∙ fresh_size declared) (units_trans same (units_step s (ask u op k) (step s (ask u op k)) (took s (ask u op k))))

-- ---- demand 3

pub demand3 : (declared : List Bool) (before : List Event) (u : ℕ) (op : Op) (later : List Event)
    → (step (run (fresh declared) before) (ask u op false)).answer ≡ accepted
    → Kept (declared_in declared) u (run (fresh declared) before) (step (run (fresh declared) before) (ask u op false)).after later
demand3 declared before u op later e =
    keeps_within _ u d later (awake false declared before u op e) (turn_busy false (turn_at d.channel u) start.mine) (λ z. until (paid n u (λ x. false) d later fit start z))
  where
    s : Station
    s = run (fresh declared) before

    d : Station
    d = (step s (ask u op false)).after

    n : ℕ
    n = size s.channel

    start : Race false n u (λ x. false) d.channel
    start = race false declared before u op e

    fit : Sound d.channel
    fit = sound false declared before u op e

    until : Paid n u (λ x. false) d later
        → (is_idle (turn_at (run d later).channel u) ≡ false)
        × (count a_report d later < most_reports * (declared_in declared + (urgent_in s.channel + count a_priority d later)))
    until p =
        let i = budget_least false n u p.served (run d later).channel (sound_run d later fit).ok p.race in
        let k = budget_most n d.channel fit.ok in
        let v = few false declared before u op e in
        let w = urgent_most n s.channel d.channel refl (urgents s u op (step s (ask u op false)) (took s (ask u op false))) in
        (turn_busy false (turn_at (run d later).channel u) p.race.mine, omega (arith, p.pays))
