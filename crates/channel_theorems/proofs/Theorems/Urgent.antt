-- M-112 over one channel: a priority request is answered by the time 201 × U + 1 reports have been accepted, for every number of units and
-- every history from a fresh start. Assumes nothing.
use mathlib.Core.Path.{◌≡◌, refl}
use mathlib.Core.Bool.{Bool, true, false}
use mathlib.Core.List.{List, [], ◌∷◌}
use Prim.Native.Nat.{ℕ, ◌+◌, ◌*◌, ◌≤◌, ◌<◌}
use native.Mathlib.Omega.{arith}
use Rattle.area.specs.Lists.{one_if}
use Rattle.channel.specs.declared.Op.{Op}
use Rattle.channel_outcomes.specs.Rules.{most_reports}
use Rattle.channel.specs.Units.{size, turn_at, is_idle}
use Rattle.channel_theorems.specs.History.{Station, Event, ask, accepted, step, fresh, run, count, a_report, an_answer_to, declared_in, KeptUrgent}
use Rattle.channel_theorems.proofs.Theorems.Starts.{turn_busy}
use Rattle.channel_theorems.proofs.Theorems.Calls.{took}
use Rattle.channel_theorems.proofs.Theorems.Sound.{Sound, sound_step, sound_run}
use Rattle.channel_theorems.proofs.Theorems.Race.{Race}
use Rattle.channel_theorems.proofs.Theorems.Budget.{budget, budget_urgent, budget_least}
use Rattle.channel_theorems.proofs.Theorems.Urged.{Last, urged}
use Rattle.channel_theorems.proofs.Theorems.Demand.{one_zero, keeps_within, race, sound, awake, few}

-- a history in which u is not answered
record Paid (n u : ℕ) (D : ℕ → Bool) (b : Bool) (s : Station) (h : List Event) : Type 0 where
  served : ℕ → Bool
  still : Bool
  race : Race true n u served (run s h).channel
  pays : budget true n served (run s h).channel + one_if still + count a_report s h ≤ budget true n D s.channel + one_if b

paid : (n u : ℕ) (D : ℕ → Bool) (b : Bool) (s : Station) (h : List Event) → Sound s.channel → Race true n u D s.channel → Last b s.channel
    → count (an_answer_to u) s h ≡ 0 → Paid n u D b s h
unfolding run count
paid n u D b s [] k r v e = record { served = D; still = b; race = r; pays = omega arith }
paid n u D b s (e ∷ h) k r v z =
    let p = urged n u D b s e (step s e) k r v (took s e) (one_zero (an_answer_to u e (step s e).answer) (count (an_answer_to u) (step s e).after h) z) in
    let q = paid n u p.served p.still (step s e).after h (sound_step s e k) p.race p.last (omega arith) in
    record { served = q.served; still = q.still; race = q.race; pays = omega (arith, p.pays, q.pays) }

pub demand_urgent : (declared : List Bool) (before : List Event) (u : ℕ) (op : Op) (later : List Event)
    → (step (run (fresh declared) before) (ask u op true)).answer ≡ accepted
    → KeptUrgent (declared_in declared) u (step (run (fresh declared) before) (ask u op true)).after later
demand_urgent declared before u op later e =
    keeps_within _ u d later (awake true declared before u op e) (turn_busy true (turn_at d.channel u) start.mine)
    (λ z. until (paid n u (λ x. false) true d later fit start (λ x w. refl) z))
  where
    s : Station
    s = run (fresh declared) before

    d : Station
    d = (step s (ask u op true)).after

    n : ℕ
    n = size s.channel

    start : Race true n u (λ x. false) d.channel
    start = race true declared before u op e

    fit : Sound d.channel
    fit = sound true declared before u op e

    until : Paid n u (λ x. false) true d later
        → (is_idle (turn_at (run d later).channel u) ≡ false) × (count a_report d later < most_reports * declared_in declared + 1)
    until p =
        let i = budget_least true n u p.served (run d later).channel (sound_run d later fit).ok p.race in
        let k = budget_urgent n d.channel fit.ok in
        let v = few true declared before u op e in
        (turn_busy true (turn_at (run d later).channel u) p.race.mine, omega (arith, p.pays))
