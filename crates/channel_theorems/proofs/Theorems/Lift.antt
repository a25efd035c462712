-- Demand 3, and M-112's bound, lifted to a system: the channel's events in a system's history are a history of the channel. Assumes nothing.
use mathlib.Core.Path.{◌≡◌, refl, ap, ◌∙◌, subst}
use mathlib.Core.Bool.{Bool, true, false}
use mathlib.Core.Option.{Option, none, some}
use mathlib.Core.List.{List, [], ◌∷◌}
use Prim.Native.Nat.{ℕ, ◌+◌, ◌*◌}
use native.Mathlib.Omega.{arith}
use Rattle.channel.specs.declared.Op.{Op}
use Rattle.channel_outcomes.specs.Rules.{most_reports}
use Rattle.channel_theorems.specs.History.{Station, Event, ask, Answer, accepted, Step, step_to, step, fresh, run, count, a_report, a_priority, a_request_of, an_answer_to, is_alive, declared_in, urgent_in, KeptWithin, Kept, KeptUrgent}
use Rattle.area.specs.Lists.{one_if}
use Rattle.channel_theorems.specs.Lifted.{Shown, Agrees, System, run_in, count_shown, count_in, KeptWithinIn, KeptIn, KeptUrgentIn}
use Rattle.channel_theorems.proofs.Theorems.Demand.{demand3}
use Rattle.channel_theorems.proofs.Theorems.Urgent.{demand_urgent}

-- one call more, as the channel sees it
abbrev onto : Option Shown → List Event → List Event
onto none h = h
onto (some x) h = x.event ∷ h

run_onto : (s : Station) (x : Option Shown) (d : Station) (h : List Event) → Agrees s x d → run s (onto x h) ≡ run d h
unfolding run
run_onto s none d h a = rw a
run_onto s (some x) d h a = ap (λ (r : Step). run r.after h) a

count_onto : (kind : Event → Answer → Bool) (s : Station) (x : Option Shown) (d : Station) (h : List Event) → Agrees s x d
    → count kind s (onto x h) ≡ count_shown kind x + count kind d h
unfolding count
count_onto kind s none d h a = rw a (omega arith)
count_onto kind s (some x) d h a = ap (λ (r : Step). one_if (kind x.event r.answer) + count kind r.after h) a

-- what holds where the history led, and after the ask of kind k that was accepted there
kept_at : (declared : List Bool) (before : List Event) (u : ℕ) (op : Op) (k : Bool) (P : Station → Station → Type 0)
    → ((step (run (fresh declared) before) (ask u op k)).answer ≡ accepted → P (run (fresh declared) before) (step (run (fresh declared) before) (ask u op k)).after)
    → (s d : Station) → run (fresh declared) before ≡ s → step s (ask u op k) ≡ step_to accepted d → P s d
kept_at declared before u op k P law s d p =
    subst (λ (s' : Station). step s' (ask u op k) ≡ step_to accepted d → P s' d) p
    (λ q. subst (P (run (fresh declared) before)) (ap (λ (r : Step). r.after) q) (law (ap (λ (r : Step). r.answer) q)))

-- Good is what holds of every state that the system's calls lead to
module _ (S : System) (Good : S.State → Type 0)
    (keeps : (s : S.State) (k : S.Call) → Good s → Good (S.next s k))
    (agrees : (s : S.State) (k : S.Call) → Good s → Agrees (S.part s) (S.shown s k) (S.part (S.next s k))) where
  events : S.State → List S.Call → List Event
  events s [] = []
  events s (k ∷ h) = onto (S.shown s k) (events (S.next s k) h)

  run_part_lem : (s : S.State) (h : List S.Call) → Good s → run (S.part s) (events s h) ≡ S.part (run_in S s h)
  unfolding run events run_in
  run_part_lem s [] g = refl
  run_part_lem s (k ∷ h) g =
      run_onto (S.part s) (S.shown s k) (S.part (S.next s k)) (events (S.next s k) h) (agrees s k g) ∙ run_part_lem (S.next s k) h (keeps s k g)

  count_part : (kind : Event → Answer → Bool) (s : S.State) (h : List S.Call) → Good s → count kind (S.part s) (events s h) ≡ count_in S kind s h
  unfolding count events count_in
  count_part kind s [] g = refl
  count_part kind s (k ∷ h) g =
      let a = count_onto kind (S.part s) (S.shown s k) (S.part (S.next s k)) (events (S.next s k) h) (agrees s k g) in
      let b = count_part kind (S.next s k) h (keeps s k g) in
      omega arith

  good_run : (s : S.State) (h : List S.Call) → Good s → Good (run_in S s h)
  unfolding run_in
  good_run s [] g = g
  good_run s (k ∷ h) g = good_run (S.next s k) h (keeps s k g)

  -- the promises of the channel's history are those of the system's
  within_part : (most u : ℕ) (d : S.State) (later : List S.Call) → Good d → KeptWithin most u (S.part d) (events d later) → KeptWithinIn S most u d later
  within_part most u d later g kept = record {
    once = let a = seen (an_answer_to u) in let b = seen (a_request_of u) in omega (arith, kept.once);
    alive = λ n. let a = seen (an_answer_to u) in subst (λ (x : Station). is_alive x ≡ true) (run_part_lem d later g) (kept.alive (omega arith));
    sole = λ n. let a = seen (an_answer_to u) in let b = seen (a_request_of u) in let h = kept.sole (omega arith) in omega arith;
    soon = λ n. let a = seen (an_answer_to u) in let b = seen a_report in let h = kept.soon (omega arith) in omega arith;
  }
    where
      seen : (kind : Event → Answer → Bool) → count kind (S.part d) (events d later) ≡ count_in S kind d later
      seen kind = count_part kind d later g

  -- s₀ is the system after a fresh start that declares units; the call x is an accepted ask of unit u, of kind k
  module _ (declared : List Bool) (s₀ : S.State) (g₀ : Good s₀) (z : S.part s₀ ≡ fresh declared) (before : List S.Call) (u : ℕ) (op : Op)
      (x : S.Call) (later : List S.Call) where
    asked_at : (k : Bool) → S.shown (run_in S s₀ before) x ≡ some (record { event = ask u op k; answer = accepted })
        → (P : Station → Station → Type 0)
        → ((step (run (fresh declared) (events s₀ before)) (ask u op k)).answer ≡ accepted
        → P (run (fresh declared) (events s₀ before)) (step (run (fresh declared) (events s₀ before)) (ask u op k)).after)
        → P (S.part (run_in S s₀ before)) (S.part (S.next (run_in S s₀ before) x))
    asked_at k e P law =
        kept_at declared (events s₀ before) u op k P law (S.part s) (S.part (S.next s x))
        (subst (λ (c : Station). run c (events s₀ before) ≡ S.part s) z (run_part_lem s₀ before g₀))
        (subst (λ (y : Option Shown). Agrees (S.part s) y (S.part (S.next s x))) e (agrees s x (good_run s₀ before g₀)))
      where
        s : S.State
        s = run_in S s₀ before

    good_then : Good (S.next (run_in S s₀ before) x)
    good_then = keeps (run_in S s₀ before) x (good_run s₀ before g₀)

    pub demand3_lifted : S.shown (run_in S s₀ before) x ≡ some (record { event = ask u op false; answer = accepted })
        → KeptIn S (declared_in declared) u (run_in S s₀ before) (S.next (run_in S s₀ before) x) later
    demand3_lifted e =
        subst (λ (n : ℕ). KeptWithinIn S (most_reports * (declared_in declared + (urgent_in (S.part (run_in S s₀ before)).channel + n))) u d later)
        (count_part a_priority d later good_then)
        (within_part _ u d later good_then
        (asked_at false e (λ s d'. Kept (declared_in declared) u s d' (events d later)) (demand3 declared (events s₀ before) u op (events d later))))
      where
        d : S.State
        d = S.next (run_in S s₀ before) x

    pub urgent_lifted : S.shown (run_in S s₀ before) x ≡ some (record { event = ask u op true; answer = accepted })
        → KeptUrgentIn S (declared_in declared) u (S.next (run_in S s₀ before) x) later
    urgent_lifted e =
        within_part _ u d later good_then
        (asked_at true e (λ s d'. KeptUrgent (declared_in declared) u d' (events d later)) (demand_urgent declared (events s₀ before) u op (events d later)))
      where
        d : S.State
        d = S.next (run_in S s₀ before) x
