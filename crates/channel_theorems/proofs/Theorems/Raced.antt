-- One call that does not answer an ordinary request: each accepted report costs one attempt of the budget. Assumes nothing.
use mathlib.Core.Path.{◌≡◌, refl, ap, sym, ◌∙◌}
use mathlib.Core.Logic.{◌≢◌}
use mathlib.Core.Bool.{Bool, true, false, not, and-true}
use mathlib.Core.Option.{some}
use Prim.Native.Nat.{ℕ, ◌+◌, ◌*◌, ◌≤◌}
use native.Mathlib.Decide.{ℕ_discrete}
use native.Mathlib.Omega.{arith}
use Rattle.area.proofs.Walks.{true_not_false}
use Rattle.channel.specs.declared.Position.{Position}
use Rattle.channel.specs.declared.Request.{Request}
use Rattle.channel.specs.declared.Turn.{Turn}
use Rattle.channel.specs.declared.Turn.TheVariants.{Idle, Waiting, Displaced, Working}
use Rattle.channel.specs.declared.Channel.{Channel}
use Rattle.channel_outcomes.specs.Rules.{most_reports}
use Rattle.channel.specs.Units.{size, declared_at, turn_at, with_unit, with_turn, with_marks}
use Rattle.channel_turns.specs.Scans.{next_unit}
use Rattle.channel_turns.specs.Turns.{is_ordinary, mark_after, urgent_after}
use Rattle.channel_turns.specs.Starts.{start_of, new_request}
use Rattle.channel_theorems.specs.History.{Station, station, Event, ask, report, thaw, Answer, accepted, repeated, answered, Step, step_to, a_report, a_priority, an_answer_to}
use Rattle.area.specs.Lists.{one_if}
use Rattle.channel_theorems.proofs.Theorems.Turning.{works_turn, held, declared_inside}
use Rattle.channel_theorems.proofs.Theorems.Starts.{started}
use Rattle.channel_theorems.proofs.Theorems.Calls.{ended_at, Incomplete, onward, aside, Took, refuses, asks, repeats, ends, freezes, thaws, not_here}
use Rattle.channel_theorems.proofs.Theorems.Sound.{reports_most, Again, verdict_again, Works, works, Sound}
use Rattle.channel_theorems.proofs.Theorems.Race.{Race, race_start, race_set, race_marks, race_ended, also, also_same, also_other}
use Rattle.channel_theorems.proofs.Theorems.Budget.{budget, budget_at, budget_start, weight_asked, weight_urgent, weight_ended, weight_again}

-- ---- one call that does not answer u: each accepted report costs one, each priority request adds at most all its attempts

pub record Raced (n u : ℕ) (D : ℕ → Bool) (c : Channel) (e : Event) (o : Step) : Type 0 where
  pub served : ℕ → Bool
  pub race : Race false n u served o.after.channel
  pub pays : budget false n served o.after.channel + one_if (a_report e o.answer) ≤ budget false n D c + most_reports * one_if (a_priority e o.answer)

-- the change d, and then a start
then_start : (n u : ℕ) (D E : ℕ → Bool) (c d : Channel) (f : Bool) (e : Event) (a : Answer) → Race false n u E d
    → budget false n E d + one_if (a_report e a) ≤ budget false n D c + most_reports * one_if (a_priority e a)
    → Raced n u D c e (step_to a (station (start_of d f) f))
then_start n u D E c d f e a h l =
    let b = budget_start false n E d f (start_of d f) h.long (started d f) in
    record { served = E; race = race_start false n u E d f (start_of d f) h (started d f); pays = omega arith }

-- a mark says nothing of the units
pub budget_marks : (k : Bool) (n : ℕ) (D : ℕ → Bool) (c : Channel) (m p : ℕ) → budget k n D (with_marks c m p) ≡ budget k n D c
unfolding budget
budget_marks k n D c m p = refl

mark_ordinary : (c : Channel) (x n : ℕ) (r : Request) → size c ≡ n → turn_at c x ≡ Working r → r.priority ≡ false → mark_after c x ≡ next_unit n x
unfolding mark_after
mark_ordinary c x n r long i p = rw (i, p, long)

mark_priority : (c : Channel) (x : ℕ) (stood : Position) (r : Request) → turn_at c x ≡ Working r → r.priority ≡ true → mark_after c x ≡ (with_unit c x Idle stood).mark
unfolding mark_after with_unit
mark_priority c x stood r i p = rw (i, p)

pub raced : (n u : ℕ) (D : ℕ → Bool) (s : Station) (e : Event) (o : Step) → Sound s.channel → Race false n u D s.channel → Took s e o
    → an_answer_to u e o.answer ≡ false → Raced n u D s.channel e o
raced n u D s e o k h refuses a = record { served = D; race = h; pays = omega arith }
raced n u D s e o k h (asks x op p d i) a =
    let c = s.channel in
    let l = declared_inside c x d in
    then_start n u D D c (with_turn c x (Waiting (new_request op p))) s.frozen (ask x op p) accepted
    (race_set false n u D c x (Waiting (new_request op p)) _ h l (λ q. true_not_false h.mine (rw (← q) (ap is_ordinary i))) (λ t. true_not_false t refl))
    (rw (and-true p)
    (budget_at false n D D c x (Waiting (new_request op p)) _ 0 (most_reports * one_if p) h.long l (λ y ne. refl)
    (weight_asked (D x) (declared_at c x) (held (turn_at c x)) op p d (ap held i))))
raced n u D s e o k h (repeats x oc len r q t stood i j m stands) a = go t m
  where
    c : Channel
    c = s.channel

    w : Works c x r
    w = works c x r k.ok i

    g : Again r q
    g = verdict_again r oc len q j

    tried : q.attempts + q.noise ≤ most_reports
    tried = reports_most q (g.keeps w.counted)

    not_ended : r.priority ≡ false → Dec (x ≡ u) → D x ≡ false
    not_ended p (yes y) = rw y h.self
    not_ended p (no y) = (h.work x (ap works_turn i ∙ ap not p) y).0

    pay : (t : Turn) → held t ≡ some q → budget false n D (with_unit c x t stood) + 1 ≤ budget false n D c + 0
    pay t y =
        budget_at false n D D c x t _ 1 0 h.long w.within (λ z ne. refl)
        (rw y
        (weight_again (D x) (declared_at c x) (held (turn_at c x)) r q w.known (ap held i) g tried (λ b. not_ended b (ℕ_discrete x u))))

    still : x ≡ u → not q.priority ≡ true
    still y = ap not g.alike ∙ (sym (ap is_ordinary i) ∙ (rw y h.mine))

    go : (t : Turn) → Incomplete c s.frozen q t → Raced n u D c (report x oc len) (step_to repeated (station (start_of (with_unit c x t stood) s.frozen) s.frozen))
    go t (onward on) =
        then_start n u D D c (with_unit c x (Working q) stood) s.frozen (report x oc len) repeated
        (race_set false n u D c x (Working q) _ h w.within still (λ z. ap works_turn i ∙ (sym (ap not g.alike) ∙ z)))
        (pay (Working q) refl)
    go t (aside off) =
        then_start n u D D c (with_unit c x (Displaced q) stood) s.frozen (report x oc len) repeated
        (race_set false n u D c x (Displaced q) _ h w.within still (λ z. true_not_false z refl))
        (pay (Displaced q) refl)
raced n u D s e o k h (ends x oc len r how stood i judged stands) a = go r.priority refl
  where
    c : Channel
    c = s.channel

    w : Works c x r
    w = works c x r k.ok i

    other : x ≢ u
    other = not_here {x = x} {u = u} a

    tried : r.attempts + r.noise ≤ most_reports
    tried = reports_most r w.counted

    go : (b : Bool) → r.priority ≡ b → Raced n u D c (report x oc len) (step_to answered (station (start_of (ended_at c x stood) s.frozen) s.frozen))
    go true p =
        then_start n u D D c (ended_at c x stood) s.frozen (report x oc len) answered
        (race_marks false n u D (with_unit c x Idle stood) (mark_after c x) (urgent_after c x) (mark_priority c x _ r i p)
        (race_set false n u D c x Idle _ h w.within (λ y. absurd (other y)) (λ t. true_not_false t refl)))
        (rw (budget_marks false n D (with_unit c x Idle stood) (mark_after c x) (urgent_after c x))
        (budget_at false n D D c x Idle _ 1 0 h.long w.within (λ y ne. refl)
        (weight_urgent (D x) (declared_at c x) (held (turn_at c x)) r w.known (ap held i) p tried)))
    go false p =
        let t : works_turn (turn_at c x) ≡ true = ap works_turn i ∙ ap not p in
        then_start n u D (also x D) c (ended_at c x stood) s.frozen (report x oc len) answered
        (race_ended false n u D c x (mark_after c x) (urgent_after c x) _ k h w.within other t (mark_ordinary c x n r h.long i p))
        (rw (budget_marks false n (also x D) (with_unit c x Idle stood) (mark_after c x) (urgent_after c x))
        (budget_at false n D (also x D) c x Idle _ 1 0 h.long w.within (λ y ne. also_other x D y ne)
        (rw (also_same x D)
        (weight_ended (D x) (declared_at c x) (held (turn_at c x)) r w.known (ap held i) p tried (h.work x t other).0))))
raced n u D s e o k h freezes a = record { served = D; race = h; pays = omega arith }
raced n u D s e o k h thaws a = then_start n u D D s.channel s.channel false thaw accepted h (omega arith)
