-- One call that does not answer a priority request: each accepted report costs one attempt of the budget, but for one of an ordinary
-- operation that was at work when the request was accepted. Assumes nothing.
use mathlib.Core.Path.{◌≡◌, refl, ap, ◌∙◌}
use mathlib.Core.Logic.{◌≢◌}
use mathlib.Core.Bool.{Bool, true, false, not, cond, and-false}
use mathlib.Core.Option.{none, some}
use Prim.Native.Nat.{ℕ, ◌+◌, ◌≤◌, ◌<◌}
use native.Mathlib.Decide.{ℕ_discrete}
use native.Mathlib.Omega.{arith}
use Rattle.area.specs.Lists.{one_if}
use Rattle.area.proofs.Walks.{true_not_false}
use Rattle.channel.specs.declared.Position.{Position}
use Rattle.channel.specs.declared.Request.{Request}
use Rattle.channel.specs.declared.Turn.{Turn}
use Rattle.channel.specs.declared.Turn.TheVariants.{Idle, Waiting, Displaced, Working}
use Rattle.channel.specs.declared.Channel.{Channel}
use Rattle.channel_outcomes.specs.Rules.{most_reports}
use Rattle.channel.specs.Units.{size, declared_at, turn_at, position_at, with_unit, with_turn, is_working}
use Rattle.channel_turns.specs.Scans.{next_unit, priority_in}
use Rattle.channel_turns.specs.Turns.{holds_priority, goes_on, mark_after, urgent_after}
use Rattle.channel_turns.specs.Starts.{start_of, new_request}
use Rattle.channel_theorems.specs.History.{Station, station, Event, ask, report, thaw, Answer, accepted, repeated, answered, Step, step_to, a_report, an_answer_to}
use Rattle.channel_theorems.proofs.Theorems.Turning.{works_turn, works_priority, held, at_set, declared_inside}
use Rattle.channel_theorems.proofs.Theorems.Starts.{turn_wants, turn_works, Started, is_frozen, is_busy, is_quiet, begins, started, urgent_found}
use Rattle.channel_theorems.proofs.Theorems.Calls.{ended_at, Incomplete, onward, aside, Took, refuses, asks, repeats, ends, freezes, thaws, not_here}
use Rattle.channel_theorems.proofs.Theorems.Sound.{reports_most, Again, verdict_again, Works, works, OneWorks, Sound}
use Rattle.channel_theorems.proofs.Theorems.Race.{Race, race_start, race_set, race_marks, race_ended, also, also_same, also_other}
use Rattle.channel_theorems.proofs.Theorems.Budget.{left, budget, budget_at, budget_start, urgent_asked, urgent_again, urgent_ended, urgent_past}
use Rattle.channel_theorems.proofs.Theorems.Raced.{budget_marks}
use Rattle.std.specs.Option.{is_some}

-- ---- while a priority request waits no ordinary operation begins, so the one at work, if any, is the last

abbrev pub Last : Bool → Channel → Type 0
Last b c = (x : ℕ) → works_turn (turn_at c x) ≡ true → b ≡ true

last_start : (n u : ℕ) (D : ℕ → Bool) (b : Bool) (c : Channel) (f : Bool) (d : Channel) → Race true n u D c → Last b c → Started c f d → Last b d
last_start n u D b c f d h k (is_frozen e) = k
last_start n u D b c f d h k (is_busy x e) = k
last_start n u D b c f d h k (is_quiet g) = k
last_start n u D b c f d h k (begins x t g) =
    at_set c x t g.within (λ y i. works_turn i.turn ≡ true → b ≡ true)
    (λ w. true_not_false (turn_wants true (turn_at c u) h.mine (g.was_idle u)) (g.urgent_first w u))
    (λ y ne w. k y w)

-- another turn at a unit, which is not that of an ordinary operation at work
last_set : (b : Bool) (c : Channel) (x : ℕ) (t : Turn) (stood : Position) → x < size c → works_turn t ≡ false → Last b c → Last b (with_unit c x t stood)
last_set b c x t stood l w k = at_set c x t l (λ y i. works_turn i.turn ≡ true → b ≡ true) (λ i. true_not_false i w) (λ y ne i. k y i)

-- the one operation at work stops: none is at work
none_left : (c : Channel) (x : ℕ) (t : Turn) (stood : Position) → x < size c → OneWorks c → is_working (turn_at c x) ≡ true → works_turn t ≡ false
    → Last false (with_unit c x t stood)
none_left c x t stood l one w stops =
    at_set c x t l (λ y i. works_turn i.turn ≡ true → false ≡ true) (λ i. true_not_false i stops)
    (λ y ne i. absurd (ne (one y x (turn_works false (turn_at c y) i) w)))

-- ---- one call

pub record Urged (n u : ℕ) (D : ℕ → Bool) (b : Bool) (c : Channel) (e : Event) (o : Step) : Type 0 where
  pub served : ℕ → Bool
  pub still : Bool
  pub race : Race true n u served o.after.channel
  pub last : Last still o.after.channel
  pub pays : budget true n served o.after.channel + one_if still + one_if (a_report e o.answer) ≤ budget true n D c + one_if b

-- the change d, and then a start
then_start : (n u : ℕ) (D E : ℕ → Bool) (b still : Bool) (c d : Channel) (f : Bool) (e : Event) (a : Answer) → Race true n u E d → Last still d
    → budget true n E d + one_if still + one_if (a_report e a) ≤ budget true n D c + one_if b
    → Urged n u D b c e (step_to a (station (start_of d f) f))
then_start n u D E b still c d f e a h k l =
    let i = budget_start true n E d f (start_of d f) h.long (started d f) in
    record {
      served = E;
      still = still;
      race = race_start true n u E d f (start_of d f) h (started d f);
      last = last_start n u E still d f (start_of d f) h k (started d f);
      pays = omega arith;
    }

mark_urgent : (c : Channel) (x n : ℕ) (r : Request) → size c ≡ n → turn_at c x ≡ Working r → r.priority ≡ true → urgent_after c x ≡ next_unit n x
unfolding urgent_after
mark_urgent c x n r long i p = rw (i, p, long)

mark_stays : (c : Channel) (x : ℕ) (stood : Position) (r : Request) → turn_at c x ≡ Working r → r.priority ≡ false → urgent_after c x ≡ (with_unit c x Idle stood).urgent
unfolding urgent_after with_unit
mark_stays c x stood r i p = rw (i, p)

-- "a waiting priority request starts, displacing an incomplete ordinary one"
set_aside : (c : Channel) (q : Request) (frozen : Bool) → q.priority ≡ false → is_some (priority_in c) ≡ true → goes_on c q.priority frozen ≡ false
unfolding goes_on
set_aside c q frozen p f = rw (p, f) (and-false (not frozen))

pub urged : (n u : ℕ) (D : ℕ → Bool) (b : Bool) (s : Station) (e : Event) (o : Step) → Sound s.channel → Race true n u D s.channel → Last b s.channel
    → Took s e o → an_answer_to u e o.answer ≡ false → Urged n u D b s.channel e o
urged n u D b s e o k h v refuses a = record { served = D; still = b; race = h; last = v; pays = omega arith }
urged n u D b s e o k h v (asks x op p d i) a =
    let c = s.channel in
    let l = declared_inside c x d in
    let m = budget_at true n D D c x (Waiting (new_request op p)) (position_at c x) 0 0 h.long l (λ y ne. refl)
    (urgent_asked (D x) (declared_at c x) (held (turn_at c x)) op p (ap held i)) in
    then_start n u D D b b c (with_turn c x (Waiting (new_request op p))) s.frozen (ask x op p) accepted
    (race_set true n u D c x (Waiting (new_request op p)) _ h l (λ q. true_not_false h.mine (rw (← q) (ap holds_priority i))) (λ t. true_not_false t refl))
    (last_set b c x (Waiting (new_request op p)) _ l refl v)
    (omega arith)
urged n u D b s e o k h v (repeats x oc len r q t stood i j m stands) a = go r.priority refl t m
  where
    c : Channel
    c = s.channel

    w : Works c x r
    w = works c x r k.ok i

    again : Again r q
    again = verdict_again r oc len q j

    tried : q.attempts + q.noise ≤ most_reports
    tried = reports_most q (again.keeps w.counted)

    To : Turn → Type 0
    To t = Urged n u D b c (report x oc len) (step_to repeated (station (start_of (with_unit c x t stood) s.frozen) s.frozen))

    -- a priority operation: one attempt less
    not_ended : r.priority ≡ true → Dec (x ≡ u) → D x ≡ false
    not_ended p (yes y) = rw y h.self
    not_ended p (no y) = (h.work x (ap works_priority i ∙ p) y).0

    on_with : r.priority ≡ true → (t : Turn) → held t ≡ some q → works_turn t ≡ false → (x ≡ u → holds_priority t ≡ true) → To t
    on_with p t y z mine =
        let pay = budget_at true n D D c x t stood 1 0 h.long w.within (λ z ne. refl)
        (rw y (urgent_again (D x) (declared_at c x) (held (turn_at c x)) r q w.known (ap held i) again tried p (not_ended p (ℕ_discrete x u)))) in
        then_start n u D D b b c (with_unit c x t stood) s.frozen (report x oc len) repeated
        (race_set true n u D c x t _ h w.within mine (λ z. ap works_priority i ∙ p))
        (last_set b c x t _ w.within z v)
        (omega arith)

    -- an ordinary one is set aside, and no other is at work
    other : r.priority ≡ false → x ≢ u
    other p y = true_not_false h.mine (rw (← y) (ap holds_priority i ∙ p))

    waits : r.priority ≡ false → is_some (priority_in c) ≡ true
    waits p = urgent_found c u (turn_wants true (turn_at c u) h.mine (rests (is_working (turn_at c u)) refl))
      where
        rests : (b : Bool) → is_working (turn_at c u) ≡ b → b ≡ false
        rests true y = absurd (other p (k.one x u (ap is_working i) y))
        rests false y = refl

    put_aside : r.priority ≡ false → To (Displaced q)
    put_aside p =
        let one : one_if b ≡ 1 = ap one_if (v x (ap works_turn i ∙ ap not p)) in
        let pay = budget_at true n D D c x (Displaced q) stood 0 0 h.long w.within (λ z ne. refl)
        (urgent_past (D x) (declared_at c x) (held (turn_at c x)) (some q) r (ap held i) p (ap (λ (y : Bool). cond y (left q) most_reports) (again.alike ∙ p))) in
        then_start n u D D b false c (with_unit c x (Displaced q) stood) s.frozen (report x oc len) repeated
        (race_set true n u D c x (Displaced q) _ h w.within (λ y. absurd (other p y)) (λ z. true_not_false z refl))
        (none_left c x (Displaced q) _ w.within k.one (ap is_working i) refl)
        (omega arith)

    go : (z : Bool) → r.priority ≡ z → (t : Turn) → Incomplete c s.frozen q t → To t
    go true p t (onward on) = on_with p (Working q) refl (ap not (again.alike ∙ p)) (λ y. again.alike ∙ p)
    go true p t (aside on) = on_with p (Displaced q) refl refl (λ y. again.alike ∙ p)
    go false p t (onward on) = true_not_false on (set_aside c q s.frozen (again.alike ∙ p) (waits p))
    go false p t (aside on) = put_aside p
urged n u D b s e o k h v (ends x oc len r how stood i judged stands) a = go r.priority refl
  where
    c : Channel
    c = s.channel

    w : Works c x r
    w = works c x r k.ok i

    other : x ≢ u
    other = not_here {x = x} {u = u} a

    tried : r.attempts + r.noise ≤ most_reports
    tried = reports_most r w.counted

    go : (z : Bool) → r.priority ≡ z → Urged n u D b c (report x oc len) (step_to answered (station (start_of (ended_at c x stood) s.frozen) s.frozen))
    go true p =
        let t : works_priority (turn_at c x) ≡ true = ap works_priority i ∙ p in
        let pay = budget_at true n D (also x D) c x Idle stood 1 0 h.long w.within (λ y ne. also_other x D y ne)
        (rw (also_same x D) (urgent_ended (D x) (declared_at c x) (held (turn_at c x)) r w.known (ap held i) p tried (h.work x t other).0)) in
        let m = budget_marks true n (also x D) (with_unit c x Idle stood) (mark_after c x) (urgent_after c x) in
        then_start n u D (also x D) b b c (ended_at c x stood) s.frozen (report x oc len) answered
        (race_ended true n u D c x (mark_after c x) (urgent_after c x) _ k h w.within other t (mark_urgent c x n r h.long i p))
        (last_set b c x Idle _ w.within refl v)
        (omega arith)
    go false p =
        let one : one_if b ≡ 1 = ap one_if (v x (ap works_turn i ∙ ap not p)) in
        let pay = budget_at true n D D c x Idle stood 0 0 h.long w.within (λ y ne. refl)
        (urgent_past (D x) (declared_at c x) (held (turn_at c x)) none r (ap held i) p refl) in
        let m = budget_marks true n D (with_unit c x Idle stood) (mark_after c x) (urgent_after c x) in
        then_start n u D D b false c (ended_at c x stood) s.frozen (report x oc len) answered
        (race_marks true n u D (with_unit c x Idle stood) (mark_after c x) (urgent_after c x) (mark_stays c x _ r i p)
        (race_set true n u D c x Idle _ h w.within (λ y. absurd (other y)) (λ t. true_not_false t refl)))
        (none_left c x Idle _ w.within k.one (ap is_working i) refl)
        (omega arith)
urged n u D b s e o k h v freezes a = record { served = D; still = b; race = h; last = v; pays = omega arith }
urged n u D b s e o k h v thaws a = then_start n u D D b b s.channel s.channel false thaw accepted h v (omega arith)
