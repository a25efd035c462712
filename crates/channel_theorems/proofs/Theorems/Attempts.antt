-- Every operation takes at most as many reports as its row of the table allows attempts and noise records, however often it is displaced. Assumes nothing.
use mathlib.Core.Path.{◌≡◌, refl, ap, sym, ◌∙◌, subst}
use mathlib.Core.Logic.{◌≢◌}
use mathlib.Core.Bool.{Bool, true, false, ◌&&◌}
use mathlib.Core.Option.{none, some}
use mathlib.Core.List.{List, [], ◌∷◌}
use Prim.Native.Nat.{ℕ, ◌+◌, ◌≤◌, ◌<◌}
use native.Mathlib.Decide.{ℕ_discrete}
use native.Mathlib.Omega.{arith}
use lib.Dec.{eqb}
use Rattle.channel.specs.declared.Op.{Op}
use Rattle.channel.specs.declared.Position.{Position}
use Rattle.channel.specs.declared.Request.{Request}
use Rattle.channel.specs.declared.Turn.{Turn}
use Rattle.channel.specs.declared.Turn.TheVariants.{Idle, Waiting}
use Rattle.channel.specs.declared.Channel.{Channel}
use Rattle.channel_outcomes.specs.Rules.{row_of}
use Rattle.channel.specs.Units.{size, declared_at, turn_at, with_unit, with_turn, is_idle}
use Rattle.channel_turns.specs.Starts.{start_of, new_request}
use Rattle.channel_theorems.specs.History.{Station, Event, ask, accepted, Step, step, run, count, a_report_of, an_answer_to}
use Rattle.area.specs.Lists.{one_if}
use Rattle.channel_theorems.proofs.Theorems.Turning.{held, at_set, busy_inside, declared_inside}
use Rattle.channel_theorems.proofs.Theorems.Starts.{Started, is_frozen, is_busy, is_quiet, begins, started}
use Rattle.channel_theorems.proofs.Theorems.Calls.{ended_at, Took, refuses, asks, repeats, ends, freezes, thaws, took, incomplete_held, no_report, of_unit, of_other, not_here}
use Rattle.channel_theorems.proofs.Theorems.Sound.{Again, verdict_again, HoldOk, InRanges}

-- unit u holds a request for op that has had k reports, one for each attempt before the one at work or due and for each noise record
pub record Tried (u : ℕ) (op : Op) (k : ℕ) (c : Channel) : Type 0 where
  pub request : Request
  pub holds : held (turn_at c u) ≡ some request
  pub same : request.op ≡ op
  pub made : request.attempts + request.noise ≡ k + 1

module _ (u : ℕ) (op : Op) (k : ℕ) where
  tried_held : (c d : Channel) → held (turn_at d u) ≡ held (turn_at c u) → Tried u op k c → Tried u op k d
  tried_held c d e t = record { request = t.request; holds = e ∙ t.holds; same = t.same; made = t.made }

  tried_start : (c : Channel) (f : Bool) (d : Channel) → Started c f d → Tried u op k c → Tried u op k d
  tried_start c f d (is_frozen e) t = t
  tried_start c f d (is_busy x e) t = t
  tried_start c f d (is_quiet g) t = t
  tried_start c f d (begins x n b) t =
      tried_held c (with_turn c x n) (at_set c x n b.within (λ y j. held j.turn ≡ held (turn_at c y)) b.same (λ y ne. refl) u) t

  tried_other : (c : Channel) (x : ℕ) (n : Turn) (stood : Position) → x < size c → u ≢ x → Tried u op k c → Tried u op k (with_unit c x n stood)
  tried_other c x n stood l ne t =
      tried_held c (with_unit c x n stood) (at_set c x n l (λ y j. y ≢ x → held j.turn ≡ held (turn_at c y)) (λ i. absurd (i refl)) (λ y i j. refl) u ne) t

pub tried_here : (u : ℕ) (c : Channel) (n : Turn) (stood : Position) (q : Request) (k : ℕ) → u < size c → held n ≡ some q → q.attempts + q.noise ≡ k + 1
    → Tried u q.op k (with_unit c u n stood)
tried_here u c n stood q k l e m = record {
  request = q;
  holds = at_set c u n l (λ y j. y ≡ u → held j.turn ≡ some q) (λ i. e) (λ y ne i. absurd (ne i)) u refl;
  same = refl;
  made = m;
}

tried_as : {u : ℕ} {op : Op} {k m : ℕ} {c : Channel} → k ≡ m → Tried u op k c → Tried u op m c
tried_as e t = record { request = t.request; holds = t.holds; same = t.same; made = omega (arith, t.made) }

-- one call that does not answer u
pub tried_step : (u : ℕ) (op : Op) (k : ℕ) (s : Station) (e : Event) (o : Step) → Took s e o → an_answer_to u e o.answer ≡ false
    → Tried u op k s.channel → Tried u op (k + one_if (a_report_of u e o.answer)) o.after.channel
tried_step u op k s e o refuses a t = rw (no_report u e) (tried_as (omega arith) t)
tried_step u op k s e o (asks x p b d i) a t =
    tried_as (omega arith)
    (tried_start u op k _ s.frozen _ (started _ _)
    (tried_other u op k s.channel x (Waiting (new_request p b)) _ (declared_inside s.channel x d) (λ q. holds_none q) t))
  where
    holds_none : u ≡ x → ⊥
    holds_none q =
        let none_held : held (turn_at s.channel u) ≡ none = rw q (ap held i) in
        let z : ◌≡◌ {A = ℕ} 0 1 = cc t.holds in omega arith
tried_step u op k s e o (repeats x oc len r q n stood i j m stands) a t = go (ℕ_discrete x u)
  where
    l : x < size s.channel
    l = busy_inside s.channel x (ap is_idle i)

    again : Again r q
    again = verdict_again r oc len q j

    go : Dec (x ≡ u) → Tried u op (k + one_if (eqb x u && true)) (start_of (with_unit s.channel x n stood) s.frozen)
    go (yes p) =
        let mine : some r ≡ some t.request = sym (ap held i) ∙ rw p t.holds in
        let it : r ≡ t.request = cc in
        let tries : q.attempts + q.noise ≡ k + 1 + 1 = omega (arith, again.more, ap (λ (y : Request). y.attempts + y.noise) it, t.made) in
        let op_same : q.op ≡ op = again.same_op ∙ ap (λ (y : Request). y.op) it ∙ t.same in
        let here : Tried x q.op (k + 1) (with_unit s.channel x n stood) = tried_here x s.channel n _ q (k + 1) l (incomplete_held q n m) tries in
        rw (of_unit p)
        (subst (λ (y : ℕ). Tried y op (k + 1) (start_of (with_unit s.channel x n stood) s.frozen)) p
        (tried_start x op (k + 1) _ s.frozen _ (started _ _) (subst (λ (y : Op). Tried x y (k + 1) (with_unit s.channel x n stood)) op_same here)))
    go (no p) =
        rw (of_other p)
        (tried_as (omega arith) (tried_start u op k _ s.frozen _ (started _ _) (tried_other u op k s.channel x n _ l (λ y. p (sym y)) t)))
tried_step u op k s e o (ends x oc len r how stood i judged stands) a t =
    let p : x ≡ u → ⊥ = not_here {x = x} {u = u} a in
    rw (of_other p)
    (tried_as (omega arith)
    (tried_start u op k _ s.frozen _ (started _ _)
    (tried_held u op k (with_unit s.channel x Idle stood) (ended_at s.channel x stood) refl
    (tried_other u op k s.channel x Idle _ (busy_inside s.channel x (ap is_idle i)) (λ y. p (sym y)) t))))
tried_step u op k s e o freezes a t = tried_as (omega arith) (tried_held u op k s.channel s.channel refl t)
tried_step u op k s e o thaws a t = tried_as (omega arith) (tried_start u op k s.channel false _ (started _ _) t)

-- calls that do not answer u
one_zero : (b : Bool) (n : ℕ) → one_if b + n ≡ 0 → b ≡ false
one_zero true n e = absurd (omega arith)
one_zero false n e = refl

pub tried_run : (u : ℕ) (op : Op) (k : ℕ) (s : Station) (h : List Event) → count (an_answer_to u) s h ≡ 0
    → Tried u op k s.channel → Tried u op (k + count (a_report_of u) s h) (run s h).channel
unfolding run count
tried_run u op k s [] z t = tried_as (omega arith) t
tried_run u op k s (e ∷ h) z t =
    let now : Tried u op (k + one_if (a_report_of u e (step s e).answer)) (step s e).after.channel =
    tried_step u op k s e (step s e) (took s e) (one_zero (an_answer_to u e (step s e).answer) (count (an_answer_to u) (step s e).after h) z) t in
    tried_as (omega arith)
    (tried_run u op (k + one_if (a_report_of u e (step s e).answer)) (step s e).after h (omega arith) now)

-- an accepted request is at its first attempt
pub tried_first : (s : Station) (u : ℕ) (op : Op) (p : Bool) (o : Step) → Took s (ask u op p) o → o.answer ≡ accepted → Tried u op 0 o.after.channel
tried_first s u op p o refuses e = absurd (let z : ◌≡◌ {A = ℕ} 0 1 = cc in omega arith)
tried_first s u op p o (asks x q b d i) e =
    tried_start x q 0 _ s.frozen _ (started _ _)
    (tried_here x s.channel (Waiting (new_request q b)) _ (new_request q b) 0 (declared_inside s.channel x d) refl refl)

-- a held request in its ranges has reports left
pub tried_left : (u : ℕ) (op : Op) (k : ℕ) (c : Channel) → InRanges c → Tried u op k c → k < (row_of op).attempts + (row_of op).noise
tried_left u op k c ok t =
    let h : HoldOk (declared_at c u) (some t.request) = rw t.holds at (ok u) in
    let l : t.request.attempts ≤ (row_of op).attempts = rw t.same at h.1.limit in
    let n : t.request.noise ≤ (row_of op).noise = rw t.same at h.1.noises in
    omega (arith, t.made)
