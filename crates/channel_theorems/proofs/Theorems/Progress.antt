-- After any accepted call a channel that is not frozen works, or nothing waits. Assumes nothing.
use mathlib.Core.Path.{◌≡◌, refl, ap, sym, ◌∙◌}
use mathlib.Core.Bool.{Bool, true, false}
use mathlib.Core.List.{List, [], ◌∷◌}
use Prim.Native.Nat.{ℕ}
use Rattle.channel.specs.declared.Request.{Request}
use Rattle.channel.specs.declared.Turn.TheVariants.{Idle, Waiting, Working}
use Rattle.channel.specs.declared.Channel.{Channel}
use Rattle.channel.specs.Units.{turn_at, is_idle, with_turn, is_working}
use Rattle.channel_turns.specs.Starts.{start_of, new_request}
use Rattle.channel_theorems.proofs.Theorems.Turning.{at_set, declared_inside}
use Rattle.channel_theorems.proofs.Theorems.Sound.{OneWorks}
use Rattle.area.proofs.Walks.{true_not_false}
use native.Mathlib.Omega.{arith}
use Rattle.channel_theorems.specs.History.{report, Station, Event, refused, Step, step, run, is_alive}
use Rattle.channel_theorems.proofs.Theorems.Starts.{Started, is_frozen, is_busy, is_quiet, begins, started, start_alive}
use Rattle.channel_theorems.proofs.Theorems.Calls.{Took, refuses, asks, repeats, ends, freezes, thaws, took}

-- while a unit holds a request, the channel is working or frozen
abbrev pub Awake : Station → Type 0
Awake s = (u : ℕ) → is_idle (turn_at s.channel u) ≡ false → is_alive s ≡ true

-- every accepted call leaves it so, whatever the channel was
pub awake_accepted : (s : Station) (e : Event) (o : Step) → Took s e o → (o.answer ≡ refused → ⊥) → Awake o.after
awake_accepted s e o refuses n = absurd (n refl)
awake_accepted s e o (asks x op p d i) n = λ u. start_alive _ _ _ u (started _ _)
awake_accepted s e o (repeats x oc len r q t stood i j m stands) n = λ u. start_alive _ _ _ u (started _ _)
awake_accepted s e o (ends x oc len r how stood i judged stands) n = λ u. start_alive _ _ _ u (started _ _)
awake_accepted s e o freezes n = λ u i. refl
awake_accepted s e o thaws n = λ u. start_alive _ _ _ u (started _ _)

-- a refused call changes nothing, so every call keeps it
pub awake_kept : (s : Station) (e : Event) (o : Step) → Awake s → Took s e o → Awake o.after
awake_kept s e o a refuses = a
awake_kept s e o a (asks x op p d i) = λ u. start_alive _ _ _ u (started _ _)
awake_kept s e o a (repeats x oc len r q t stood i j m stands) = λ u. start_alive _ _ _ u (started _ _)
awake_kept s e o a (ends x oc len r how stood i judged stands) = λ u. start_alive _ _ _ u (started _ _)
awake_kept s e o a freezes = λ u i. refl
awake_kept s e o a thaws = λ u. start_alive _ _ _ u (started _ _)

pub awake_run : (s : Station) (h : List Event) → Awake s → Awake (run s h)
unfolding run
awake_run s [] a = a
awake_run s (e ∷ h) a = awake_run (step s e).after h (awake_kept s e (step s e) a (took s e))

-- a start leaves a channel that works
busy_stays : (c : Channel) (frozen : Bool) (w : ℕ) (q : Request) → turn_at c w ≡ Working q → turn_at (start_of c frozen) w ≡ Working q
busy_stays c frozen w q at = go (start_of c frozen) (started c frozen)
  where
    go : (d : Channel) → Started c frozen d → turn_at d w ≡ Working q
    go d (is_frozen e) = at
    go d (is_busy x e) = at
    go d (is_quiet f) = at
    go d (begins x t b) = true_not_false (ap is_working at) (b.was_idle w)

-- "A priority request never breaks into an activity": no call but a report of its own unit ends or stops what is at work
pub never_breaks_in : (s : Station) (e : Event) (o : Step) (w : ℕ) (q : Request) → OneWorks s.channel → turn_at s.channel w ≡ Working q
    → ((outcome length : ℕ) → e ≡ report w outcome length → ⊥) → Took s e o → turn_at o.after.channel w ≡ Working q
never_breaks_in s e o w q one at not_mine refuses = at
never_breaks_in s e o w q one at not_mine (asks x op p d i) = busy_stays _ s.frozen w q other
  where
    other : turn_at (with_turn s.channel x (Waiting (new_request op p))) w ≡ Working q
    other =
        at_set s.channel x (Waiting (new_request op p)) (declared_inside s.channel x d) (λ y k. y ≡ w → k.turn ≡ Working q)
        (λ h. absurd (idle_works h)) (λ y ne h. rw h at) w refl
      where
        idle_works : x ≡ w → ⊥
        idle_works h = let k : Idle ≡ Working q = sym i ∙ rw h at in let z : ◌≡◌ {A = ℕ} 0 1 = cc in omega arith
never_breaks_in s e o w q one at not_mine (repeats x oc len r n t stood i j m stands) = absurd (not_mine oc len (ap (λ (y : ℕ). report y oc len) (one x w (ap is_working i) (ap is_working at))))
never_breaks_in s e o w q one at not_mine (ends x oc len r how stood i judged stands) = absurd (not_mine oc len (ap (λ (y : ℕ). report y oc len) (one x w (ap is_working i) (ap is_working at))))
never_breaks_in s e o w q one at not_mine freezes = at
never_breaks_in s e o w q one at not_mine thaws = busy_stays s.channel false w q at
