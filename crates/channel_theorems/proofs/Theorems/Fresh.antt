-- A fresh channel; and which units are declared is as the fresh start left it. Assumes nothing.
use mathlib.Core.Path.{◌≡◌, refl, ap, sym, ◌∙◌, subst}
use mathlib.Core.Bool.{Bool, false}
use mathlib.Core.List.{List, [], ◌∷◌}
use Prim.Native.Nat.{ℕ, ◌<◌}
use lib.ListN.{length, get_or, length-map, get_or-map}
use Rattle.area.proofs.Walks.{true_not_false}
use Rattle.channel.specs.declared.Position.{Position}
use Rattle.channel.specs.declared.Turn.{Turn}
use Rattle.channel.specs.declared.Turn.TheVariants.{Idle}
use Rattle.channel.specs.declared.Unit.{Unit}
use Rattle.channel.specs.declared.Channel.{Channel}
use Rattle.channel.specs.Units.{size, idle_unit, unit_at, declared_at, with_unit, is_idle, fresh_with, is_working}
use Rattle.channel_turns.specs.Starts.{start_of}
use Rattle.channel_theorems.specs.History.{Station, Event, Step, step, fresh, run}
use Rattle.channel_theorems.proofs.Theorems.Turning.{held, size_with, at_set, busy_inside, declared_inside}
use Rattle.channel_theorems.proofs.Theorems.Starts.{Started, is_frozen, is_busy, is_quiet, begins, started}
use Rattle.channel_theorems.proofs.Theorems.Calls.{ended_at, Took, refuses, asks, repeats, ends, freezes, thaws, took}
use Rattle.channel_theorems.proofs.Theorems.Sound.{HoldOk, Sound}
use Rattle.channel_theorems.proofs.Theorems.Progress.{Awake}

-- ---- a fresh channel

pub fresh_unit : (l : List Bool) (x : ℕ) → unit_at (fresh_with l) x ≡ idle_unit (get_or l x false)
unfolding fresh_with
fresh_unit l x = get_or-map idle_unit l x false

pub fresh_size : (l : List Bool) → size (fresh_with l) ≡ length l
unfolding fresh_with
fresh_size l = length-map l idle_unit

pub sound_fresh : (l : List Bool) → Sound (fresh_with l)
sound_fresh l = record {
  one = λ x y i j. true_not_false i (ap (λ (k : Unit). is_working k.turn) (fresh_unit l x));
  ok = λ x. subst (λ (k : Unit). HoldOk k.declared (held k.turn)) (sym (fresh_unit l x)) tt;
}

pub awake_fresh : (l : List Bool) → Awake (fresh l)
unfolding fresh
awake_fresh l u i = true_not_false (ap (λ (k : Unit). is_idle k.turn) (fresh_unit l u)) i

-- ---- the units and which are declared: no call changes them

pub record SameUnits (c d : Channel) : Type 0 where
  pub long : size d ≡ size c
  pub known : (x : ℕ) → declared_at d x ≡ declared_at c x

pub units_refl : (c : Channel) → SameUnits c c
units_refl c = record { long = refl; known = λ x. refl }

pub units_trans : {a b c : Channel} → SameUnits a b → SameUnits b c → SameUnits a c
units_trans p q = record { long = q.long ∙ p.long; known = λ x. q.known x ∙ p.known x }

units_set : (c : Channel) (x : ℕ) (t : Turn) (stood : Position) → x < size c → SameUnits c (with_unit c x t stood)
units_set c x t stood l = record { long = size_with c x t _; known = at_set c x t l (λ y k. k.declared ≡ declared_at c y) refl (λ y ne. refl) }

units_start : (c : Channel) (f : Bool) → SameUnits c (start_of c f)
units_start c f = go (start_of c f) (started c f)
  where
    go : (d : Channel) → Started c f d → SameUnits c d
    go d (is_frozen e) = units_refl c
    go d (is_busy x e) = units_refl c
    go d (is_quiet g) = units_refl c
    go d (begins x t b) = units_set c x t _ b.within

pub units_step : (s : Station) (e : Event) (o : Step) → Took s e o → SameUnits s.channel o.after.channel
units_step s e o refuses = units_refl s.channel
units_step s e o (asks x op p d i) = units_trans (units_set s.channel x _ _ (declared_inside s.channel x d)) (units_start _ s.frozen)
units_step s e o (repeats x oc len r q t stood i j m stands) = units_trans (units_set s.channel x t _ (busy_inside s.channel x (ap is_idle i))) (units_start _ s.frozen)
units_step s e o (ends x oc len r how stood i judged stands) =
    let k = units_set s.channel x Idle stood (busy_inside s.channel x (ap is_idle i)) in
    let m : SameUnits s.channel (ended_at s.channel x stood) = record { long = k.long; known = k.known } in
    units_trans m (units_start (ended_at s.channel x stood) s.frozen)
units_step s e o freezes = units_refl s.channel
units_step s e o thaws = units_start s.channel false

pub units_run : (s : Station) (h : List Event) → SameUnits s.channel (run s h).channel
unfolding run
units_run s [] = units_refl s.channel
units_run s (e ∷ h) = units_trans (units_step s e (step s e) (took s e)) (units_run (step s e).after h)
