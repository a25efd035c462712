-- An instance of the lifting: channels side by side, a call goes to one of them, or to all. It shows that what the lifting asks
-- can be met. Assumes nothing.
use mathlib.Core.Path.{◌≡◌, refl}
use mathlib.Core.Bool.{Bool, true, false}
use mathlib.Core.Option.{Option, none, some}
use mathlib.Core.List.{List}
use Prim.Native.Nat.{ℕ}
use native.Mathlib.Decide.{ℕ_discrete}
use lib.Dec.{T}
use Rattle.channel.specs.declared.Op.{Op}
use Rattle.channel_theorems.specs.History.{Station, Event, ask, accepted, step, fresh, declared_in}
use Rattle.channel_theorems.specs.Lifted.{Shown, Agrees, System, run_in, KeptIn}
use Rattle.channel_theorems.proofs.Theorems.Lift.{demand3_lifted}

pub data Call : Type 0 where
  on : ℕ → Event → Call
  every : Event → Call

abbrev pick : {A B : Type 0} → Dec A → B → B → B
pick (yes a) x y = x
pick (no h) x y = y

abbrev shown_at : Station → Event → Option Shown
shown_at s e = some (record { event = e; answer = (step s e).answer })

abbrev go_on : (ℕ → Station) → Call → ℕ → Station
go_on s (on j e) = λ k. pick (ℕ_discrete k j) (step (s k) e).after (s k)
go_on s (every e) = λ k. (step (s k) e).after

abbrev seen_at : ℕ → (ℕ → Station) → Call → Option Shown
seen_at i s (on j e) = pick (ℕ_discrete i j) (shown_at (s i) e) none
seen_at i s (every e) = shown_at (s i) e

-- channel i of them
abbrev pub side_by_side : ℕ → System
side_by_side i = record { State = ℕ → Station; Call = Call; next = go_on; part = λ s. s i; shown = seen_at i }

agrees : (i : ℕ) (s : ℕ → Station) (k : Call) → Agrees (s i) (seen_at i s k) (go_on s k i)
agrees i s (on j e) = go (ℕ_discrete i j)
  where
    go : (d : Dec (i ≡ j)) → Agrees (s i) (pick d (shown_at (s i) e) none) (pick d (step (s i) e).after (s i))
    go (yes q) = refl
    go (no q) = refl
agrees i s (every e) = refl

-- demand 3 for channel i of them
pub demand3_side_by_side : (i : ℕ) (declared : List Bool) (s₀ : ℕ → Station) → s₀ i ≡ fresh declared → (before : List Call) (u : ℕ) (op : Op) (k : Call) (later : List Call)
    → seen_at i (run_in (side_by_side i) s₀ before) k ≡ some (record { event = ask u op false; answer = accepted })
    → KeptIn (side_by_side i) (declared_in declared) u (run_in (side_by_side i) s₀ before) (go_on (run_in (side_by_side i) s₀ before) k) later
demand3_side_by_side i declared s₀ z before u op k later e =
    demand3_lifted (side_by_side i) (λ s. T true) (λ s c g. tt) (λ s c g. agrees i s c) declared s₀ tt z before u op k later e
