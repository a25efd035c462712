-- Demand 3 in the system around a channel, from a fresh start on. Assumes nothing.
use mathlib.Core.Path.{◌≡◌, refl, ap, ◌∙◌}
use mathlib.Core.Bool.{Bool, true, false, cond}
use mathlib.Core.Option.{some}
use mathlib.Core.List.{List, [], ◌∷◌}
use Prim.Native.Nat.{ℕ, zero, suc, ◌+◌}
use Rattle.area.specs.Lists.{count_of}
use Rattle.channel_outcomes.specs.declared.Ending.TheVariants.{Good}
use Rattle.channel.specs.declared.Unit.{Unit}
use Rattle.channel.specs.declared.Channel.{Channel}
use Rattle.channel.specs.Units.{unit_count, fresh_with, bits_from, fresh_of}
use Rattle.channel_theorems.specs.History as history
use Rattle.channel_theorems.specs.History.{station, accepted, declared_in}
use Rattle.channel_theorems.specs.Lifted.{run_in, KeptIn, KeptUrgentIn}
use Rattle.channel_theorems.proofs.Theorems.Lift.{demand3_lifted, urgent_lifted}
use Rattle.state.specs.Places.{channel_at}
use Rattle.pack_start.specs.declared.Masks.{Masks}
use Rattle.pack_start.specs.Fresh.{fresh_state}
use Rattle.pack.specs.Calls.{fresh, ask}
use Rattle.pack.specs.Histories.{Lent, declared_on}
use Rattle.channel.specs.declared.Op.{Op}
use Rattle.pack.proofs.Kept as kept
use Rattle.pack.proofs.Seen.{station_at, seen, call_agrees}
use Rattle.pack.proofs.Around.{pack_around, good_next}

-- ---- a fresh start

-- the mask of a channel; past the last channel no unit is declared
abbrev pub mask_at : Masks → ℕ → ℕ
mask_at k zero = k.a
mask_at k (suc zero) = k.b
mask_at k (suc (suc zero)) = k.c
mask_at k (suc (suc (suc zero))) = k.d
mask_at k (suc (suc (suc (suc zero)))) = k.e
mask_at k (suc (suc (suc (suc (suc c))))) = 0

abbrev pub bits_of : Masks → ℕ → List Bool
bits_of k c = bits_from (mask_at k c) 0 unit_count

pub fresh_channel : (m w : ℕ) (k : Masks) (c : ℕ) → channel_at (fresh_state m w k) c ≡ fresh_with (bits_of k c)
unfolding fresh_state fresh_of
fresh_channel m w k zero = refl
fresh_channel m w k (suc zero) = refl
fresh_channel m w k (suc (suc zero)) = refl
fresh_channel m w k (suc (suc (suc zero))) = refl
fresh_channel m w k (suc (suc (suc (suc zero)))) = refl
fresh_channel m w k (suc (suc (suc (suc (suc c))))) = refl

pub fresh_station : (m w : ℕ) (k : Masks) (c : ℕ) → station_at c (fresh_state m w k) ≡ history.fresh (bits_of k c)
unfolding fresh_state history.fresh
fresh_station m w k c = ap (λ (x : Channel). station x false) (fresh_channel m w k c)

declared_fresh : (bits : List Bool) → count_of (λ (x : Unit). x.declared) (fresh_with bits).units ≡ declared_in bits
unfolding fresh_with declared_in count_of
declared_fresh [] = refl
declared_fresh (b ∷ bits) = ap (λ (n : ℕ). cond b 1 0 + n) (declared_fresh bits)

-- the declared units of a channel as a fresh start leaves it
pub fresh_declared : (m w : ℕ) (k : Masks) (c : ℕ) → declared_on (fresh_state m w k) c ≡ declared_in (bits_of k c)
fresh_declared m w k c = ap (λ (x : Channel). count_of (λ (y : Unit). y.declared) x.units) (fresh_channel m w k c) ∙ declared_fresh (bits_of k c)

-- ---- demand 3, as the system around channel c keeps it

pub turns_kept : (c m w : ℕ) (k : Masks) → kept.Good (fresh_state m w k) → (before : List Lent) (u : ℕ) (op : Op) (x : Lent) (later : List Lent)
    → seen c (run_in (pack_around c) (fresh_state m w k) before) x.area x.call
    ≡ some (record { event = history.ask u op false; answer = accepted })
    → KeptIn (pack_around c) (declared_in (bits_of k c)) u (run_in (pack_around c) (fresh_state m w k) before)
    ((pack_around c).next (run_in (pack_around c) (fresh_state m w k) before) x) later
turns_kept c m w k g before u op x later =
    demand3_lifted (pack_around c) kept.Good good_next (λ s y z. call_agrees c s y.area z y.call) (bits_of k c) (fresh_state m w k) g
    (fresh_station m w k c) before u op x later

-- M-112's bound for a priority request, likewise
pub urgent_kept : (c m w : ℕ) (k : Masks) → kept.Good (fresh_state m w k) → (before : List Lent) (u : ℕ) (op : Op) (x : Lent) (later : List Lent)
    → seen c (run_in (pack_around c) (fresh_state m w k) before) x.area x.call
    ≡ some (record { event = history.ask u op true; answer = accepted })
    → KeptUrgentIn (pack_around c) (declared_in (bits_of k c)) u ((pack_around c).next (run_in (pack_around c) (fresh_state m w k) before) x) later
urgent_kept c m w k g before u op x later =
    urgent_lifted (pack_around c) kept.Good good_next (λ s y z. call_agrees c s y.area z y.call) (bits_of k c) (fresh_state m w k) g
    (fresh_station m w k c) before u op x later
