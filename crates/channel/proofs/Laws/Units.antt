-- Laws of the definitions in specs/Units. Assumes nothing.
use mathlib.Core.Path.{◌≡◌, ap, sym, ◌∙◌}
use mathlib.Core.Bool.{Bool, false}
use mathlib.Core.List.{List, [], ◌∷◌, ◌++◌, map, append_assoc, append-nil}
use Prim.Native.Nat.{ℕ, zero, suc, ◌+◌, ◌-◌, ◌/◌, ◌%◌, ◌^◌, ◌≤◌, ◌<◌}
use native.Mathlib.Omega.{arith}
use native.Mathlib.Numerals.{add-one}
use lib.Dec.{eqb}
use lib.ListN.{length, take, set, get_or-eq_default}
use lib.Seq.{set_out, take-suc-set, take_all}
use Rattle.channel.specs.declared.Turn.{Turn}
use Rattle.channel.specs.declared.Turn.TheVariants.{Idle}
use Rattle.channel.specs.declared.Position.{Position}
use Rattle.channel.specs.declared.Unit.{Unit}
use Rattle.channel.specs.declared.Channel.{Channel}
use Rattle.channel.specs.Units.{size, idle_unit, unit_at, declared_at, turn_at, with_unit, bits_from}

-- a number that is no unit's
module _ (c : Channel) (u : ℕ) (beyond : size c ≤ u) where
  pub unit_beyond : unit_at c u ≡ idle_unit false
  unit_beyond = get_or-eq_default c.units (idle_unit false) beyond

  pub turn_beyond : turn_at c u ≡ Idle
  turn_beyond = ap (λ (x : Unit). x.turn) unit_beyond

  pub with_beyond : (t : Turn) (p : Position) → with_unit c u t p ≡ c
  unfolding with_unit
  with_beyond t p = ap (λ (us : List Unit). record { units = us; mark = c.mark; urgent = c.urgent }) (set_out c.units u (record { declared = declared_at c u; turn = t; position = p }) beyond)

-- ---- a fresh start: the units before i are made, and the rest follow

-- the bit of unit u
abbrev bit_at : ℕ → ℕ → Bool
bit_at mask u = eqb (mask / 2 ^ u % 2) 1

bits_more : (mask u n : ℕ) → 0 < n → bits_from mask u n ≡ bit_at mask u ∷ bits_from mask (u + 1) (n - 1)
unfolding bits_from
bits_more mask u zero h = absurd (omega arith)
bits_more mask u (suc n) h =
    let p : n ≡ suc n - 1 = omega arith in
    ap (λ (k : ℕ). bit_at mask u ∷ bits_from mask (u + 1) k) p

module _ (mask n : ℕ) (units whole : List Unit) (i : ℕ) (long : length units ≡ n) where
  abbrev Made : List Unit → ℕ → Type 0
  Made us k = take k us ++ map idle_unit (bits_from mask k (n - k)) ≡ whole

  pub fresh_step : i < n → Made units i → Made (set units i (idle_unit (bit_at mask i))) (i + 1)
  fresh_step h made =
      let here : bits_from mask i (n - i) ≡ bit_at mask i ∷ bits_from mask (i + 1) (n - i - 1) = bits_more mask i (n - i) (omega arith) in
      let less : n - (i + 1) ≡ n - i - 1 = omega arith in
      let one : take (i + 1) (set units i (idle_unit (bit_at mask i))) ≡ take i units ++ (idle_unit (bit_at mask i) ∷ []) =
      ap (λ (k : ℕ). take k (set units i (idle_unit (bit_at mask i)))) (add-one i) ∙ take-suc-set units i (idle_unit (bit_at mask i)) (omega arith) in
      rw (one, less, append_assoc) (rw here at made)

  pub fresh_done : n ≤ i → Made units i → units ≡ whole
  unfolding bits_from
  fresh_done h made =
      let none : n - i ≡ 0 = omega arith in
      sym (take_all i units (omega arith)) ∙ (sym (append-nil (take i units)) ∙ (rw none at made))
