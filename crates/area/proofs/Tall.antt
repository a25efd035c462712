-- Words or'ed together: none is 2^36 or more exactly if the bits above of the whole are zero. Assumes nothing.
use borrow.Author.Tests.{ltb-true, ltb-false, eq-eqb, ne_eqb}
use mathlib.Core.Path.{◌≡◌, refl, sym, ap, ◌∙◌}
use mathlib.Core.Bool.{Bool, true, false, ◌&&◌, and_assoc, and-true}
use mathlib.Core.List.{List}
use Prim.Native.Nat.{ℕ, zero, suc, ◌+◌, ◌/◌, ◌^◌, ◌≤◌, ◌<◌}
use native.Mathlib.Omega.{arith}
use lib.Bits.{bit_or, or_shr, or_zero_l, or_add_and, and_le_r}
use lib.Dec.{ltb, eqb, eqb-suc-zero}
use lib.ListN.{length, get_or, drop}
use Rattle.area.specs.Lists.{all_of}
use Rattle.area.specs.Parts.{is_word}
use Rattle.area.proofs.Walks.{all_step, all_end}

-- nothing stands above the low 36 bits of a
abbrev pub low36 : ℕ → Bool
low36 a = eqb (a / 2 ^ 36) 0

or_zero : (x y : ℕ) → eqb (bit_or x y) 0 ≡ (eqb x 0 && eqb y 0)
or_zero zero y = ap (λ (n : ℕ). eqb n 0) (or_zero_l y)
or_zero (suc x) y =
    ne_eqb (bit_or (suc x) y) 0 (λ z. omega (arith, or_add_and (suc x) y, and_le_r (suc x) y))
    ∙ sym (ap (λ (t : Bool). t && eqb y 0) (eqb-suc-zero x))

is_low : (w : ℕ) (t : Bool) → ltb w (2 ^ 36) ≡ t → low36 w ≡ t
is_low w true e = eq-eqb (w / 2 ^ 36) 0 (omega (arith, ltb-true w (2 ^ 36) e))
is_low w false e = ne_eqb (w / 2 ^ 36) 0 (λ z. omega (arith, ltb-false w (2 ^ 36) e))

pub low36_or : (a w : ℕ) → low36 (bit_or a w) ≡ (low36 a && is_word w)
low36_or a w =
    ap (λ (n : ℕ). eqb n 0) (or_shr a w 36) ∙ or_zero (a / 2 ^ 36) (w / 2 ^ 36) ∙ ap (λ (t : Bool). low36 a && t) (is_low w _ refl)

-- one word more
pub tall_step : (ws : List ℕ) (a i : ℕ) → i < length ws
    → (low36 (bit_or a (get_or ws i 0)) && all_of is_word (drop (i + 1) ws)) ≡ (low36 a && all_of is_word (drop i ws))
tall_step ws a i h =
    ap (λ (t : Bool). t && all_of is_word (drop (i + 1) ws)) (low36_or a (get_or ws i 0))
    ∙ and_assoc (low36 a) (is_word (get_or ws i 0)) (all_of is_word (drop (i + 1) ws))
    ∙ ap (λ (t : Bool). low36 a && t) (sym (all_step is_word ws 0 i h))

-- none left
pub tall_done : (ws : List ℕ) (t : Bool) (i : ℕ) → length ws ≤ i → (t && all_of is_word (drop i ws)) ≡ t
tall_done ws t i h = ap (λ (b : Bool). t && b) (all_end is_word ws i h) ∙ and-true t
