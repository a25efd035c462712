-- A row of the sheet, followed through events: where its answer is, and what it counts. Assumes nothing.
use mathlib.Core.Path.{◌≡◌, refl, sym, ap, ◌∙◌, subst}
use mathlib.Core.Bool.{Bool, true, false, not, cond, ◌&&◌}
use mathlib.Core.List.{List, [], ◌∷◌}
use Prim.Native.Nat.{ℕ, zero, suc, ◌+◌, ◌≤◌, ◌<◌}
use native.Mathlib.Omega.{arith}
use lib.Dec.{eqb}
use lib.ListN.{length, take}
use Rattle.area.specs.Lists.{count_of}
use Rattle.area.proofs.Walks.{and_left, true_not_false}
use Rattle.sheet.specs.declared.Event.{Event}
use Rattle.sheet.specs.declared.Row.{Row}
use Rattle.sheet.specs.Rows.{most_count, next, row_after, row_through}
use Rattle.sheet.proofs.Steps.{next_below}

-- a report on channel c, and one that answers unit u of it
abbrev pub counts : ℕ → Event → Bool
counts c e = e.reported && eqb c e.channel

abbrev pub answers : ℕ → ℕ → Event → Bool
answers c u e = (counts c e && eqb u e.unit) && e.answered

abbrev pub starts : Event → Bool
starts e = e.started

module _ (file channel unit asked : ℕ) where
  abbrev pub row_with : ℕ → ℕ → Bool → Row
  row_with answered reports live =
      record { file = file; channel = channel; unit = unit; asked = asked; answered = answered; reports = reports; live = live }

  -- what is no longer followed stays
  dead : (es : List Event) (k answered reports : ℕ) → row_through k (row_with answered reports false) es ≡ row_with answered reports false
  unfolding row_through row_after
  dead [] k answered reports = refl
  dead (e ∷ es) k answered reports = dead es (next k) answered reports

  -- n events of the frames from k on come before the answer
  pub record Found (k reports : ℕ) (es : List Event) (end : Row) : Type 0 where
    pub before : ℕ
    pub frame : end.answered ≡ k + before
    pub none : count_of (answers channel unit) (take before es) ≡ 0
    pub fresh : count_of starts (take before es) ≡ 0
    pub reported : end.reports ≡ reports + count_of (counts channel) (take before es) + 1

  module _ (e : Event) (es : List Event) (k reports : ℕ) (k-fits : k + suc (length es) ≤ most_count) (fits : reports + suc (length es) ≤ most_count)
      (more : (n : ℕ) → n + length es ≤ most_count → ((row_through (next k) (row_with 0 n true) es).answered ≡ 0 → ⊥)
      → Found (next k) n es (row_through (next k) (row_with 0 n true) es)) where
    next_k : next k ≡ k + 1
    next_k = sym (next_below k (omega arith))

    next_reports : next reports ≡ reports + 1
    next_reports = sym (next_below reports (omega arith))

    ended : counts channel e ≡ true → Found k reports (e ∷ es) (row_through (next k) (row_with k (next reports) false) es)
    unfolding count_of
    ended c =
        subst (Found k reports (e ∷ es)) (sym (dead es (next k) k (next reports)))
        (record { before = 0; frame = omega arith; none = refl; fresh = refl; reported = next_reports ∙ omega arith })

    onward : (n : ℕ) → answers channel unit e ≡ false → e.started ≡ false → n ≡ reports + cond (counts channel e) 1 0 → n + length es ≤ most_count
        → ((row_through (next k) (row_with 0 n true) es).answered ≡ 0 → ⊥) → Found k reports (e ∷ es) (row_through (next k) (row_with 0 n true) es)
    unfolding count_of
    onward n a s z h ne =
        let F = more n h ne in
        record {
          before = suc F.before;
          frame = F.frame ∙ omega (arith, next_k);
          none = rw a (omega (arith, F.none));
          fresh = rw s (omega (arith, F.fresh));
          reported = omega (arith, F.reported, z);
        }

    stepped : (a c s : Bool) → answers channel unit e ≡ a → counts channel e ≡ c → e.started ≡ s
        → ((row_through (next k) (row_with (cond a k 0) (cond c (next reports) reports) (not a && not s)) es).answered ≡ 0 → ⊥)
        → Found k reports (e ∷ es) (row_through (next k) (row_with (cond a k 0) (cond c (next reports) reports) (not a && not s)) es)
    stepped true true s ae ce se ne = ended ce
    stepped true false s ae ce se ne = true_not_false (and_left (counts channel e) _ (and_left (counts channel e && eqb unit e.unit) _ ae)) ce
    stepped false c true ae ce se ne = absurd (ne (ap (λ (row : Row). row.answered) (dead es (next k) 0 (cond c (next reports) reports))))
    stepped false true false ae ce se ne =
        let z : next reports ≡ reports + cond (counts channel e) 1 0 = next_reports ∙ sym (ap (λ (b : Bool). reports + cond b 1 0) ce) in
        onward (next reports) ae se z (omega (arith, next_reports, fits)) ne
    stepped false false false ae ce se ne =
        let none : reports + cond (counts channel e) 1 0 ≡ reports + 0 = ap (λ (b : Bool). reports + cond b 1 0) ce in
        let z : reports ≡ reports + cond (counts channel e) 1 0 = omega (arith, none) in
        onward reports ae se z (omega (arith, fits)) ne

  pub follow : (es : List Event) (k reports : ℕ) → k + length es ≤ most_count → reports + length es ≤ most_count
      → ((row_through k (row_with 0 reports true) es).answered ≡ 0 → ⊥) → Found k reports es (row_through k (row_with 0 reports true) es)
  unfolding row_through row_after
  follow [] k reports h g ne = absurd (ne refl)
  follow (e ∷ es) k reports h g ne =
      let below : k < most_count = omega arith in
      let step : next k ≡ k + 1 = sym (next_below k below) in
      stepped e es k reports h g (λ n i z. follow es (next k) n (omega (arith, step, h)) i z)
      (answers channel unit e) (counts channel e) e.started refl refl refl ne
