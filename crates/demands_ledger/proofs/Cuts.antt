-- The words put as blocks divide them: one block more, one seal more. Assumes nothing.
use mathlib.Core.Path.{◌≡◌, refl, sym, ap, subst, ◌∙◌}
use mathlib.Core.Logic.{◌⊎◌, inl, inr}
use mathlib.Core.Bool.{true}
use mathlib.Core.List.{List, [], ◌∷◌, ◌++◌}
use Prim.Native.Nat.{ℕ, suc, ◌+◌, ◌*◌, ◌≤◌, ◌<◌}
use native.Mathlib.Nat.{zero-mul, suc-mul}
use native.Mathlib.Omega.{arith}
use borrow.Author.Tests.{eqb-true, eq-eqb}
use lib.Dec.{eqb}
use lib.ListN.{length, length-append}
use Rattle.area.specs.Lists.{any_of}
use Rattle.area.proofs.Walks.{or_either, or_first, or_second}
use Rattle.demands_ledger.specs.Blocks.{joined, is_sealed, Sized, Divided, done, next, Filling}

module _ (r size : ℕ) (seals : List ℕ) where
  -- ---- the last seal

  new_sealed : (p : ℕ) → is_sealed (p ∷ seals) p ≡ true
  unfolding any_of
  new_sealed p = or_first (eqb p p) _ (eq-eqb p p refl)

  old_sealed : (p q : ℕ) → is_sealed seals q ≡ true → is_sealed (p ∷ seals) q ≡ true
  unfolding any_of
  old_sealed p q e = or_second (eqb q p) _ e

  pub which_sealed : (P : Type 0) (p q : ℕ) → is_sealed (p ∷ seals) q ≡ true → (q ≡ p → P) → (is_sealed seals q ≡ true → P) → P
  unfolding any_of
  which_sealed P p q e here there = or_either (eqb q p) (any_of (eqb q) seals) e (λ h. here (eqb-true q p h)) there

  -- a seal after a block's last word
  sized_sealed : (p k : ℕ) (words : List ℕ) → k + length words ≤ p → Sized r size seals k words → Sized r size (p ∷ seals) k words
  sized_sealed p k words l S = record {
    records = S.records;
    whole = S.whole;
    some = S.some;
    fits = S.fits;
    ends = end S.ends;
    within = λ q e f. which_sealed (k + length words ≤ q) p q e (λ h. omega arith) (λ h. S.within q h f);
  }
    where
      end : (size < length words + r) ⊎ (is_sealed seals (k + length words) ≡ true)
          → (size < length words + r) ⊎ (is_sealed (p ∷ seals) (k + length words) ≡ true)
      end (inl h) = inl h
      end (inr h) = inr (old_sealed p (k + length words) h)

  pub divided_sealed : (p k : ℕ) (blocks : List (List ℕ)) → k + length (joined blocks) ≤ p → Divided r size seals k blocks
      → Divided r size (p ∷ seals) k blocks
  unfolding joined
  divided_sealed p k [] l done = done
  divided_sealed p k (words ∷ blocks) l (next S D) =
      let q : length (words ++ joined blocks) ≡ length words + length (joined blocks) = length-append words (joined blocks) in
      next (sized_sealed p k words (omega arith) S) (divided_sealed p (k + length words) blocks (omega arith) D)

  -- ---- the last block

  pub divided_last : (k : ℕ) (blocks : List (List ℕ)) (words : List ℕ) → Divided r size seals k blocks
      → Sized r size seals (k + length (joined blocks)) words
      → Divided r size seals k (blocks ++ (words ∷ []))
  unfolding joined
  divided_last k [] words done S = let z : k + 0 ≡ k = omega arith in next (subst (λ (n : ℕ). Sized r size seals n words) z S) done
  divided_last k (d ∷ blocks) words (next T D) S =
      let q : length (d ++ joined blocks) ≡ length d + length (joined blocks) = length-append d (joined blocks) in
      let z : k + length (d ++ joined blocks) ≡ k + length d + length (joined blocks) = omega arith in
      next T (divided_last (k + length d) blocks words D (subst (λ (n : ℕ). Sized r size seals n words) z S))

  -- a block after others
  pub divided_at : (k : ℕ) (blocks : List (List ℕ)) (words : List ℕ) (rest : List (List ℕ)) → Divided r size seals k (blocks ++ (words ∷ rest))
      → Sized r size seals (k + length (joined blocks)) words
  unfolding joined
  divided_at k [] words rest (next S D) = let z : k + 0 ≡ k = omega arith in subst (λ (n : ℕ). Sized r size seals n words) (sym z) S
  divided_at k (d ∷ blocks) words rest (next T D) =
      let q : length (d ++ joined blocks) ≡ length d + length (joined blocks) = length-append d (joined blocks) in
      let z : k + length d + length (joined blocks) ≡ k + length (d ++ joined blocks) = omega arith in
      subst (λ (n : ℕ). Sized r size seals n words) z (divided_at (k + length d) blocks words rest D)

  -- ---- the part-filled block, with a record more

  module _ (k : ℕ) (part ys : List ℕ) (F : Filling r size seals k part) (one : length ys ≡ r) where
    more_long : length (part ++ ys) ≡ length part + r
    more_long = length-append part ys ∙ ap (λ (n : ℕ). length part + n) one

    more_whole : length (part ++ ys) ≡ suc F.records * r
    more_whole = omega (arith, more_long, F.whole, suc-mul F.records r)

    pub filling_more : length part + r + r ≤ size → Filling r size seals k (part ++ ys)
    filling_more l = record { records = suc F.records; whole = more_whole; room = omega (arith, more_long); unsealed = F.unsealed }

    -- it is full
    pub filling_full : 1 ≤ r → size < length part + r + r → Sized r size seals k (part ++ ys)
    filling_full some l = record {
      records = suc F.records;
      whole = more_whole;
      some = omega (arith, more_long);
      fits = omega (arith, more_long, F.room);
      ends = inl (omega (arith, more_long));
      within = λ p e f. absurd (omega (arith, F.unsealed p e));
    }

  -- it is sealed early
  pub filling_sealed : (k p : ℕ) (part : List ℕ) → Filling r size seals k part → 1 ≤ length part → p ≡ k + length part
      → Sized r size (p ∷ seals) k part
  filling_sealed k p part F some at = record {
    records = F.records;
    whole = F.whole;
    some = some;
    fits = omega (arith, F.room);
    ends = inr (ap (is_sealed (p ∷ seals)) (sym at) ∙ new_sealed p);
    within = λ q e f. which_sealed (k + length part ≤ q) p q e (λ h. omega arith) (λ h. absurd (omega (arith, F.unsealed q h)));
  }

  -- the next one has no word
  pub filling_none : (k : ℕ) → r ≤ size → ((p : ℕ) → is_sealed seals p ≡ true → p ≤ k) → Filling r size seals k []
  filling_none k l u = record { records = 0; whole = sym (zero-mul r); room = omega arith; unsealed = u }
