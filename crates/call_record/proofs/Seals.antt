-- A block sealed where it lies in the area: the buffer's part, sealed and put back. Assumes nothing.
use mathlib.Core.Path.{◌≡◌, refl, sym, ap, ◌∙◌}
use mathlib.Core.Bool.{Bool, true, false, cond, ◌||◌}
use mathlib.Core.List.{List, [], ◌++◌}
use Prim.Native.Nat.{ℕ, ◌+◌, ◌-◌, ◌≤◌, ◌<◌, min}
use native.Mathlib.Omega.{arith}
use lib.Dec.{eqb, leb}
use borrow.Author.Tests.{leb-true, leb-false}
use lib.ListN.{length, take, drop, set, length-set}
use lib.Seq.{drop-drop}
use Rattle.area.specs.Parts.{part_of, paste}
use Rattle.area.proofs.Pastes.{length_part, part_past, part_all, paste_nothing}
use Rattle.word.specs.Sums.{logical_sum}
use Rattle.word.specs.CheckWords.{check_word}
use Rattle.block.specs.Blocks.{block_seal_refusal, with_check_word, sealed_block}
use Rattle.call_record.specs.Blocks.{sealed_in}

module _ (n : ℕ) (sequence check : Bool) (number : ℕ) where
  -- a seal writes one word at most, in its place
  pub length_sealed : (block : List ℕ) → length (sealed_block block n sequence check number) ≡ length block
  unfolding sealed_block with_check_word
  length_sealed block = go (eqb (block_seal_refusal block n sequence check number) 0) (sequence || check)
    where
      go : (s t : Bool) → length (cond s (cond t (set block n (check_word sequence check (logical_sum (take n block)) number)) block) block) ≡ length block
      go true true = length-set block n _
      go true false = refl
      go false t = refl

  sealed_nothing : sealed_block [] n sequence check number ≡ []
  unfolding sealed_block with_check_word
  sealed_nothing = go (eqb (block_seal_refusal [] n sequence check number) 0) (sequence || check)
    where
      go : (s t : Bool) → cond s (cond t (set [] n (check_word sequence check (logical_sum (take n [])) number)) []) [] ≡ []
      go true true = refl
      go true false = refl
      go false t = refl

  -- a buffer that begins past the end of the area has no words
  pub sealed_past : (at w : ℕ) (area : List ℕ) → length area ≤ at → area ≡ sealed_in at w n sequence check number area
  unfolding sealed_in
  sealed_past at w area h =
      sym (ap (λ (l : List ℕ). paste at (sealed_block l n sequence check number) area) (part_past at w area h)
      ∙ ap (λ (l : List ℕ). paste at l area) sealed_nothing
      ∙ paste_nothing at area)

  -- a part of k words that is all that the area has of the buffer, sealed and put back
  pub sealed_back : (at w k : ℕ) (area block : List ℕ) → at + k ≤ length area → part_of at k area ≡ part_of at w area
      → block ≡ sealed_block (part_of at k area) n sequence check number → take at area ++ (block ++ drop k (drop at area)) ≡ sealed_in at w n sequence check number area
  unfolding sealed_in paste
  sealed_back at w k area block fit same e =
      let long : length block ≡ k = ap length e ∙ length_sealed (part_of at k area) ∙ length_part at k area fit in
      let whole : block ≡ sealed_block (part_of at w area) n sequence check number = e ∙ ap (λ (l : List ℕ). sealed_block l n sequence check number) same in
      ap (λ (l : List ℕ). take at area ++ (block ++ l)) (drop-drop k at area ∙ ap (λ (j : ℕ). drop (at + j) area) (sym long))
      ∙ ap (λ (l : List ℕ). take at area ++ (l ++ drop (at + length l) area)) whole

  -- the buffer ends where the area does, if that is sooner
  pub sealed_end : (at w e : ℕ) (area block : List ℕ) → at < length area → e ≡ min (length area) (at + w)
      → block ≡ sealed_block (part_of at (e - at) area) n sequence check number
      → take at area ++ (block ++ drop (e - at) (drop at area)) ≡ sealed_in at w n sequence check number area
  sealed_end at w e area block h m b = sealed_back at w (e - at) area block (omega arith) (same (leb (length area - at) w) refl) b
    where
      same : (t : Bool) → leb (length area - at) w ≡ t → part_of at (e - at) area ≡ part_of at w area
      same true r =
          let l : length area - at ≤ w = leb-true _ _ r in
          part_all at (e - at) area (omega arith) ∙ sym (part_all at w area l)
      same false r =
          let l : w < length area - at = leb-false _ _ r in
          let k : e - at ≡ w = omega arith in
          ap (λ (j : ℕ). part_of at j area) k
