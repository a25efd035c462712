-- The logical sum: it is a word, does not depend on the order of the words, may be taken in stretches, and is the plain total with
-- every carry put back at once. Assumes nothing.
use Rattle.std.proofs.Common.{◌≡◌, ℕ, ◌+◌, ◌-◌, ◌*◌, ◌%◌, ◌^◌, ◌<◌, ◌≤◌, true, false, ◌&&◌, List, [], ◌∷◌, ◌++◌, length, get_or, drop, sym, refl, ap, ◌∙◌, subst, zero-le, add-zero, add_assoc, mod-eq_of_lt, zero-add, add-one, arith, lit<, drop_of_length-le, drop-cons, ltb-true}
use mathlib.Core.List.{Permᴰ}
use native.Mathlib.Nat.{mod-add-mod}
use lib.Pow.{le_ones}
use Rattle.area.specs.Lists.{all_of}
use Rattle.area.specs.Parts.{is_word}
use Rattle.area.proofs.Walks.{by_test, and_left, and_right, all_append}
use Rattle.word.specs.declared.sums.Summed.{Summed}
use Rattle.word.specs.Sums.{carry_back, sum_from, logical_sum, summed}
use Rattle.word.specs.Totals.{total, reduced}
use Rattle.word.proofs.Laws.Carry.{carry_lt, carry_reduced, reduced_add, reduced_small}

-- what "every word is below 2^36" says of the first word and of the others
module _ (w : ℕ) (ws : List ℕ) where
  pub head_word : all_of is_word (w ∷ ws) ≡ true → w < 2 ^ 36
  unfolding all_of
  head_word all = ltb-true w (2 ^ 36) (and_left (is_word w) _ all)

  pub tail_words : all_of is_word (w ∷ ws) ≡ true → all_of is_word ws ≡ true
  unfolding all_of
  tail_words all = and_right (is_word w) _ all

-- ---- the sum is a word

pub sum_lt : (ws : List ℕ) (s : ℕ) → s < 2 ^ 36 → all_of is_word ws ≡ true → sum_from s ws < 2 ^ 36
unfolding sum_from
sum_lt [] s h all = h
sum_lt (w ∷ ws) s h all = sum_lt ws (carry_back 36 s w) (carry_lt 36 s w h (head_word w ws all)) (tail_words w ws all)

pub logical_sum_lt : (ws : List ℕ) → all_of is_word ws ≡ true → logical_sum ws < 2 ^ 36
unfolding logical_sum
logical_sum_lt ws all = sum_lt ws 0 (lit< tt) all

-- ---- the plain total, with every carry put back at once

pub sum_total : (ws : List ℕ) (s : ℕ) → s < 2 ^ 36 → all_of is_word ws ≡ true → sum_from s ws ≡ reduced (2 ^ 36 - 1) (s + total ws)
unfolding sum_from total
sum_total [] s h all = sym (reduced_small (2 ^ 36 - 1) s (le_ones 36 h)) ∙ ap (reduced (2 ^ 36 - 1)) (sym (add-zero s))
sum_total (w ∷ ws) s h all =
    let hw : w < 2 ^ 36 = head_word w ws all in
    sum_total ws (carry_back 36 s w) (carry_lt 36 s w h hw) (tail_words w ws all)
    ∙ ap (λ (n : ℕ). reduced (2 ^ 36 - 1) (n + total ws)) (carry_reduced 36 s w h hw)
    ∙ reduced_add (2 ^ 36 - 1) (s + w) (total ws)
    ∙ ap (reduced (2 ^ 36 - 1)) (add_assoc s w (total ws))

pub logical_sum_total : (ws : List ℕ) → all_of is_word ws ≡ true → logical_sum ws ≡ reduced (2 ^ 36 - 1) (total ws)
unfolding logical_sum
logical_sum_total ws all = sum_total ws 0 (lit< tt) all ∙ ap (reduced (2 ^ 36 - 1)) (zero-add (total ws))

total_le : (ws : List ℕ) → all_of is_word ws ≡ true → total ws ≤ length ws * 2 ^ 36
unfolding total
total_le [] all = zero-le
total_le (w ∷ ws) all = omega (arith, head_word w ws all, total_le ws (tail_words w ws all))

-- up to 2^20 words the total fits 64 bits
pub total_fits : (ws : List ℕ) → all_of is_word ws ≡ true → length ws ≤ 2 ^ 20 → reduced (2 ^ 36 - 1) (total ws % 2 ^ 64) ≡ logical_sum ws
total_fits ws all h =
    let fits : total ws < 2 ^ 64 = omega (arith, total_le ws all) in
    ap (reduced (2 ^ 36 - 1)) (mod-eq_of_lt fits) ∙ sym (logical_sum_total ws all)

-- ---- the order of the words does not matter

total_order : {xs ys : List ℕ} → Permᴰ xs ys → total xs ≡ total ys
unfolding total
total_order Permᴰ.nil = refl
total_order (Permᴰ.cons {l₁ = xs} {l₂ = ys} e p) = omega (arith, e, total_order p)
total_order (Permᴰ.swap {l = l} e f) = omega (arith, e, f)
total_order (Permᴰ.trans p q) = total_order p ∙ total_order q

pub logical_sum_order : {xs ys : List ℕ} → Permᴰ xs ys → all_of is_word xs ≡ true → all_of is_word ys ≡ true → logical_sum xs ≡ logical_sum ys
logical_sum_order {xs} {ys} p hx hy =
    logical_sum_total xs hx ∙ ap (reduced (2 ^ 36 - 1)) (total_order p) ∙ sym (logical_sum_total ys hy)

-- ---- a sum taken in stretches

pub sum_append : (xs ys : List ℕ) (s : ℕ) → sum_from s (xs ++ ys) ≡ sum_from (sum_from s xs) ys
unfolding sum_from
sum_append [] ys s = refl
sum_append (x ∷ xs) ys s = sum_append xs ys (carry_back 36 s x)

-- a stretch is added as its own logical sum
pub sum_stretch : (ws : List ℕ) (s : ℕ) → s < 2 ^ 36 → all_of is_word ws ≡ true → sum_from s ws ≡ carry_back 36 s (logical_sum ws)
sum_stretch ws s h all =
    let m : ℕ = 2 ^ 36 - 1 in
    sum_total ws s h all
    ∙ ap (reduced m) (omega arith)
    ∙ sym (reduced_add m (total ws) s)
    ∙ ap (λ (n : ℕ). reduced m (n + s)) (sym (logical_sum_total ws all))
    ∙ ap (reduced m) (omega arith)
    ∙ sym (carry_reduced 36 s (logical_sum ws) h (logical_sum_lt ws all))

-- the words that are left, of which the first are a stretch
module _ (left part rest : List ℕ) (split : left ≡ part ++ rest) where
  pub stretch_words : all_of is_word left ≡ (all_of is_word part && all_of is_word rest)
  stretch_words = ap (all_of is_word) split ∙ all_append is_word part rest

  pub stretch_added : (s : ℕ) → s < 2 ^ 36 → all_of is_word part ≡ true → sum_from (carry_back 36 s (logical_sum part)) rest ≡ sum_from s left
  stretch_added s hs all =
      sym (ap (sum_from s) split ∙ sum_append part rest s ∙ ap (λ (n : ℕ). sum_from n rest) (sum_stretch part s hs all))

-- nothing is left to add
pub sum_done : (left : List ℕ) (s : ℕ) → length left ≡ 0 → sum_from s left ≡ s
unfolding sum_from
sum_done [] s h = refl
sum_done (w ∷ ws) s h = absurd (omega arith)

pub words_done : (left : List ℕ) → length left ≡ 0 → all_of is_word left ≡ true
unfolding all_of
words_done [] h = refl
words_done (w ∷ ws) h = absurd (omega arith)

-- ---- what one pass tells

module _ (ws : List ℕ) (r : Summed) (e : r ≡ summed ws) where
  pub summed_fits : r.fits ≡ all_of is_word ws
  unfolding summed
  summed_fits = ap (λ (x : Summed). x.fits) e

  pub summed_sum : all_of is_word ws ≡ true → r.sum ≡ logical_sum ws
  unfolding summed
  summed_sum all = ap (λ (x : Summed). x.sum) e ∙ rw all

  pub summed_none : all_of is_word ws ≡ false → r.sum ≡ 0
  unfolding summed
  summed_none tall = ap (λ (x : Summed). x.sum) e ∙ rw tall

  pub summed_lt : r.sum < 2 ^ 36
  unfolding summed
  summed_lt =
      by_test (λ b. all_of is_word ws ≡ b → r.sum < 2 ^ 36) (all_of is_word ws)
      (λ t all. subst (λ (n : ℕ). n < 2 ^ 36) (sym (summed_sum all)) (logical_sum_lt ws all))
      (λ t tall. subst (λ (n : ℕ). n < 2 ^ 36) (sym (summed_none tall)) (lit< tt)) refl

pub summed_of : (ws : List ℕ) (s : ℕ) → all_of is_word ws ≡ true → s ≡ logical_sum ws → record { fits = true; sum = s } ≡ summed ws
unfolding summed
summed_of ws s all e = rw all (ap (λ (n : ℕ). record { fits = true; sum = n }) e)

pub summed_tall : (ws : List ℕ) → all_of is_word ws ≡ false → record { fits = false; sum = 0 } ≡ summed ws
unfolding summed
summed_tall ws tall = rw tall

-- ---- one turn of the loop that totals

pub total_step : (ws : List ℕ) (i : ℕ) → i < length ws → total (drop i ws) ≡ get_or ws i 0 + total (drop (i + 1) ws)
unfolding total
total_step ws i h = rw (add-one, drop-cons ws i 0)

pub total_done : (ws : List ℕ) (i : ℕ) → length ws ≤ i → total (drop i ws) ≡ 0
unfolding total
total_done ws i h = ap total (drop_of_length-le ws h)

-- a total that wraps at 64 bits, one word more
pub wrapped_step : (t w rest : ℕ) → ((t + w) % 2 ^ 64 + rest) % 2 ^ 64 ≡ (t + (w + rest)) % 2 ^ 64
wrapped_step t w rest = mod-add-mod (t + w) (2 ^ 64) rest ∙ ap (λ (n : ℕ). n % 2 ^ 64) (add_assoc t w rest)
