-- Bytes without a line feed are passed over. Assumes nothing.
use mathlib.Core.Path.{◌≡◌, refl, sym, ap, ◌∙◌}
use mathlib.Core.Bool.{Bool, true, false, not, cond, ◌&&◌}
use mathlib.Core.List.{List, [], ◌∷◌}
use Prim.Native.Nat.{ℕ, zero, suc, ◌+◌, ◌≤◌, ◌<◌}
use native.Mathlib.Numerals.{add-one}
use native.Mathlib.Omega.{arith}
use lib.Dec.{eqb}
use lib.ListN.{length, get_or, take, drop, length-drop, drop_of_length-le}
use lib.Seq.{drop-cons, drop-drop}
use Rattle.area.specs.Lists.{all_of}
use Rattle.area.proofs.Walks.{and_left, and_right}
use Rattle.session_line.specs.Lines.{feed, feed_at, feedless}

-- ---- a walk that keeps what it found so far

and_all : (a b c : Bool) → (a && (b && c)) ≡ ((a && b) && c)
and_all true b c = refl
and_all false b c = refl

and_none : (a : Bool) → (a && true) ≡ a
and_none true = refl
and_none false = refl

module _ (test : ℕ → Bool) (xs : List ℕ) (i : ℕ) (w so : Bool) where
  pub so_far : i < length xs → w ≡ (so && all_of test (drop i xs)) → w ≡ ((so && test (get_or xs i 0)) && all_of test (drop (i + 1) xs))
  unfolding all_of
  so_far h inv =
      let e : (so && all_of test (drop i xs)) ≡ (so && (test (get_or xs i 0) && all_of test (drop (i + 1) xs))) = rw (add-one, drop-cons xs i 0) in
      inv ∙ e ∙ and_all so (test (get_or xs i 0)) (all_of test (drop (i + 1) xs))

  pub so_all : length xs ≤ i → w ≡ (so && all_of test (drop i xs)) → so ≡ w
  unfolding all_of
  so_all h inv = let e : (so && all_of test (drop i xs)) ≡ (so && true) = rw (drop_of_length-le xs h) in sym (inv ∙ e ∙ and_none so)

-- ---- a piece without a line feed

not_flag : (b : Bool) → not b ≡ true → b ≡ false
not_flag true e = sym e
not_flag false e = refl

feed_past : (n : ℕ) (xs : List ℕ) → n ≤ length xs → feedless (take n xs) ≡ true → feed_at xs ≡ n + feed_at (drop n xs)
unfolding feedless feed_at all_of
feed_past zero xs h e = omega arith
feed_past (suc n) [] h e = absurd (omega arith)
feed_past (suc n) (x ∷ xs) h e =
    let first = not_flag (eqb x feed) (and_left (not (eqb x feed)) _ e) in
    let rest = feed_past n xs (omega arith) (and_right (not (eqb x feed)) _ e) in
    let here : cond (eqb x feed) 0 (suc (feed_at xs)) ≡ suc (feed_at xs) = rw first in
    here ∙ omega (arith, rest)

pub stride_over : (xs : List ℕ) (i n w : ℕ) → i + n ≤ length xs → w ≡ i + feed_at (drop i xs) → feedless (take n (drop i xs)) ≡ true → w ≡ i + n + feed_at (drop (i + n) xs)
stride_over xs i n w h inv e =
    let past = feed_past n (drop i xs) (omega (arith, length-drop i xs)) e in
    let same : drop n (drop i xs) ≡ drop (i + n) xs = drop-drop n i xs in
    let there : feed_at (drop n (drop i xs)) ≡ feed_at (drop (i + n) xs) = ap feed_at same in
    omega (arith, inv, past, there)
