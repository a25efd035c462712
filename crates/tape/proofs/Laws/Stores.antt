-- Laws of bytes stored one after the other, and of tests of room. Assumes nothing.
use mathlib.Core.Path.{◌≡◌, refl, sym, ap, ◌∙◌}
use mathlib.Core.Bool.{false}
use mathlib.Core.List.{List, [], ◌∷◌, ◌++◌, append_assoc}
use Prim.Native.Nat.{ℕ, suc, ◌+◌, ◌-◌, ◌*◌, ◌/◌, ◌≤◌}
use native.Mathlib.Omega.{arith}
use borrow.Author.Tests.{leb-true, le-leb}
use lib.Dec.{leb}
use lib.ListN.{length, set}
use lib.Seq.{sets-eq}
use Rattle.area.specs.Parts.{paste}
use Rattle.area.proofs.Joins.{paste_paste}
use Rattle.area.proofs.Walks.{by_test, true_not_false}

-- four and six bytes stored
pub four_stored : (at a b c d : ℕ) (xs : List ℕ) → at + 4 ≤ length xs
    → set (set (set (set xs at a) (at + 1) b) (at + 2) c) (at + 3) d ≡ paste at (a ∷ b ∷ c ∷ d ∷ []) xs
unfolding paste
four_stored at a b c d xs h =
    let e1 : at + 1 ≡ suc at = omega arith in
    let e2 : at + 2 ≡ suc (suc at) = omega arith in
    let e3 : at + 3 ≡ suc (suc (suc at)) = omega arith in
    rw (e1, e2, e3) (simp append_assoc at (sets-eq (a ∷ b ∷ c ∷ d ∷ []) xs at h))

pub six_stored : (at a b c d e f : ℕ) (xs : List ℕ) → at + 6 ≤ length xs
    → set (set (set (set (set (set xs at a) (at + 1) b) (at + 2) c) (at + 3) d) (at + 4) e) (at + 5) f ≡ paste at (a ∷ b ∷ c ∷ d ∷ e ∷ f ∷ []) xs
unfolding paste
six_stored at a b c d e f xs h =
    let e1 : at + 1 ≡ suc at = omega arith in
    let e2 : at + 2 ≡ suc (suc at) = omega arith in
    let e3 : at + 3 ≡ suc (suc (suc at)) = omega arith in
    let e4 : at + 4 ≡ suc (suc (suc (suc at))) = omega arith in
    let e5 : at + 5 ≡ suc (suc (suc (suc (suc at)))) = omega arith in
    rw (e1, e2, e3, e4, e5) (simp append_assoc at (sets-eq (a ∷ b ∷ c ∷ d ∷ e ∷ f ∷ []) xs at h))

-- one piece more after those that are written
pub paste_more : (at n : ℕ) (ys zs xs out new : List ℕ) → length ys ≡ n → at + n ≤ length xs → out ≡ paste at ys xs → new ≡ paste (at + n) zs out
    → new ≡ paste at (ys ++ zs) xs
paste_more at n ys zs xs out new long room o w = w ∙ ap (paste (at + n) zs) o ∙ paste_paste at n ys zs xs long room

-- two tests that hold together are one
pub leb_same : (a b c d : ℕ) → (a ≤ b → c ≤ d) → (c ≤ d → a ≤ b) → leb a b ≡ leb c d
leb_same a b c d f g =
    by_test (λ t. leb a b ≡ t → t ≡ leb c d) (leb a b) (λ t e. sym (le-leb c d (f (leb-true a b e))))
    (λ t e. by_test (λ u. leb c d ≡ u → false ≡ u) (leb c d) (λ u k. true_not_false (le-leb a b (g (leb-true c d k))) e) (λ u k. refl) refl) refl

-- n bytes have room after a place if what is left there has it; n words of six bytes likewise
pub room_left : (len at n : ℕ) → at ≤ len → leb n (len - at) ≡ leb (at + n) len
room_left len at n h = leb_same n (len - at) (at + n) len (λ k. omega arith) (λ k. omega arith)

pub sixes_left : (len at n : ℕ) → at ≤ len → leb n ((len - at) / 6) ≡ leb (at + 6 * n) len
sixes_left len at n h = leb_same n ((len - at) / 6) (at + 6 * n) len (λ k. omega arith) (λ k. omega arith)
